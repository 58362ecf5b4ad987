-- The commands but power-up, each in the paper's order of refusals, over any primitives and map. What each may do is in the sentence above it. Addresses and
-- numbers there are those of Map 1: "0x10, 0x06 and the address limit read from the map in use; where 01 or Two numbers or counts partitions, their kind
-- decides." (request Six)
use Rattle.std.specs.Prelude.{ℕ, suc, ◌+◌, ◌-◌, ◌/◌, Bool, not, ◌&&◌, ◌||◌, List, eqb, leb, ltb, Ok, Err, Option, Some, None}
use Rattle.basics.specs.Choice.{when◌then◌else◌}
use Rattle.words.specs.declared.Rule.{Rule}
use Rattle.words.specs.declared.Rule.TheVariants.{KeepBits, BlankOnly}
use Rattle.words.specs.Words.{number_of, words_of, part_at}
use Rattle.partitions.specs.declared.Kind.{Kind}
use Rattle.partitions.specs.declared.Kind.TheVariants as kind
use Rattle.partitions.specs.declared.Partition.{Partition}
use Rattle.partitions.specs.Map.{Map, rights_of, number_at, partition, partition_at, limit, in_digest, first_word, word_count, number_of_kind}
use Rattle.life_cycle.specs.declared.Token.{Token}
use Rattle.life_cycle.specs.declared.Token.TheVariants.{Nothing, RawUnlock, TestUnlock, TestExit, Rma}
use Rattle.life_cycle.specs.Words.{counter_words, state_words}
use Rattle.life_cycle.specs.Transitions.{table_entry}
use Rattle.model.specs.declared.Session.{Session}
use Rattle.model.specs.declared.Failure.{Failure}
use Rattle.model.specs.declared.Failure.TheVariants.{Denied, NotReady, UnknownTarget, StrokesUsed, NotInTable, TokenNotLocked, TokenDiffers}
use Rattle.model.specs.declared.Command.{Command}
use Rattle.model.specs.declared.Command.TheVariants.{Read, Write, FrontRead, Digest, ReadLock, Transition, PowerUp}
use Rattle.model.specs.Session.{is_ready, sensed_locked, read_locked}
use Rattle.constants.specs.Constants.{key_of, digest_start, digest_final, raw_unlock_hash}
use Rattle.model.specs.Lent.{Lent, Machine, Primitives}
use Rattle.model.specs.Acts.{no_effect, lock, to_inert, to_dead, Act, say, program, compare, refuse}

-- "A direct access write, or a digest command, is now refused with 4 if any word of its target granule is nonzero, whatever the value. LIFE_CYCLE
-- words keep the old rule." (request Three) "AUTH_STATE data, like LIFE_CYCLE, keeps the old rule" (request Six).
unfoldable pub direct_rule : Partition → ℕ → Rule
direct_rule p a = when (rights_of p.kind).additive && not (in_digest p a) then KeepBits else BlankOnly

abbrev pub digest_rule : Rule
digest_rule = BlankOnly

abbrev pub life_cycle_rule : Rule
life_cycle_rule = KeepBits

-- "the value is the granule's, a 4-byte one in the low half": of an address, in the cells or in the copy
unfoldable pub granule : Partition → List ℕ → ℕ → ℕ
granule p words a = number_of (part_at words (first_word p a) (word_count p a))

-- the digest's four words in the cells
unfoldable pub stored_digest : Partition → List ℕ → ℕ
stored_digest p cells = number_of (part_at cells (p.digest / 2) 4)

-- the data words, as stored
unfoldable pub data_words : Partition → List ℕ → List ℕ
data_words p cells = part_at cells (p.start / 2) (p.digest / 2 - p.start / 2)

-- where a token is stored: the partition's kind, and the first word of 16 bytes counted from its start.
-- "SECRET0 (TEST_UNLOCK, TEST_EXIT, 16 bytes each) .. SECRET2 (RMA token 16, ..)". `Nothing` and `RawUnlock` are not stored there, and
-- `authorization` never asks for their place.
unfoldable pub token_kind : Token → Kind
token_kind Nothing = kind.Secret0
token_kind RawUnlock = kind.Secret0
token_kind TestUnlock = kind.Secret0
token_kind TestExit = kind.Secret0
token_kind Rma = kind.Secret2

unfoldable pub token_offset : Token → ℕ
token_offset Nothing = 0
token_offset RawUnlock = 0
token_offset TestUnlock = 0
token_offset TestExit = 8
token_offset Rma = 0

-- When a command on an address of the map is denied (5), by the partition of the address; `locked`: it is sensed locked. Past the map every address is.

-- Write: "in LIFE_CYCLE, in the digest of 2 to 5, or in a partition with a nonzero sensed digest" (no direct access; a hardware digest)
unfoldable pub write_denied : Bool → Partition → ℕ → Bool
write_denied locked p a = not (rights_of p.kind).direct || (rights_of p.kind).hardware && in_digest p a || locked

-- Read: "in LIFE_CYCLE; for data, not digests, also if the partition is read-locked or is secret with a nonzero sensed digest"
unfoldable pub read_denied : Bool → Bool → Partition → ℕ → Bool
read_denied locked read_lock p a =
    not (rights_of p.kind).direct
    || not (in_digest p a) && ((rights_of p.kind).lockable && read_lock || (rights_of p.kind).scrambled && locked)

-- Front read: "HW_CFG data ..; any other address 5."
unfoldable pub front_read_denied : Partition → ℕ → Bool
front_read_denied p a = not (rights_of p.kind).front || in_digest p a

-- Digest: "5 unless the address is exactly the start of 2, 3, 4 or 5 and its sensed digest is zero."
unfoldable pub digest_denied : Bool → Partition → ℕ → Bool
digest_denied locked p a = not (rights_of p.kind).hardware || not (eqb a p.start) || locked

module _ (prims : Primitives) where
  -- "Secret data is scrambled, then programmed." "Secret data is unscrambled, a blank block too."
  unfoldable pub scrambled : List ℕ → Partition → ℕ → ℕ
  scrambled constants p x = when (rights_of p.kind).scrambled then prims.encrypt (key_of constants p.kind) x else x

  unfoldable pub unscrambled : List ℕ → Partition → ℕ → ℕ
  unscrambled constants p x = when (rights_of p.kind).scrambled then prims.decrypt (key_of constants p.kind) x else x

  -- the words that a write of a value stores at an address
  abbrev pub stored_form : List ℕ → Partition → ℕ → ℕ → List ℕ
  stored_form constants p a value = words_of (word_count p a) (scrambled constants p value)

  -- what a read answers: "Digests are always readable, plain. .. Reads look at cells; the value is the granule's"
  unfoldable pub read_value : List ℕ → Partition → List ℕ → ℕ → ℕ
  read_value constants p cells a = when in_digest p a then granule p cells a else unscrambled constants p (granule p cells a)

  -- "Computes over the stored data words"
  unfoldable pub computed_digest : List ℕ → Partition → List ℕ → ℕ
  computed_digest constants p cells = prims.digest (digest_start constants) (digest_final constants) (data_words p cells)

  -- "The transition now takes the raw 128-bit token and hashes it .. The hash is compared" with the stored one (request Four)
  unfoldable pub hashes_to : ℕ → ℕ → Bool
  hashes_to given stored = eqb stored (prims.hash given)

module _ (map : Map) where
  -- where the life cycle's 24 counter words start; its 20 state words follow
  unfoldable pub counter_at : ℕ
  counter_at = (partition map (number_of_kind map kind.LifeCycle)).start / 2

  unfoldable pub state_at : ℕ
  state_at = counter_at + 24

  -- "The stored token is that in the sensed copy."
  unfoldable pub stored_token : Token → List ℕ → ℕ
  stored_token token copy = number_of (part_at copy ((partition map (number_of_kind map (token_kind token))).start / 2 + token_offset token) 8)

-- what decides a move once the stroke is spent: it is refused, it is free, or the token given is compared
pub data Authorization : Type 0 where
  refused : Failure → Authorization
  free : Authorization
  by_token : (Lent → Bool) → Authorization

module _ (prims : Primitives) (map : Map) (s : Session) where
  -- "0x22": the token's partition is not sensed locked
  unfoldable pub locked_token : Token → ℕ → Authorization
  locked_token token given =
      when not (sensed_locked s (number_of_kind map (token_kind token))) then refused TokenNotLocked
      else by_token (λ l. hashes_to prims given (stored_token map token l.copy))

  -- "With none, the token is ignored and 0x22, 0x23 aren't given; the RAW token needs no lock."
  unfoldable pub token_authorization : Token → ℕ → Authorization
  token_authorization Nothing given = free
  token_authorization RawUnlock given = by_token (λ l. hashes_to prims given (raw_unlock_hash l.constants))
  token_authorization TestUnlock given = locked_token TestUnlock given
  token_authorization TestExit given = locked_token TestExit given
  token_authorization Rma given = locked_token Rma given

  -- "then 0x21": the transition is not in the table
  unfoldable pub authorization : Option Token → ℕ → Authorization
  authorization None given = refused NotInTable
  authorization (Some token) given = token_authorization token given

module _ (prims : Primitives) (map : Map) (m : Machine) where
  abbrev session : Session
  session = m.session

  abbrev constants : List ℕ
  constants = m.lent.constants

  unfoldable pub write_act : ℕ → ℕ → Act
  write_act a value =
      let p = partition_at map a in
      when leb (limit map) a || write_denied (sensed_locked session (number_at map a)) p a then refuse Denied
      else program (direct_rule p a) (first_word p a) (stored_form prims constants p a value) no_effect (say (Ok 0) no_effect)

  unfoldable pub read_act : ℕ → Act
  read_act a =
      let p = partition_at map a in
      when leb (limit map) a || read_denied (sensed_locked session (number_at map a)) (read_locked session (number_at map a)) p a then refuse Denied
      else say (Ok (read_value prims constants p m.lent.cells a)) no_effect

  -- "Computes over the stored data words, programs the digest location, answers the digest."
  unfoldable pub digest_act : ℕ → Act
  digest_act a =
      let p = partition_at map a in
      let digest = computed_digest prims constants p m.lent.cells in
      when leb (limit map) a || digest_denied (sensed_locked session (number_at map a)) p a then refuse Denied
      else program digest_rule (p.digest / 2) (words_of 4 digest) no_effect (say (Ok digest) no_effect)

  -- "5 unless 0 or 1. Lasts until power-up; locking again answers 0." (0 and 1 are the partitions with a read lock)
  unfoldable pub read_lock_act : ℕ → Act
  read_lock_act number = when not (rights_of (partition map number).kind).lockable then refuse Denied else say (Ok 0) (lock number)

  -- "from the sensed copy"
  unfoldable pub front_read_act : ℕ → Act
  front_read_act a =
      let p = partition_at map a in
      when leb (limit map) a || front_read_denied p a then refuse Denied else say (Ok (granule p m.lent.copy a)) no_effect

  -- "then the 20 state words are programmed"
  unfoldable pub move_act : ℕ → Act
  move_act target = program life_cycle_rule (state_at map) (state_words constants target) to_dead (say (Ok 0) to_inert)

  -- "then 0x21; 0x22; 0x23"
  unfoldable pub authorized_act : Authorization → ℕ → Act
  authorized_act (refused failure) target = say (Err failure) to_inert
  authorized_act free target = move_act target
  authorized_act (by_token test) target = compare test (move_act target) (say (Err TokenDiffers) to_inert)

  -- "Order: 0x20 with no cell changed; then the 24 counter words of one stroke more than the record's count are programmed; then 0x21; 0x22;
  -- 0x23; then the 20 state words". Before them, 7 for a record's state above 20 or count above 24, and "0x11 changes nothing".
  unfoldable pub transition_act : ℕ → ℕ → Act
  transition_act target given =
      when not (leb session.state 20 && leb session.count 24) then refuse NotReady
      else when not (leb target 20) then refuse UnknownTarget
      else when not (ltb session.count 24) then say (Err StrokesUsed) to_inert
      else program life_cycle_rule (counter_at map) (counter_words constants (suc session.count)) to_dead
      (authorized_act (authorization prims map session (table_entry session.state target) given) target)

  -- Power-up is no act (`obey`, in Step.antt): its clause is never asked.
  unfoldable pub command_act : Command → Act
  command_act (Read a) = read_act a
  command_act (Write a value) = write_act a value
  command_act (FrontRead a) = front_read_act a
  command_act (Digest a) = digest_act a
  command_act (ReadLock number) = read_lock_act number
  command_act (Transition target given) = transition_act target given
  command_act PowerUp = refuse NotReady

  -- "phase is not Ready (except at power-up)"
  unfoldable pub ready_act : Command → Act
  ready_act x = when not (is_ready session.phase) then refuse NotReady else command_act x

-- The class of a command, for rules that tell no more apart: power-up, which is no act; transitions; and the others, which leave the phase.
pub data Class : Type 0 where
  sensing : Class
  transiting : Class
  access : Class

abbrev pub class_of : Command → Class
class_of (Read a) = access
class_of (Write a value) = access
class_of (FrontRead a) = access
class_of (Digest a) = access
class_of (ReadLock number) = access
class_of (Transition target given) = transiting
class_of PowerUp = sensing
