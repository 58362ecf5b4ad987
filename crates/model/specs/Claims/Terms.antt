-- The terms that claims of several subjects are stated in (document 01, 'Where the promises have to bite').
use Rattle.std.specs.Prelude.{ℕ, ◌+◌, ◌*◌, ◌^◌, ◌≤◌, ◌<◌, ◌≡◌, true, false, List, [], ◌∷◌, length, get_or, Ok, Option, Some}
use Rattle.words.specs.declared.Rule.{Rule}
use Rattle.words.specs.Words.{number_of, words_of, part_at}
use Rattle.words.specs.Programming.{program_answer}
use Rattle.partitions.specs.Map.{Map, rights_of, number_at, partition, partition_at, limit, in_digest, first_word, word_count}
use Rattle.life_cycle.specs.declared.LifeCycle.{LifeCycle}
use Rattle.constants.specs.Constants.{valid_constants}
use Rattle.model.specs.declared.Command.{Command}
use Rattle.model.specs.declared.Command.TheVariants.{Read, Write, FrontRead, Digest, ReadLock, Transition, PowerUp}
use Rattle.model.specs.Session.{locking}
use Rattle.model.specs.Answers.{Answer, code_of, value_of}
use Rattle.model.specs.Lent.{Machine, Primitives, right_lengths}
use Rattle.model.specs.Commands.{direct_rule, stored_digest, write_denied, stored_form, class_of, sensing, transiting, access}
use Rattle.model.specs.Step.{Step, step, machine_after, answer_to}

-- lent lengths right, cells and constants words of 16 bits, constants valid; what cells, copy and record hold is free
pub record ValidInputs (map : Map) (m : Machine) : Type 0 where
  pub lengths : right_lengths map m.lent ≡ true
  pub valid : valid_constants m.lent.constants ≡ true
  pub words : (i : ℕ) → get_or m.lent.constants i 0 < 65536
  pub fuses : (i : ℕ) → get_or m.lent.cells i 0 < 65536

-- life cycle words that decode to a state and a count
abbrev pub valid_life : ℕ → ℕ → Option LifeCycle
valid_life state count = Some (record { state = state; count = count })

-- what the theorems ask of the cipher, at keys of 128 bits and blocks of 64: a block scrambled or unscrambled is one, and each undoes the other
pub record Cipher (prims : Primitives) : Type 0 where
  pub fits : (key block : ℕ) → key < 2 ^ 128 → block < 2 ^ 64 → prims.encrypt key block < 2 ^ 64
  pub back : (key block : ℕ) → key < 2 ^ 128 → block < 2 ^ 64 → prims.decrypt key (prims.encrypt key block) ≡ block
  pub plain_fits : (key block : ℕ) → key < 2 ^ 128 → block < 2 ^ 64 → prims.decrypt key block < 2 ^ 64
  pub forth : (key block : ℕ) → key < 2 ^ 128 → block < 2 ^ 64 → prims.encrypt key (prims.decrypt key block) ≡ block

-- and of the digest: over words of 16 bits, with a start value of 64 bits and a final key of 128, it is a number of 64 bits
pub record DigestFits (prims : Primitives) : Type 0 where
  pub fits : (start final : ℕ) (words : List ℕ) → start < 2 ^ 64 → final < 2 ^ 128 → ((i : ℕ) → get_or words i 0 < 65536)
      → prims.digest start final words < 2 ^ 64

-- an answer's code and value
abbrev pub Says : ℕ → ℕ → Answer → Type 0
Says code value answer = (code_of answer ≡ code) × (value_of answer ≡ value)

-- "Otherwise the words become the value": every word is taken, they stand there, and no other cell changes
pub record Put (rule : Rule) (at : ℕ) (words before after : List ℕ) : Type 0 where
  pub taken : program_answer rule before at words ≡ Ok tt
  pub holds : part_at after at (length words) ≡ words
  pub others : (j : ℕ) → (at ≤ j → j < at + length words → ⊥) → get_or after j 0 ≡ get_or before j 0

-- a partition of the map that has a digest
pub record Digested (map : Map) (n : ℕ) : Type 0 where
  pub known : n < length map
  pub direct : (rights_of (partition map n).kind).direct ≡ true

-- the words of partition n are the same in the cells c and d
pub record SamePartition (map : Map) (n : ℕ) (c d : List ℕ) : Type 0 where
  pub at : (j : ℕ) → (partition map n).start ≤ 2 * j → 2 * j < (partition map n).end → get_or c j 0 ≡ get_or d j 0

-- equal where both lists have an entry
abbrev pub Agree : {A : Type 0} → List A → List A → Type 0
Agree [] l = Unit {0}
Agree (a ∷ k) [] = Unit {0}
Agree (a ∷ k) (b ∷ l) = (a ≡ b) × Agree k l

-- no power-up
abbrev pub not_power_up : Command → Type 0
not_power_up x = elim (class_of x) [ sensing ↦ ⊥ | transiting ↦ Unit {0} | access ↦ Unit {0} ]

abbrev pub NoPowerUp : List Command → Type 0
NoPowerUp [] = Unit {0}
NoPowerUp (x ∷ l) = not_power_up x × NoPowerUp l

-- neither a power-up nor a transition
abbrev pub quiet : Command → Type 0
quiet x = elim (class_of x) [ sensing ↦ ⊥ | transiting ↦ ⊥ | access ↦ Unit {0} ]

-- Ready lasts "to the next power-up, whatever that answers, or to a transition that answers other than 0x11"
abbrev pub stays_ready : Command → Answer → Type 0
stays_ready x answer = elim (class_of x) [ sensing ↦ ⊥ | transiting ↦ code_of answer ≡ 0x11 | access ↦ Unit {0} ]

-- what a command writes by direct access: a value at an address, the digest of the partition at an address, or nothing
pub data Writing : Type 0 where
  writes_at : ℕ → ℕ → Writing
  digests_at : ℕ → Writing
  writes_nothing : Writing

abbrev pub writing_of : Command → Writing
writing_of (Read a) = writes_nothing
writing_of (Write a value) = writes_at a value
writing_of (FrontRead a) = writes_nothing
writing_of (Digest a) = digests_at a
writing_of (ReadLock number) = writes_nothing
writing_of (Transition target given) = writes_nothing
writing_of PowerUp = writes_nothing

-- the command is no write to the granule of address a that answers 0
abbrev pub not_written : Map → ℕ → Command → Answer → Type 0
not_written map a x answer =
    elim (writing_of x) [
      | writes_at b value ↦ first_word (partition_at map b) b ≡ first_word (partition_at map a) a → code_of answer ≡ 0x00 → ⊥
      | digests_at b ↦ Unit {0}
      | writes_nothing ↦ Unit {0}
    ]

module _ (prims : Primitives) (map : Map) where
  -- "its granule holds the data, scrambled where secret": the words that a write of a value at an address stores
  abbrev pub stored_words : List ℕ → ℕ → ℕ → List ℕ
  stored_words constants a value = stored_form prims constants (partition_at map a) a value

-- "the data used": all 64 bits, or the low half for a granule of 4 bytes
abbrev pub used_value : Map → ℕ → ℕ → ℕ
used_value map a value = number_of (words_of (word_count (partition_at map a) a) value)

module _ (prims : Primitives) (map : Map) where
  -- Ready lasts through these commands
  unfoldable pub Lasts : List Command → Machine → Type 0
  Lasts [] m = Unit {0}
  Lasts (x ∷ l) m = stays_ready x (answer_to prims map x m) × Lasts l (machine_after prims map x m)

  -- no write to the granule of a in these commands answers 0
  unfoldable pub NotWritten : ℕ → List Command → Machine → Type 0
  NotWritten a [] m = Unit {0}
  NotWritten a (x ∷ l) m = not_written map a x (answer_to prims map x m) × NotWritten a l (machine_after prims map x m)

  -- on a chip whose last power-up found the cells c₀ and that holds c now, the rules allow this write: it gives neither 5 nor 4
  pub record Allowed (constants c₀ c : List ℕ) (a value : ℕ) : Type 0 where
    pub below : a < limit map
    pub not_denied : write_denied (locking (stored_digest (partition_at map a) c₀)) (partition_at map a) a ≡ false
    pub takes : program_answer (direct_rule (partition_at map a) a) c (first_word (partition_at map a) a) (stored_words prims map constants a value)
        ≡ Ok tt

  -- "It takes effect: it answers 0, its granule holds the data, scrambled where secret, and no other cell changes."
  pub record TakesEffect (m : Machine) (a value : ℕ) (s : Step) : Type 0 where
    pub done : s.result.answer ≡ Ok 0
    pub holds : let p = partition_at map a in
        part_at s.result.machine.lent.cells (first_word p a) (word_count p a) ≡ stored_words prims map m.lent.constants a value
    pub others : (j : ℕ)
        → (first_word (partition_at map a) a ≤ j → j < first_word (partition_at map a) a + word_count (partition_at map a) a → ⊥)
        → get_or s.result.machine.lent.cells j 0 ≡ get_or m.lent.cells j 0

  -- the verdicts and comparisons of two runs agree, "command by command, where both chips have one"
  unfoldable pub Matched : List Command → Machine → Machine → Type 0
  Matched [] m n = Unit {0}
  Matched (x ∷ l) m n =
      Agree (step prims map x m).compared (step prims map x n).compared
      × Agree (step prims map x m).verdicts (step prims map x n).verdicts
      × Matched l (machine_after prims map x m) (machine_after prims map x n)

-- a secret partition with the same nonzero stored digest on both chips
pub record Hidden (map : Map) (c d : List ℕ) (n : ℕ) : Type 0 where
  pub known : n < length map
  pub secret : (rights_of (partition map n).kind).scrambled ≡ true
  pub equal : stored_digest (partition map n) c ≡ stored_digest (partition map n) d
  pub nonzero : stored_digest (partition map n) c ≡ 0 → ⊥

-- a word in which the two chips may differ: a data word of such a partition
pub record HiddenWord (map : Map) (c d : List ℕ) (j : ℕ) : Type 0 where
  pub hidden : Hidden map c d (number_at map (2 * j))
  pub is_data : in_digest (partition_at map (2 * j)) (2 * j) ≡ false

-- two chips' fuses differ only there
pub record Alike (map : Map) (c₀ d₀ c d : List ℕ) : Type 0 where
  pub at : (j : ℕ) → (HiddenWord map c₀ d₀ j → ⊥) → get_or c j 0 ≡ get_or d j 0
