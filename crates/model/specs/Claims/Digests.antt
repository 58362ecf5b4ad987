-- Digests: when a digest command answers 0, what it answers and stores, that the partition then passes its check, and that a digest is never written in part.
use Rattle.std.specs.Prelude.{ℕ, ◌/◌, ◌%◌, ◌^◌, ◌<◌, ◌≡◌, true, false, List, [], ◌∷◌, ◌++◌, ◌↔◌, length, Ok}
use Rattle.words.specs.Words.{words_of}
use Rattle.words.specs.Programming.{program_answer}
use Rattle.partitions.specs.Map.{Map, rights_of, number_at, partition, partition_at, limit, in_digest}
use Rattle.model.specs.declared.Command.{Command}
use Rattle.model.specs.declared.Command.TheVariants.{Write, Digest, PowerUp}
use Rattle.model.specs.Answers.{Answer, code_of}
use Rattle.model.specs.Session.{is_ready, sensed_at, sensed_locked}
use Rattle.model.specs.Lent.{Machine, Primitives}
use Rattle.model.specs.Commands.{digest_rule, stored_digest}
use Rattle.model.specs.Step.{after, machine_after, answer_to}
use Rattle.model.specs.Claims.Terms.{ValidInputs, Says, Put, Digested, writing_of, writes_at, digests_at, writes_nothing}
use Rattle.model.specs.Claims.Numbers.{Hardware, LowestBurnt, digest_of}
use Rattle.model.specs.declared.Phase.TheVariants as phase

-- the command puts a number of 64 bits in the digest of partition n, whole: a write of it there, or a digest command that answers it; and it answers 0
pub data Puts (map : Map) (n digest : ℕ) : Command → Answer → Type 0 where
  writes : {a value : ℕ} → number_at map a ≡ n → in_digest (partition map n) a ≡ true → value % 2 ^ 64 ≡ digest → Puts map n digest (Write a value) (Ok 0)
  computes : {a value : ℕ} → a ≡ (partition map n).start → value % 2 ^ 64 ≡ digest → Puts map n digest (Digest a) (Ok value)

-- the command is no write to data of partition n that answers 0
abbrev pub data_not_written : Map → ℕ → Command → Answer → Type 0
data_not_written map n x answer =
    elim (writing_of x) [
      | writes_at a value ↦ number_at map a ≡ n → in_digest (partition_at map a) a ≡ false → code_of answer ≡ 0x00 → ⊥
      | digests_at a ↦ Unit {0}
      | writes_nothing ↦ Unit {0}
    ]

module _ (prims : Primitives) (map : Map) where
  -- no write to data of partition n in these commands answers 0
  unfoldable pub DataNotWritten : ℕ → List Command → Machine → Type 0
  DataNotWritten n [] m = Unit {0}
  DataNotWritten n (x ∷ l) m = data_not_written map n x (answer_to prims map x m) × DataNotWritten n l (machine_after prims map x m)

  -- the digest of a partition's data words as they are stored now
  abbrev pub digest_now : ℕ → Machine → ℕ
  digest_now n m = digest_of prims map m.lent.constants n m.lent.cells

  -- "the address is exactly the start of 2, 3, 4 or 5 and its sensed digest is zero"
  pub record DigestAllowed (m : Machine) (a : ℕ) : Type 0 where
    pub number : ℕ
    pub known : number < length map
    pub hardware : Hardware (partition map number).kind
    pub start : a ≡ (partition map number).start
    pub unlocked : sensed_at m.session number ≡ 0

  -- the rules allow a digest command of the partition at this address, past 0x10 and 0x12: Ready, "exactly the start of 2, 3, 4 or 5 and its sensed digest is
  -- zero", and no word of the digest is refused
  pub record Digestible (m : Machine) (a : ℕ) : Type 0 where
    pub ready : is_ready m.session.phase ≡ true
    pub below : a < limit map
    pub hardware : (rights_of (partition_at map a).kind).hardware ≡ true
    pub start : a ≡ (partition_at map a).start
    pub not_locked : sensed_locked m.session (number_at map a) ≡ false
    pub takes : program_answer digest_rule m.lent.cells ((partition_at map a).digest / 2) (words_of 4 (digest_now (number_at map a) m)) ≡ Ok tt

  -- where a digest comes from that partition n holds after the commands l: it was there before them, or one of them put it there
  pub data Source (m : Machine) (l : List Command) (n digest : ℕ) : Type 0 where
    found : stored_digest (partition map n) m.lent.cells ≡ digest → Source m l n digest
    put : (l₁ : List Command) (x : Command) (l₂ : List Command) → l ≡ l₁ ++ x ∷ l₂
        → Puts map n digest x (answer_to prims map x (after prims map l₁ m)) → Source m l n digest

  pub record Digests : Type 0 where
    -- a digest command answers 0 where it is allowed, and nowhere else
    pub exactly : (m : Machine) → ValidInputs map m → (a : ℕ) → (code_of (answer_to prims map (Digest a) m) ≡ 0x00) ↔ Digestible m a
    -- "5 unless" it is at such a start, then 4 with the lowest word of its location that is not zero
    pub codes : (m : Machine) → ValidInputs map m → m.session.phase ≡ phase.Ready → (a : ℕ)
        → let answer = answer_to prims map (Digest a) m in
        (Says 0x05 0 answer ↔ (DigestAllowed m a → ⊥))
        × ((i : ℕ) → Says 0x04 i answer ↔ (DigestAllowed m a × LowestBurnt m.lent.cells ((partition_at map a).digest / 2) 4 i))
    -- "Computes over the stored data words, programs the digest location, answers the digest."
    pub done : (m : Machine) → ValidInputs map m → (a : ℕ) → code_of (answer_to prims map (Digest a) m) ≡ 0x00
        → (answer_to prims map (Digest a) m ≡ Ok (digest_now (number_at map a) m))
        × Put digest_rule ((partition_at map a).digest / 2) (words_of 4 (digest_now (number_at map a) m)) m.lent.cells
        (machine_after prims map (Digest a) m).lent.cells
    -- the location holds it, whole: what it holds is the digest of the stored words
    pub stored : (m : Machine) → ValidInputs map m → (a : ℕ) → code_of (answer_to prims map (Digest a) m) ≡ 0x00
        → stored_digest (partition_at map a) (machine_after prims map (Digest a) m).lent.cells ≡ digest_now (number_at map a) m
    -- "a nonzero stored digest must equal the one recomputed": from a digest command that answers 0 on, no power-up answers 6 for the partition, until a write
    -- to its data answers 0
    pub checks : (m : Machine) → ValidInputs map m → (a : ℕ) → code_of (answer_to prims map (Digest a) m) ≡ 0x00
        → (l : List Command) → DataNotWritten (number_at map a) l (machine_after prims map (Digest a) m)
        → Says 0x06 (number_at map a) (answer_to prims map PowerUp (after prims map l (machine_after prims map (Digest a) m))) → ⊥
    -- a digest is never written in part: after any list it is whole the one that was there before, or the one that a single command of the list put there
    pub whole : (m : Machine) → ValidInputs map m → (n : ℕ) → Digested map n → (l : List Command)
        → Source m l n (stored_digest (partition map n) (after prims map l m).lent.cells)
