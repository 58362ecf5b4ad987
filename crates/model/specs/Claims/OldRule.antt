-- "AUTH_STATE data, like LIFE_CYCLE, keeps the old rule under Three and Five." (request Six) Claims over lists that rest on the new rule have it as a premise;
-- what holds of AUTH_STATE data stands here.
use Rattle.std.specs.Prelude.{ℕ, ◌*◌, ◌/◌, ◌<◌, ◌≡◌, false, List, get_or, Ok, Err}
use Rattle.words.specs.declared.Rule.TheVariants.{KeepBits}
use Rattle.words.specs.Words.{words_of, part_at}
use Rattle.words.specs.Programming.{loses_bit, Lowest, Kept}
use Rattle.partitions.specs.declared.Kind.TheVariants.{AuthState}
use Rattle.partitions.specs.declared.Partition.{Partition}
use Rattle.partitions.specs.Map.{Map, partition_at, limit}
use Rattle.model.specs.declared.Failure.TheVariants.{NotBlank}
use Rattle.model.specs.declared.Command.{Command}
use Rattle.model.specs.declared.Command.TheVariants.{Write, PowerUp}
use Rattle.model.specs.Answers.{Answer}
use Rattle.model.specs.Lent.{Machine, Primitives}
use Rattle.model.specs.Commands.{direct_rule, digest_rule, stored_digest}
use Rattle.model.specs.Step.{step, after, machine_after, answer_to}
use Rattle.model.specs.Claims.Terms.{ValidInputs, TakesEffect}
use Rattle.model.specs.Claims.Demand3.{Ready}

-- an address in AUTH_STATE data
pub record InAuthState (map : Map) (a : ℕ) : Type 0 where
  pub below : a < limit map
  pub is_auth_state : (partition_at map a).kind ≡ AuthState
  pub is_data : a < (partition_at map a).digest

-- the two words of its granule, "4 bytes"
abbrev pub two_words : List ℕ → ℕ → List ℕ
two_words cells a = part_at cells (a / 4 * 2) 2

-- what a command that answers so makes of the two words: they stay; or a write to their granule answers 0, has every bit that is 1 in them, and is what they
-- become
pub data Gains (a : ℕ) (words : List ℕ) : Command → Answer → List ℕ → Type 0 where
  stays : {x : Command} {answer : Answer} → Gains a words x answer words
  gains : {b value : ℕ} → b / 4 ≡ a / 4 → Kept words (words_of 2 value) → Gains a words (Write b value) (Ok 0) (words_of 2 value)

module _ (prims : Primitives) (map : Map) where
  pub record OldRule : Type 0 where
    -- a direct access write has the old rule in AUTH_STATE data, and nowhere else
    pub there : (p : Partition) (a : ℕ) → p.kind ≡ AuthState → a < p.digest → direct_rule p a ≡ KeepBits
    pub only : (p : Partition) (a : ℕ) → direct_rule p a ≡ KeepBits → (p.kind ≡ AuthState) × (a < p.digest)
    -- a digest has one rule, whether a write or a digest command is to program it
    pub digests : (p : Partition) → direct_rule p p.digest ≡ digest_rule
    -- a granule of AUTH_STATE data only gains bits, whatever the list, and only by a write to it
    pub granules : (m : Machine) (l : List Command) (x : Command) (a : ℕ) → InAuthState map a
        → let m₁ = after prims map l m in
        Gains a (two_words m₁.lent.cells a) x (answer_to prims map x m₁) (two_words (machine_after prims map x m₁).lent.cells a)
    -- on a Ready chip, where the last power-up found the partition's digest zero, a write there that clears no bit takes effect
    pub taken : (m : Machine) → ValidInputs map m → (l₀ l₁ : List Command) → Ready prims map m l₀ l₁ → (a value : ℕ) → InAuthState map a
        → let m₀ = after prims map l₀ m in
        let m₁ = after prims map l₁ (machine_after prims map PowerUp m₀) in
        stored_digest (partition_at map a) m₀.lent.cells ≡ 0
        → ((i : ℕ) → i < 2 → loses_bit (get_or (two_words m₁.lent.cells a) i 0) (get_or (words_of 2 value) i 0) ≡ false)
        → TakesEffect prims map m₁ a value (step prims map (Write a value) m₁)
    -- and one that clears a bit answers 4 with "the lowest whose bit would be cleared", and changes nothing
    pub refused : (m : Machine) → ValidInputs map m → (l₀ l₁ : List Command) → Ready prims map m l₀ l₁ → (a value : ℕ) → InAuthState map a
        → let m₀ = after prims map l₀ m in
        let m₁ = after prims map l₁ (machine_after prims map PowerUp m₀) in
        stored_digest (partition_at map a) m₀.lent.cells ≡ 0
        → (i : ℕ) → Lowest KeepBits m₁.lent.cells (a / 4 * 2) (words_of 2 value) i
        → (answer_to prims map (Write a value) m₁ ≡ Err (NotBlank i)) × (machine_after prims map (Write a value) m₁ ≡ m₁)
