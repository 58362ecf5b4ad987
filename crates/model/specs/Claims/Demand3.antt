-- Demand 3, whole: one claim over every list of commands that begins with a power-up.
use Rattle.std.specs.Prelude.{ℕ, ◌^◌, ◌<◌, ◌≡◌, false, List, ◌∷◌, ◌++◌, Ok}
use Rattle.words.specs.Programming.{Kept}
use Rattle.partitions.specs.Map.{Map, number_at, partition, partition_at, limit, in_digest, first_word}
use Rattle.model.specs.declared.Command.{Command}
use Rattle.model.specs.declared.Command.TheVariants.{Read, Write, Transition, PowerUp}
use Rattle.model.specs.Answers.{code_of}
use Rattle.model.specs.Session.{read_locked}
use Rattle.model.specs.Lent.{Machine, Primitives}
use Rattle.model.specs.Commands.{stored_digest}
use Rattle.model.specs.Step.{step, after, answers, machine_after, answer_to}
use Rattle.model.specs.Claims.Terms.{ValidInputs, Digested, SamePartition, Lasts, NotWritten, Allowed, TakesEffect, used_value, Matched, Alike}

module _ (prims : Primitives) (map : Map) where
  -- Ready since a power-up: the commands l₀, a power-up that answers 0, and commands l₁ through which Ready lasts
  pub record Ready (m : Machine) (l₀ l₁ : List Command) : Type 0 where
    pub succeeded : code_of (answer_to prims map PowerUp (after prims map l₀ m)) ≡ 0x00
    pub lasts : Lasts prims map l₁ (machine_after prims map PowerUp (after prims map l₀ m))

  pub record Demand3 : Type 0 where
    -- every bit ever programmed still is, at every later point of the list
    pub bits : (m : Machine) (l₁ l₂ : List Command) → Kept (after prims map l₁ m).lent.cells (after prims map (l₁ ++ l₂) m).lent.cells
    -- a partition whose stored digest was nonzero at a power-up of the list has not changed since, whatever that power-up answered
    pub locks : (m : Machine) → ValidInputs map m → (n : ℕ) → Digested map n → (l₁ l₂ : List Command)
        → (stored_digest (partition map n) (after prims map l₁ m).lent.cells ≡ 0 → ⊥)
        → SamePartition map n (after prims map l₁ m).lent.cells (after prims map (l₁ ++ PowerUp ∷ l₂) m).lent.cells
    -- a write that the rules allow on a Ready chip takes effect; and each read of its granule answers 0 and the data used, while Ready lasts
    -- and no other write to the granule answers 0, unless it reads data of a read-locked partition
    pub writes : (m : Machine) → ValidInputs map m → (l₀ l₁ : List Command) → Ready m l₀ l₁ → (a value : ℕ) → value < 2 ^ 64
        → let m₀ = after prims map l₀ m in
        let m₁ = after prims map l₁ (machine_after prims map PowerUp m₀) in
        let s = step prims map (Write a value) m₁ in
        Allowed prims map m.lent.constants m₀.lent.cells m₁.lent.cells a value
        → TakesEffect prims map m₁ a value s
        × ((l₂ : List Command) → Lasts prims map l₂ s.result.machine → NotWritten prims map a l₂ s.result.machine
        → let m₂ = after prims map l₂ s.result.machine in
        (b : ℕ) → b < limit map → first_word (partition_at map b) b ≡ first_word (partition_at map a) a
        → (in_digest (partition_at map b) b ≡ false → read_locked m₂.session (number_at map b) ≡ false)
        → answer_to prims map (Read b) m₂ ≡ Ok (used_value map a value))
    -- two chips whose fuses differ only in data words of secret partitions with the same nonzero stored digests, whatever copy and record each has
    -- before the power-up: where their verdicts and token comparisons agree, every answer is equal and they still differ only there
    pub chips : (m n : Machine) → ValidInputs map m → ValidInputs map n → m.lent.constants ≡ n.lent.constants
        → Alike map m.lent.cells n.lent.cells m.lent.cells n.lent.cells
        → (l : List Command) → Matched prims map (PowerUp ∷ l) m n
        → (answers prims map (PowerUp ∷ l) m ≡ answers prims map (PowerUp ∷ l) n)
        × ((after prims map (PowerUp ∷ l) m).session ≡ (after prims map (PowerUp ∷ l) n).session)
        × Alike map m.lent.cells n.lent.cells (after prims map (PowerUp ∷ l) m).lent.cells (after prims map (PowerUp ∷ l) n).lent.cells
    -- a transition in such a list never answers 4
    pub strokes : (m : Machine) → ValidInputs map m → (l : List Command) (target given : ℕ)
        → code_of (answer_to prims map (Transition target given) (after prims map (PowerUp ∷ l) m)) ≡ 0x04 → ⊥
