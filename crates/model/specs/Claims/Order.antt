-- The order of refusals that all commands share: "Order: 0x10, 0x12, 0x07 for phase or record", and which answers carry a value.
use Rattle.std.specs.Prelude.{ℕ, ◌+◌, ◌/◌, ◌<◌, ◌≡◌, Bool, true, false, ◌||◌, ◌↔◌, List, eqb, length, get_or}
use Rattle.std.specs.Int.Bits.{bit_or}
use Rattle.partitions.specs.Map.{Map, limit}
use Rattle.model.specs.declared.Command.{Command}
use Rattle.model.specs.declared.Command.TheVariants.{PowerUp}
use Rattle.model.specs.Answers.{code_of, value_of}
use Rattle.model.specs.Lent.{Lent, Machine, Primitives}
use Rattle.model.specs.Step.{machine_after, answer_to}
use Rattle.model.specs.Claims.Terms.{Says, not_power_up}
use Rattle.model.specs.declared.Phase.TheVariants as phase

-- "Cells: exactly 448 words .. Sensed copy: exactly 448 words .. Constants: exactly 132 words", of a map with its limit
pub record Lengths (map : Map) (l : Lent) : Type 0 where
  pub cells : length l.cells ≡ limit map / 2
  pub copy : length l.copy ≡ limit map / 2
  pub constants : length l.constants ≡ 132

-- "each C is nonzero, differs from its D and has no bit that its D lacks; the same for A and B"
pub record ValidPair (low up : ℕ) : Type 0 where
  pub nonzero : low ≡ 0 → ⊥
  pub differs : low ≡ up → ⊥
  pub covered : bit_or low up ≡ up

-- "36 to 59 C0..C23; 60 to 83 D0..D23; 84 to 103 A0..A19; 104 to 123 B0..B19"
pub record ValidPairs (constants : List ℕ) : Type 0 where
  pub counter : (i : ℕ) → i < 24 → ValidPair (get_or constants (36 + i) 0) (get_or constants (60 + i) 0)
  pub state : (i : ℕ) → i < 20 → ValidPair (get_or constants (84 + i) 0) (get_or constants (104 + i) 0)

-- the codes that carry a value, but for 7 of a power-up
abbrev pub valued : ℕ → Bool
valued code = eqb code 0x00 || eqb code 0x04 || eqb code 0x06

module _ (prims : Primitives) (map : Map) where
  pub record Order : Type 0 where
    -- 0x10 comes first, for every command and whatever else is lent
    pub lengths : (m : Machine) (x : Command) → (code_of (answer_to prims map x m) ≡ 0x10) ↔ (Lengths map m.lent → ⊥)
    -- then 0x12
    pub constants : (m : Machine) (x : Command) → ((i : ℕ) → get_or m.lent.constants i 0 < 65536) → Lengths map m.lent
        → (code_of (answer_to prims map x m) ≡ 0x12) ↔ (ValidPairs m.lent.constants → ⊥)
    -- then 0x07: every command but power-up, in a phase that is not Ready, and it changes nothing
    pub phases : (m : Machine) (x : Command) → ((i : ℕ) → get_or m.lent.constants i 0 < 65536) → Lengths map m.lent → ValidPairs m.lent.constants
        → not_power_up x → (m.session.phase ≡ phase.Ready → ⊥) → Says 0x07 0 (answer_to prims map x m) × (machine_after prims map x m ≡ m)
    -- "The value is 0 unless stated."
    pub values : (m : Machine) (x : Command) → valued (code_of (answer_to prims map x m)) ≡ false → (x ≡ PowerUp → ⊥) → value_of (answer_to prims map x m) ≡ 0
    pub power_up_values : (m : Machine)
        → let code = code_of (answer_to prims map PowerUp m) in
        (eqb code 0x10 || eqb code 0x12) ≡ true → value_of (answer_to prims map PowerUp m) ≡ 0
