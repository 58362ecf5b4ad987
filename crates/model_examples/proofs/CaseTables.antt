-- How a table of cases is proved: the checker computes each row from the definitions, the cipher and the digest being variables; the commands are obeyed, since
-- lengths and constants are right.
use Rattle.std.specs.Prelude.{Err}
use mathlib.Core.Path.{◌≡◌, refl, sym, ap, subst, ◌∙◌}
use mathlib.Core.Bool.{Bool, true, false}
use mathlib.Core.List.{List, [], ◌∷◌, ◌++◌, map}
use Prim.Native.Nat.{ℕ, zero, suc, ◌+◌, ◌*◌, ◌%◌, ◌^◌, ◌<◌}
use native.Mathlib.Nat.{mod-eq_of_lt, mod-lt}
use native.Mathlib.Omega.{arith}
use lib.Bits.{bit_xor, xor_lt, xor_mod}
use lib.Dec.{lit<}
use borrow.Author.Tests.{eq-eqb, ne_eqb}
use Rattle.basics.specs.Choice.{when◌then◌else◌}
use Rattle.words.specs.Programming.{program_cells}
use Rattle.words.proofs.Words.{number-words}
use Rattle.partitions.specs.Map.{Map}
use Rattle.constants.specs.Constants.{valid_constants, raw_unlock_hash}
use Rattle.life_cycle.specs.Words.{counter_words}
use Rattle.model.specs.declared.Failure.TheVariants.{TokenDiffers}
use Rattle.model.specs.declared.Command.{Command}
use Rattle.model.specs.declared.Command.TheVariants.{PowerUp}
use Rattle.model.specs.Lent.{Machine, Primitives, right_lengths, with_cells}
use Rattle.model.specs.Acts.{to_inert, say, perform, with_comparison}
use Rattle.model.specs.Commands.{life_cycle_rule, counter_at, hashes_to, move_act}
use Rattle.model.specs.Step.{Step, performed, obey}
use Rattle.model.specs.CaseTables.{Case, as_is, lowest_bit_changed, blank_array, constants_with, said, leaves, chip_with, HoldOn}
use Rattle.model.proofs.JudgedOnce.{after_judged, answers_judged, run-judged}
use Rattle.model.proofs.Everything.{everything}

infixr 3 ◌&◌
pub ◌&◌ : {A B : Type 0} → A → B → A × B
a & b = (a, b)

-- a number differs from itself with its lowest bit changed
bit-differs : (n : ℕ) → bit_xor n 1 ≡ n → ⊥
bit-differs n e = by_bit (n % 2) (sym (ap (λ (k : ℕ). k % 2) e) ∙ xor_mod n 1 1) (mod-lt n {m = 2} (omega arith))
  where
    by_bit : (b : ℕ) → b ≡ bit_xor b 1 → b < 2 → ⊥
    by_bit zero q h = omega (arith, q)
    by_bit (suc zero) q h = omega (arith, q)
    by_bit (suc (suc b)) q h = omega arith

module _ (prims : Primitives) (keys : ℕ → ℕ) where
  valid : (stored : ℕ → ℕ) → valid_constants (constants_with prims keys stored) ≡ true
  unfolding everything
  valid stored = refl

  -- whether the hash of the token 7 is what the RAW_UNLOCK words hold
  abbrev pub same : (ℕ → ℕ) → Bool
  same stored = hashes_to prims (0 * 2 ^ 64 + 7) (raw_unlock_hash (constants_with prims keys stored))

  -- words of a number of 128 bits stand for it
  stored-number : (stored : ℕ → ℕ) → stored (prims.hash 7) < 2 ^ 128 → raw_unlock_hash (constants_with prims keys stored) ≡ stored (prims.hash 7)
  unfolding everything
  stored-number stored h = number-words 8 (stored (prims.hash 7)) ∙ mod-eq_of_lt h

  pub right-same : prims.hash 7 < 2 ^ 128 → same as_is ≡ true
  unfolding hashes_to
  right-same h = eq-eqb _ _ (stored-number as_is h)

  pub wrong-differs : prims.hash 7 < 2 ^ 128 → same lowest_bit_changed ≡ false
  unfolding hashes_to
  wrong-differs h = ne_eqb _ _ (λ e. bit-differs (prims.hash 7) (sym (stored-number lowest_bit_changed (xor_lt 128 (prims.hash 7) 1 h (lit< tt))) ∙ e))

  module _ (partitions : Map) (size : ℕ) where
    -- what is computed of a case: its lengths are right, and its commands, obeyed, answer and leave what it says
    abbrev pub Row : Case → Type 0
    Row c =
        let m = chip_with prims keys c.stored size c.cells in
        (right_lengths partitions m.lent ≡ true)
        × (map (said prims keys) (answers_judged prims partitions c.commands m) ≡ c.expected)
        × leaves prims keys c.left (after_judged prims partitions c.commands m).lent.cells

    abbrev pub Rows : List Case → Type 0
    Rows [] = Unit {0}
    Rows (c ∷ cs) = Row c × Rows cs

    append : (xs ys : List Case) → Rows xs → Rows ys → Rows (xs ++ ys)
    append [] ys h k = k
    append (x ∷ xs) ys h k = (h.0, append xs ys h.1 k)

    -- a part of the table, and two parts in one
    pub record Part (cs : List Case) : Type 0 where
      pub rows : Rows cs

    pub both : {xs ys : List Case} → Part xs → Part ys → Part (xs ++ ys)
    both {xs} {ys} h k = record { rows = append xs ys h.rows k.rows }

    pub held : (cs : List Case) → Rows cs → HoldOn prims keys partitions size cs
    held [] h = tt
    held (c ∷ cs) h =
        let m = chip_with prims keys c.stored size c.cells in
        let r = h.0 in
        let q = run-judged prims partitions c.commands m r.0 (valid c.stored) in
        let cells = ap (λ (n : Machine). n.lent.cells) q.1 in
        ((ap (map (said prims keys)) q.0 ∙ r.1, subst (leaves prims keys c.left) (sym cells) r.2), held cs h.1)

    -- ---- cases with a RAW_UNLOCK token: its hash is a variable, so that the comparison does not compute. The rows are computed for the result that it has.

    -- the blank chip after a power-up, and a transition from RAW to TEST_UNLOCKED0 there, with the result of its comparison
    module _ (stored : ℕ → ℕ) where
      abbrev pub powered : Machine
      powered = (obey prims partitions PowerUp (chip_with prims keys stored size (blank_array size))).result.machine

      abbrev pub unlocking : Bool → Step
      unlocking result =
          let cells = program_cells life_cycle_rule powered.lent.cells (counter_at partitions) (counter_words powered.lent.constants 1) in
          let lent = with_cells cells powered.lent in
          performed (with_comparison result
          (when result then perform (move_act prims partitions powered 1) lent else perform (say (Err TokenDiffers) to_inert) lent)) powered

    -- its answers, with those of the commands after it
    abbrev pub unlocked : List Command → Step → List (ℕ × ℕ)
    unlocked rest s = (0x00, 0) ∷ said prims keys s.result.answer ∷ map (said prims keys) (answers_judged prims partitions rest s.result.machine)
