-- Laws of valid constants. The idea: the test passes at each pair, and the parts of a passed test are what a pair is known for.
use mathlib.Core.Path.{◌≡◌, refl, sym, ap, ◌∙◌}
use mathlib.Core.Bool.{Bool, true, false, not, ◌&&◌}
use mathlib.Core.List.{List, [], ◌∷◌, ◌++◌, map}
use Prim.Native.Nat.{ℕ, zero, suc, ◌+◌, ◌<◌}
use native.Mathlib.Nat.{zero-add}
use native.Mathlib.Numerals.{add-one}
use lib.Bits.{bit_or, or_zero_r}
use lib.Dec.{eqb}
use borrow.Author.Tests.{eqb-false, eq-eqb, ne_eqb, not-true}
use Rattle.std.proofs.Math.Bool.{and_comm}
use Rattle.std.proofs.lemmas.List.{map-id}
use Rattle.std.proofs.lemmas.List.FromFn.{map-range_with_len_more}
use Rattle.std.proofs.lemmas.List.Sums.{fold-append}
use Rattle.std.specs.Prelude.{fold}
use Rattle.std.specs.List.{range_with_len}
use Rattle.basics.specs.Range.{all_below}
use Rattle.basics.proofs.Choice.{by_cases, true-not-false, to-T, and_left, and_right, and-three}
use Rattle.basics.proofs.Range.{all-at}
use Rattle.words.specs.Programming.{loses_bit}
use Rattle.words.proofs.Rules.{or-keeps, keeps-or}
use Rattle.constants.specs.Constants.{const_a, const_b, const_c, const_d, pair_valid, valid_constants}

-- a lower constant and its upper one
pub record Pair (low up : ℕ) : Type 0 where
  pub nonzero : low ≡ 0 → ⊥
  pub differs : low ≡ up → ⊥
  pub covered : loses_bit low up ≡ false

pub pair : (low up : ℕ) → pair_valid low up ≡ true → Pair low up
unfolding pair_valid
pair low up e =
    let p = and-three (not (eqb low 0)) (not (eqb low up)) _ e in
    record { nonzero = eqb-false low 0 (not-true _ p.0); differs = eqb-false low up (not-true _ p.1); covered = not-true _ p.2 }

-- as code tests it
pub or-test : (low up : ℕ) → low < 65536 → eqb (bit_or low up) up ≡ not (loses_bit low up)
or-test low up l =
    by_cases (loses_bit low up) (λ t. rw t (ne_eqb _ up (λ e. true-not-false t (or-keeps low up e)))) (λ t. rw t (eq-eqb _ up (keeps-or low up l t)))

pub ruleset pair_tests = (or-test)

-- of a word's 16 bits the upper constant has at least one
pub upper-nonzero : {low up : ℕ} → Pair low up → low < 65536 → up ≡ 0 → ⊥
upper-nonzero {low} {up} p l z = p.nonzero (sym (or_zero_r low) ∙ keeps-or low 0 l (rw z at p.covered))

module _ (constants : List ℕ) (valid : valid_constants constants ≡ true) where
  pub counter-pair : (i : ℕ) → i < 24 → Pair (const_c constants i) (const_d constants i)
  unfolding valid_constants
  counter-pair i h =
      let test : ℕ → Bool = λ i. pair_valid (const_c constants i) (const_d constants i) in
      pair _ _ (all-at 24 test (to-T (and_left (all_below 24 test) _ valid)) i h)

  pub state-pair : (i : ℕ) → i < 20 → Pair (const_a constants i) (const_b constants i)
  unfolding valid_constants
  state-pair i h =
      let first : ℕ → Bool = λ i. pair_valid (const_c constants i) (const_d constants i) in
      let test : ℕ → Bool = λ i. pair_valid (const_a constants i) (const_b constants i) in
      pair _ _ (all-at 20 test (to-T (and_right (all_below 24 first) _ valid)) i h)

-- a test at every number below n, as code folds it
pub fold-below : (n : ℕ) (test : ℕ → Bool) → fold (λ (passed : Bool) (i : ℕ). passed && test i) true (range_with_len 0 n) ≡ all_below n test
unfolding all_below
fold-below zero test = refl
fold-below (suc n) test =
    ap (fold (λ (passed : Bool) (i : ℕ). passed && test i) true) more
    ∙ fold-append (λ (passed : Bool) (i : ℕ). passed && test i) true (range_with_len 0 n) (n ∷ [])
    ∙ ap (λ (passed : Bool). passed && test n) (fold-below n test)
    ∙ and_comm (all_below n test) (test n)
  where
    more : range_with_len 0 (suc n) ≡ range_with_len 0 n ++ n ∷ []
    more =
        sym (map-id (range_with_len 0 (suc n))) ∙ ap (λ (k : ℕ). map (λ (x : ℕ). x) (range_with_len 0 k)) (sym (add-one n))
        ∙ map-range_with_len_more (λ (x : ℕ). x) 0 n n (zero-add n) ∙ ap (λ (xs : List ℕ). xs ++ n ∷ []) (map-id (range_with_len 0 n))
