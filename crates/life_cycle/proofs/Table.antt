-- Laws of the transition table. The idea: the ends of a row are read off its test, row by row; that a row unmarks no word is one test over all pairs.
use mathlib.Core.Path.{◌≡◌, sym, ◌∙◌}
use mathlib.Core.Bool.{Bool, true, false, not, ◌&&◌, ◌||◌}
use Prim.Native.Nat.{ℕ, ◌≤◌, ◌<◌}
use native.Mathlib.Omega.{arith}
use lib.Dec.{T, eqb, leb, ltb}
use borrow.Author.Tests.{eqb-true, leb-true, ltb-true, ne_eqb}
use Rattle.std.specs.Prelude.{Option, Some, None}
use Rattle.basics.specs.Choice.{when◌then◌else◌}
use Rattle.basics.specs.Range.{all_below}
use Rattle.basics.proofs.Choice.{to-T, by_cases, and_left, and_right, and-three, if-false}
use Rattle.basics.proofs.Range.{all-at}
use Rattle.life_cycle.specs.declared.Token.{Token}
use Rattle.life_cycle.specs.Words.{has_b}
use Rattle.life_cycle.specs.Transitions.{is_test, is_unlocked, is_locked, test_index, table_entry}

-- ---- the computed test

allows : Option Token → Bool
allows (Some tok) = true
allows None = false

-- the words marked stay marked; RAW has no mark
grows : ℕ → ℕ → Bool
grows s t = all_below 20 (λ i. eqb s 0 || not (has_b s i) || has_b t i)

unmarks-none : ℕ → ℕ → Bool
unmarks-none s t = not (allows (table_entry s t)) || grows s t

table-grows : T (all_below 21 (λ s. all_below 21 (unmarks-none s)))
unfolding all_below unmarks-none allows grows table_entry is_unlocked is_locked is_test test_index has_b when◌then◌else◌
table-grows = tt

-- ---- the ends, row by row

test-ends : (s : ℕ) → is_test s ≡ true → (1 ≤ s) × (s ≤ 15)
unfolding is_test
test-ends s e = (leb-true 1 s (and_left (leb 1 s) _ e), leb-true s 15 (and_right (leb 1 s) _ e))

unlocked-ends : (s : ℕ) → is_unlocked s ≡ true → (1 ≤ s) × (s ≤ 15)
unfolding is_unlocked
unlocked-ends s e = test-ends s (and_left (is_test s) _ e)

locked-ends : (s : ℕ) → is_locked s ≡ true → (1 ≤ s) × (s ≤ 15)
unfolding is_locked
locked-ends s e = test-ends s (and_left (is_test s) _ e)

-- where an allowed transition starts and ends: SCRAP is never left, RAW never reached
pub record Ends (s t : ℕ) : Type 0 where
  pub start : s < 20
  pub above : 0 < t
  pub within : t ≤ 20

module _ (s t : ℕ) where
  raw : (eqb s 0 && eqb t 1) ≡ true → Ends s t
  raw q = omega (arith, eqb-true s 0 (and_left (eqb s 0) _ q), eqb-true t 1 (and_right (eqb s 0) _ q))

  lock : (is_unlocked s && is_locked t && leb (test_index s) (test_index t)) ≡ true → Ends s t
  lock q = let p = and-three (is_unlocked s) (is_locked t) _ q in omega (arith, unlocked-ends s p.0, locked-ends t p.1)

  unlock : (is_locked s && is_unlocked t && ltb (test_index s) (test_index t)) ≡ true → Ends s t
  unlock q = let p = and-three (is_locked s) (is_unlocked t) _ q in omega (arith, locked-ends s p.0, unlocked-ends t p.1)

  leave : (is_test s && leb 16 t && leb t 18) ≡ true → Ends s t
  leave q = let p = and-three (is_test s) (leb 16 t) _ q in omega (arith, test-ends s p.0, leb-true 16 t p.1, leb-true t 18 p.2)

  test-rma : (is_unlocked s && eqb t 19) ≡ true → Ends s t
  test-rma q = omega (arith, unlocked-ends s (and_left (is_unlocked s) _ q), eqb-true t 19 (and_right (is_unlocked s) _ q))

  rma : ((eqb s 16 || eqb s 17) && eqb t 19) ≡ true → Ends s t
  rma q =
      let two = eqb s 16 || eqb s 17 in
      let b = eqb-true t 19 (and_right two _ q) in
      by_cases (eqb s 16) (λ d. omega (arith, eqb-true s 16 d)) (λ d. omega (arith, eqb-true s 17 (rw d at (and_left two _ q))))

  scrap : (ltb s 20 && eqb t 20) ≡ true → Ends s t
  scrap q = omega (arith, ltb-true s 20 (and_left (ltb s 20) _ q), eqb-true t 20 (and_right (ltb s 20) _ q))

  none : {tok : Token} → None ≡ Some tok → Ends s t
  none e = cc

  -- the row applies, or one below it does
  row : {tok : Token} {below : Option Token} (b : Bool) (need : Token) → (b ≡ true → Ends s t) → (below ≡ Some tok → Ends s t)
      → (when b then Some need else below) ≡ Some tok → Ends s t
  row b need here rest e = by_cases b here (λ q. rest (sym (if-false _ _ q) ∙ e))

  pub allowed-ends : {tok : Token} → table_entry s t ≡ Some tok → Ends s t
  unfolding table_entry
  allowed-ends = row _ _ raw (row _ _ lock (row _ _ unlock (row _ _ leave (row _ _ test-rma (row _ _ rma (row _ _ scrap none))))))

-- what the computed test says
pub marks-grow : (s t i : ℕ) {tok : Token} → table_entry s t ≡ Some tok → i < 20 → (s ≡ 0 → ⊥) → has_b s i ≡ true → has_b t i ≡ true
unfolding unmarks-none grows allows
marks-grow s t i e h z m =
    let ends = allowed-ends s t e in
    let row = all-at 21 (λ s. all_below 21 (unmarks-none s)) table-grows s (omega (arith, ends.start)) in
    let entry = all-at 21 (unmarks-none s) (to-T row) t (omega (arith, ends.within)) in
    let word = all-at 20 (λ i. eqb s 0 || not (has_b s i) || has_b t i) (to-T (rw e at entry)) i h in
    rw (ne_eqb s 0 z, m) at word
