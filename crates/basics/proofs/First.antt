-- The first number at which a test fails. The idea: an induction on how many numbers there are.
use mathlib.Core.Path.{◌≡◌, refl, sym, ap, ◌∙◌}
use mathlib.Core.Bool.{Bool, true, false}
use Prim.Native.Nat.{ℕ, zero, suc, ◌+◌, ◌≤◌, ◌<◌}
use native.Mathlib.Omega.{arith}
use lib.Dec.{eqb}
use borrow.Author.Tests.{eqb-true, eqb-false}
use Rattle.std.specs.Prelude.{Some, None}
use Rattle.std.proofs.lemmas.Option.{none-some, same_Some}
use Rattle.basics.specs.Range.{first_not}
use Rattle.basics.proofs.Choice.{by_cases, if-true, if-false}

-- k is the first of the n numbers from i on at which the test fails
pub record FirstNot (test : ℕ → Bool) (i n k : ℕ) : Type 0 where
  pub from : i ≤ k
  pub below : k < i + n
  pub fails : test k ≡ false
  pub before : (j : ℕ) → i ≤ j → j < k → test j ≡ true

module _ (test : ℕ → Bool) where
  next : (i n : ℕ) → test i ≡ true → first_not test i (suc n) ≡ first_not test (suc i) n
  unfolding first_not
  next i n t = if-true _ _ t

  here : (i n : ℕ) → test i ≡ false → first_not test i (suc n) ≡ Some i
  unfolding first_not
  here i n t = if-false _ _ t

  -- a number that passes, before others that do
  one_more : (i k : ℕ) → test i ≡ true → ((j : ℕ) → suc i ≤ j → j < k → test j ≡ true) → (j : ℕ) → i ≤ j → j < k → test j ≡ true
  one_more i k t h j l u = by_cases (eqb j i) (λ e. rw (eqb-true j i e) t) (λ e. h j (omega (arith, eqb-false j i e)) u)

  pub all_none : (i n : ℕ) → ((j : ℕ) → i ≤ j → j < i + n → test j ≡ true) → first_not test i n ≡ None
  all_none i zero h = unfold first_not in refl
  all_none i (suc n) h = next i n (h i (omega arith) (omega arith)) ∙ all_none (suc i) n (λ j l u. h j (omega arith) (omega arith))

  pub none-all : (i n : ℕ) → first_not test i n ≡ None → (j : ℕ) → i ≤ j → j < i + n → test j ≡ true
  none-all i zero e = λ j l u. absurd (omega arith)
  none-all i (suc n) e =
      by_cases (test i)
      (λ t. one_more i (i + suc n) t (λ j l u. none-all (suc i) n (sym (next i n t) ∙ e) j l (omega arith)))
      (λ t. absurd (none-some _ (sym e ∙ here i n t)))

  pub some_first : (i n k : ℕ) → first_not test i n ≡ Some k → FirstNot test i n k
  some_first i zero k e = unfold first_not in (absurd (none-some _ e))
  some_first i (suc n) k e = by_cases (test i) (λ t. later t (some_first (suc i) n k (sym (next i n t) ∙ e))) first
    where
      later : test i ≡ true → FirstNot test (suc i) n k → FirstNot test i (suc n) k
      later t f = record { from = omega (arith, f.from); below = omega (arith, f.below); fails = f.fails; before = one_more i k t f.before }

      first : test i ≡ false → FirstNot test i (suc n) k
      first t =
          let q = same_Some _ _ (sym (here i n t) ∙ e) in
          rw (← q) (record { from = omega arith; below = omega arith; fails = t; before = λ j l u. absurd (omega arith) })

  pub first_some : (i n k : ℕ) → FirstNot test i n k → first_not test i n ≡ Some k
  first_some i zero k f = absurd (omega (arith, f.from, f.below))
  first_some i (suc n) k f =
      by_cases (eqb i k)
      (λ e. (let q = eqb-true i k e in here i n (rw q f.fails) ∙ ap Some q))
      (λ e. (let later : suc i ≤ k = omega (arith, eqb-false i k e, f.from) in
      next i n (f.before i (omega arith) later)
      ∙ first_some (suc i) n k (record { from = later; below = omega (arith, f.below); fails = f.fails; before = λ j l u. f.before j (omega arith) u })))
