-- Laws of sums. The idea of `sum-permuted`: write each term as a row that is zero but at one place, and add the rows the other way round.
use mathlib.Core.Path.{◌≡◌, refl, sym, ap, ap₂, ◌∙◌}
use mathlib.Core.Bool.{true, false}
use Prim.Native.Nat.{ℕ, zero, suc, ◌+◌, ◌≤◌, ◌<◌}
use native.Mathlib.Omega.{arith}
use lib.Dec.{eqb}
use borrow.Author.Tests.{eqb-true, eqb-false, eq-eqb, ne_eqb}
use Rattle.basics.specs.Choice.{when◌then◌else◌}
use Rattle.basics.specs.Range.{sum}
use Rattle.basics.proofs.Choice.{by_cases, if-true, if-false}

pub sum_same : (n : ℕ) (f g : ℕ → ℕ) → ((i : ℕ) → i < n → f i ≡ g i) → sum n f ≡ sum n g
unfolding sum
sum_same zero f g h = refl
sum_same (suc n) f g h = ap₂ (λ (x y : ℕ). x + y) (h n (omega arith)) (sum_same n f g (λ i l. h i (omega arith)))

pub sum-upto : (n i : ℕ) (f : ℕ → ℕ) → i ≤ n → sum i f ≤ sum n f
unfolding sum
sum-upto zero i f h = let e : i ≡ 0 = omega arith in rw e (omega arith)
sum-upto (suc n) i f h =
    by_cases (eqb i (suc n)) (λ q. rw (eqb-true i (suc n) q) (omega arith)) (λ q. omega (arith, sum-upto n i f (omega (arith, eqb-false))))

sum-zero : (n : ℕ) (f : ℕ → ℕ) → ((i : ℕ) → i < n → f i ≡ 0) → sum n f ≡ 0
unfolding sum
sum-zero zero f h = refl
sum-zero (suc n) f h = omega (arith, h n (omega arith), sum-zero n f (λ i l. h i (omega arith)))

sum-add : (n : ℕ) (f g : ℕ → ℕ) → sum n (λ i. f i + g i) ≡ sum n f + sum n g
unfolding sum
sum-add zero f g = refl
sum-add (suc n) f g = omega (arith, sum-add n f g)

sum-swap : (m n : ℕ) (f : ℕ → ℕ → ℕ) → sum m (λ i. sum n (f i)) ≡ sum n (λ j. sum m (λ i. f i j))
unfolding sum
sum-swap zero n f = sym (sum-zero n (λ j. 0) (λ i l. refl))
sum-swap (suc m) n f = ap (λ (x : ℕ). sum n (f m) + x) (sum-swap m n f) ∙ sym (sum-add n (f m) (λ j. sum m (λ i. f i j)))

-- a term at one place alone
abbrev only_at : ℕ → (ℕ → ℕ) → ℕ → ℕ
only_at k f i = when eqb i k then f i else 0

sum-only : (n k : ℕ) (f : ℕ → ℕ) → k < n → sum n (only_at k f) ≡ f k
unfolding sum
sum-only zero k f h = absurd (omega arith)
sum-only (suc n) k f h = by_cases (eqb n k) here (there (sum-only n k f))
  where
    here : eqb n k ≡ true → only_at k f n + sum n (only_at k f) ≡ f k
    here e =
        let q : n ≡ k = eqb-true n k e in
        let z : sum n (only_at k f) ≡ 0 = sum-zero n (only_at k f) (λ i l. if-false _ _ (ne_eqb i k (λ r. omega arith))) in
        rw (if-true (f n) 0 e, z, q) (omega arith)

    there : (k < n → sum n (only_at k f) ≡ f k) → eqb n k ≡ false → only_at k f n + sum n (only_at k f) ≡ f k
    there rest e = rw (if-false (f n) 0 e) (omega (arith, rest (omega (arith, eqb-false))))

-- `to` and `from` undo one another below n: a sum may be taken in either order
pub sum-permuted : (n : ℕ) (to from : ℕ → ℕ) (f : ℕ → ℕ → ℕ)
    → ((i : ℕ) → i < n → (to i < n) × (from (to i) ≡ i))
    → ((j : ℕ) → j < n → (from j < n) × (to (from j) ≡ j))
    → sum n (λ i. f i (to i)) ≡ sum n (λ j. f (from j) j)
sum-permuted n to from f there back =
    sum_same n _ _ (λ i l. sym (sum-only n (to i) (f i) (there i l).0))
    ∙ sum-swap n n (λ i. only_at (to i) (f i))
    ∙ sum_same n _ _ (λ j l. sum_same n _ _ (column j l) ∙ sum-only n (from j) (λ i. f i j) (back j l).0)
  where
    column : (j : ℕ) → j < n → (i : ℕ) → i < n → only_at (to i) (f i) j ≡ only_at (from j) (λ k. f k j) i
    column j l i k =
        by_cases (eqb j (to i))
        (λ e. rw (if-true (f i j) 0 e, if-true (f i j) 0 (eq-eqb i (from j) (sym (there i k).1 ∙ ap from (sym (eqb-true j (to i) e))))))
        (λ e. rw (if-false (f i j) 0 e, if-false (f i j) 0 (ne_eqb i (from j) (λ q. eqb-false j (to i) e (sym (back j l).1 ∙ ap to (sym q))))))
