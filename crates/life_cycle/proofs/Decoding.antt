-- Laws of decoding. The idea: the search stops at the first number whose encoding the words are, and no two numbers share an encoding.
use mathlib.Core.Path.{◌≡◌, refl, sym, ap, ap₂, ◌∙◌}
use mathlib.Core.Bool.{true, false, not, ◌&&◌}
use mathlib.Core.List.{List, [], ◌∷◌}
use Prim.Native.Nat.{ℕ, zero, suc, ◌+◌, ◌≤◌, ◌<◌}
use native.Mathlib.Numerals.{add-one}
use native.Mathlib.Omega.{arith}
use lib.Dec.{eqb}
use lib.Pointwise.{pointwise}
use borrow.Author.Tests.{eqb-true, eqb-false, eq-eqb, ne_eqb, not-false}
use Rattle.std.specs.Prelude.{Option, Some, None, find}
use Rattle.std.specs.List.{range_with_len}
use Rattle.std.proofs.lemmas.Option.{none-some, same_Some}
use Rattle.basics.proofs.Choice.{by_cases, true-not-false, not-passed, and_left, and_right, and_both, if-true, if-false}
use Rattle.words.proofs.Words.{Words}
use Rattle.life_cycle.specs.declared.LifeCycle.{LifeCycle}
use Rattle.constants.specs.Constants.{valid_constants}
use Rattle.life_cycle.specs.Words.{counter_words, state_words, same_words, encoded_by, life_cycle_of, decoded}
use Rattle.life_cycle.proofs.Distinct.{counter-distinct, state-distinct}

-- ---- the same words

pub same-equal : (xs ys : List ℕ) → same_words xs ys ≡ true → xs ≡ ys
unfolding same_words
same-equal [] [] e = refl
same-equal [] (y ∷ ys) e = absurd (true-not-false e refl)
same-equal (x ∷ xs) [] e = absurd (true-not-false e refl)
same-equal (x ∷ xs) (y ∷ ys) e =
    ap₂ (λ (z : ℕ) (zs : List ℕ). z ∷ zs) (eqb-true x y (and_left (eqb x y) _ e)) (same-equal xs ys (and_right (eqb x y) _ e))

pub same_self : (xs : List ℕ) → same_words xs xs ≡ true
unfolding same_words
same_self [] = refl
same_self (x ∷ xs) = and_both (eqb x x) _ (eq-eqb x x refl) (same_self xs)

pub equal-same : (xs ys : List ℕ) → xs ≡ ys → same_words xs ys ≡ true
equal-same xs ys e = rw (← e) (same_self xs)

pub unequal-not-same : (xs ys : List ℕ) → (xs ≡ ys → ⊥) → same_words xs ys ≡ false
unequal-not-same xs ys h = not-passed (same_words xs ys) (λ e. h (same-equal xs ys e))

-- ---- the search for a number, over any encoding

module _ (encoding : ℕ → List ℕ) (ws : List ℕ) where
  pub encoded-none : (i : ℕ) → encoded_by encoding ws i 0 ≡ None
  unfolding encoded_by
  encoded-none i = refl

  pub encoded-here : (i n : ℕ) → same_words ws (encoding i) ≡ true → encoded_by encoding ws i (suc n) ≡ Some i
  unfolding encoded_by
  encoded-here i n e = if-true _ _ e

  pub encoded-next : (i n : ℕ) → same_words ws (encoding i) ≡ false → encoded_by encoding ws i (suc n) ≡ encoded_by encoding ws (suc i) n
  unfolding encoded_by
  encoded-next i n e = if-false _ _ e

  -- what is found: its encoding is the words
  pub encoded-found : (i n m : ℕ) → encoded_by encoding ws i n ≡ Some m → (ws ≡ encoding m) × (m < i + n)
  encoded-found i zero m e = absurd (none-some m (sym (encoded-none i) ∙ e))
  encoded-found i (suc n) m e = by_cases (same_words ws (encoding i)) here (later (encoded-found (suc i) n m))
    where
      here : same_words ws (encoding i) ≡ true → (ws ≡ encoding m) × (m < i + suc n)
      here t =
          let p = same_Some i m (sym (encoded-here i n t) ∙ e) in
          (rw (← p) (same-equal ws (encoding i) t), omega arith)

      later : (encoded_by encoding ws (suc i) n ≡ Some m → (ws ≡ encoding m) × (m < suc i + n)) → same_words ws (encoding i) ≡ false
          → (ws ≡ encoding m) × (m < i + suc n)
      later rest t = let r = rest (sym (encoded-next i n t) ∙ e) in (r.0, omega arith)

  -- the words are found at m where they are the encoding of no number below it
  pub encoded-first : (i n m : ℕ) → i ≤ m → m < i + n → ws ≡ encoding m → ((j : ℕ) → j < m → ws ≡ encoding j → ⊥)
      → encoded_by encoding ws i n ≡ Some m
  encoded-first i zero m a b e h = absurd (omega arith)
  encoded-first i (suc n) m a b e h = by_cases (eqb i m) here (later (encoded-first (suc i) n m))
    where
      here : eqb i m ≡ true → encoded_by encoding ws i (suc n) ≡ Some m
      here t =
          let p : i ≡ m = eqb-true i m t in
          encoded-here i n (equal-same ws (encoding i) (e ∙ ap encoding (sym p))) ∙ ap Some p

      later : (suc i ≤ m → m < suc i + n → ws ≡ encoding m → ((j : ℕ) → j < m → ws ≡ encoding j → ⊥) → encoded_by encoding ws (suc i) n ≡ Some m)
          → eqb i m ≡ false → encoded_by encoding ws i (suc n) ≡ Some m
      later rest t =
          let l : suc i ≤ m = omega (arith, eqb-false i m t) in
          encoded-next i n (unequal-not-same ws (encoding i) (h i l)) ∙ rest l (omega arith) e h

-- ---- as code searches: `==` of slices, and `find` over a range

same-pointwise : (xs ys : List ℕ) → pointwise eqb xs ys ≡ same_words xs ys
unfolding same_words
same-pointwise [] [] = refl
same-pointwise [] (y ∷ ys) = refl
same-pointwise (x ∷ xs) [] = refl
same-pointwise (x ∷ xs) (y ∷ ys) = ap (λ b. eqb x y && b) (same-pointwise xs ys)

pub find-encoded : (encoding : ℕ → List ℕ) (ws : List ℕ) (i n : ℕ) → find (λ k. pointwise eqb ws (encoding k)) (range_with_len i n) ≡ encoded_by encoding ws i n
find-encoded encoding ws i zero = sym (encoded-none encoding ws i)
find-encoded encoding ws i (suc n) =
    by_cases (same_words ws (encoding i))
    (λ t. rw (same-pointwise ws (encoding i), t) (sym (encoded-here encoding ws i n t)))
    (λ t. rw (same-pointwise ws (encoding i), t, add-one i) (find-encoded encoding ws (suc i) n ∙ sym (encoded-next encoding ws i n t)))

-- ---- the life cycle

-- the test for a blank count with another state than RAW
blank-raw : (n s : ℕ) → (eqb n 0 && not (eqb s 0)) ≡ false → n ≡ 0 → s ≡ 0
blank-raw n s t z = eqb-true s 0 (not-false _ (rw (eq-eqb n 0 z) at t))

blank-raw-test : (n s : ℕ) → (n ≡ 0 → s ≡ 0) → (eqb n 0 && not (eqb s 0)) ≡ false
blank-raw-test n s h = by_cases (eqb n 0) (λ t. rw (t, eq-eqb s 0 (h (eqb-true n 0 t)))) (λ t. rw t)

valid-parts : (state count : Option ℕ) (s n : ℕ) → life_cycle_of state count ≡ Some (record { state = s; count = n })
    → (state ≡ Some s) × (count ≡ Some n) × (n ≡ 0 → s ≡ 0)
unfolding life_cycle_of
valid-parts None count s n e = cc
valid-parts (Some s') None s n e = cc
valid-parts (Some s') (Some n') s n e = by_cases (eqb n' 0 && not (eqb s' 0)) spent found
  where
    spent : (eqb n' 0 && not (eqb s' 0)) ≡ true → (Some s' ≡ Some s) × (Some n' ≡ Some n) × (n ≡ 0 → s ≡ 0)
    spent t = absurd (none-some _ (sym (if-true _ _ t) ∙ e))

    found : (eqb n' 0 && not (eqb s' 0)) ≡ false → (Some s' ≡ Some s) × (Some n' ≡ Some n) × (n ≡ 0 → s ≡ 0)
    found t =
        let q = same_Some _ _ (sym (if-false _ _ t) ∙ e) in
        let a : s' ≡ s = ap (λ (l : LifeCycle). l.state) q in
        let b : n' ≡ n = ap (λ (l : LifeCycle). l.count) q in
        (ap Some a, ap Some b, rw (a, b) at (blank-raw n' s' t))

-- what a valid decoding says
pub decoded-says : (constants counter state : List ℕ) (s n : ℕ) → decoded constants counter state ≡ Some (record { state = s; count = n })
    → (counter ≡ counter_words constants n) × (state ≡ state_words constants s) × (s ≤ 20) × (n ≤ 24) × (n ≡ 0 → s ≡ 0)
unfolding decoded
decoded-says constants counter state s n e =
    let p = valid-parts _ _ s n e in
    let f = encoded-found (state_words constants) state 0 21 s p.0 in
    let g = encoded-found (counter_words constants) counter 0 25 n p.1 in
    (g.0, f.0, omega arith, omega arith, p.2)

-- decoding undoes encoding
module _ (constants : List ℕ) (words : Words constants) (valid : valid_constants constants ≡ true) where
  pub count-decoded : (n : ℕ) → n ≤ 24 → encoded_by (counter_words constants) (counter_words constants n) 0 25 ≡ Some n
  count-decoded n h =
      encoded-first (counter_words constants) _ 0 25 n (omega arith) (omega arith) refl
      (λ j l e. omega (arith, counter-distinct constants words valid n j h (omega arith) e))

  pub state-decoded : (s : ℕ) → s ≤ 20 → encoded_by (state_words constants) (state_words constants s) 0 21 ≡ Some s
  state-decoded s h =
      encoded-first (state_words constants) _ 0 21 s (omega arith) (omega arith) refl
      (λ j l e. omega (arith, state-distinct constants words valid s j h (omega arith) e))

  encoded-decoded : (s n : ℕ) → s ≤ 20 → n ≤ 24 → decoded constants (counter_words constants n) (state_words constants s) ≡ life_cycle_of (Some s) (Some n)
  unfolding decoded
  encoded-decoded s n a b = ap₂ life_cycle_of (state-decoded s a) (count-decoded n b)

  pub decoded-valid : (s n : ℕ) → s ≤ 20 → n ≤ 24 → (n ≡ 0 → s ≡ 0)
      → decoded constants (counter_words constants n) (state_words constants s) ≡ Some (record { state = s; count = n })
  unfolding life_cycle_of
  decoded-valid s n a b h = encoded-decoded s n a b ∙ if-false _ _ (blank-raw-test n s h)

  -- no stroke is spent, and the state isn't RAW
  pub decoded-invalid : (s : ℕ) → s ≤ 20 → (s ≡ 0 → ⊥) → decoded constants (counter_words constants 0) (state_words constants s) ≡ None
  unfolding life_cycle_of
  decoded-invalid s a h = encoded-decoded s 0 a (omega arith) ∙ if-true _ _ (ap not (ne_eqb s 0 h))
