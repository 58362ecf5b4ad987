-- Laws of decimal numbers: how many digits they have, that these are the digits to the base 10, and that they spell the number with no 0 in front. The
-- idea: a number of ten or more is its tenth part and one digit, which is how code counts.
use mathlib.Core.Path.{◌≡◌, refl, sym, ap, ◌∙◌}
use mathlib.Core.Bool.{true, false}
use mathlib.Core.List.{List, [], ◌∷◌, ◌++◌}
use Prim.Native.Nat.{ℕ, zero, suc, ◌+◌, ◌-◌, ◌*◌, ◌/◌, ◌%◌, ◌^◌, ◌≤◌, ◌<◌}
use native.Mathlib.Nat.{pow-suc, one-le-pow}
use native.Mathlib.Numerals.{add-one}
use native.Mathlib.Omega.{arith}
use lib.Dec.{ltb}
use lib.ListN.{length, get_or, length-append, get_or-append}
use borrow.Author.Tests.{ltb-true, ltb-false, lt-ltb, le-ltb}
use Rattle.basics.proofs.Choice.{by_cases, if-true, if-false}
use Rattle.script.specs.Lines.{digit_byte, digits, decimal}
use Rattle.script.proofs.Digits.{digits_last}

module _ (f x : ℕ) where
  decimal-one : x < 10 → decimal (suc f) x ≡ digit_byte x ∷ []
  unfolding decimal
  decimal-one h = if-true _ _ (lt-ltb x 10 h)

  decimal-more : 10 ≤ x → decimal (suc f) x ≡ decimal f (x / 10) ++ (digit_byte (x % 10) ∷ [])
  unfolding decimal
  decimal-more h = if-false _ _ (le-ltb x 10 h)

  length-one : x < 10 → length (decimal (suc f) x) ≡ 1
  length-one h = ap length (decimal-one h)

  length_more : 10 ≤ x → length (decimal (suc f) x) ≡ suc (length (decimal f (x / 10)))
  length_more h = ap length (decimal-more h) ∙ rw length-append (add-one _)

below-tenth : (f x : ℕ) → x < 10 ^ suc f → x / 10 < 10 ^ f
below-tenth f x h = let l : x < 10 ^ f * 10 = rw pow-suc at h in omega arith

-- ---- how many digits

-- the powers of ten around a number say how many it has
length-powers : (f k x : ℕ) → k < f → 10 ^ k ≤ x → x < 10 * 10 ^ k → length (decimal f x) ≡ k + 1
length-powers zero k x h l u = absurd (omega arith)
length-powers (suc f) zero x h l u = length-one f x (omega arith)
length-powers (suc zero) (suc k) x h l u = absurd (omega arith)
length-powers (suc (suc f)) (suc k) x h l u =
    let p : 10 ^ suc k ≡ 10 ^ k * 10 = pow-suc 10 k in
    let few : 0 < 10 ^ k = one-le-pow k 10 (omega arith) in
    length_more (suc f) x (omega arith) ∙ omega (arith, length-powers (suc f) k (x / 10) (omega arith) (omega arith) (omega arith))

pub decimal_length : (k x : ℕ) → k < 20 → 10 ^ k ≤ x → x < 10 * 10 ^ k → length (decimal 20 x) ≡ k + 1
decimal_length k x h l u = length-powers 20 k x h l u

pub length_of_zero : (x : ℕ) → x ≡ 0 → length (decimal 20 x) ≡ 1
length_of_zero x e = length-one 19 x (omega arith)

pub ruleset decimal_lengths = (decimal_length, length_of_zero)

pub decimal-short : (f x : ℕ) → length (decimal f x) ≤ f
unfolding decimal
decimal-short zero x = omega arith
decimal-short (suc f) x =
    by_cases (ltb x 10) (λ e. rw (length-one f x (ltb-true _ _ e)) (omega arith))
    (λ e. rw (length_more f x (ltb-false _ _ e)) (omega (arith, decimal-short f (x / 10))))

-- a decimal number is its digits to the base 10, as many as it has
pub decimal-digits : (f x : ℕ) → x < 10 ^ f → decimal f x ≡ digits 10 (length (decimal f x)) x
unfolding decimal digits
decimal-digits zero x l = refl
decimal-digits (suc f) x l = by_cases (ltb x 10) one (more (decimal-digits f (x / 10) (below-tenth f x l)))
  where
    one : ltb x 10 ≡ true → decimal (suc f) x ≡ digits 10 (length (decimal (suc f) x)) x
    one e =
        let h : x < 10 = ltb-true _ _ e in
        let q : x / 1 % 10 ≡ x = omega arith in
        rw (length-one f x h, decimal-one f x h) (ap (λ (y : ℕ). digit_byte y ∷ []) (sym q))

    more : decimal f (x / 10) ≡ digits 10 (length (decimal f (x / 10))) (x / 10) → ltb x 10 ≡ false
        → decimal (suc f) x ≡ digits 10 (length (decimal (suc f) x)) x
    more rest e =
        let h : 10 ≤ x = ltb-false _ _ e in
        decimal-more f x h
        ∙ ap (λ (ys : List ℕ). ys ++ (digit_byte (x % 10) ∷ [])) rest
        ∙ sym (digits_last 10 (length (decimal f (x / 10))) x)
        ∙ ap (λ (n : ℕ). digits 10 n x) (sym (length_more f x h))

-- ---- what a decimal number means

-- the number that decimal digits spell, behind those already read
unfoldable pub spelled : ℕ → List ℕ → ℕ
spelled x [] = x
spelled x (d ∷ ds) = spelled (x * 10 + (d - 48)) ds

spelled-last : (x : ℕ) (ds : List ℕ) (d : ℕ) → spelled x (ds ++ (d ∷ [])) ≡ spelled x ds * 10 + (d - 48)
unfolding spelled
spelled-last x [] d = refl
spelled-last x (e ∷ ds) d = spelled-last (x * 10 + (e - 48)) ds d

digit-spelled : (d : ℕ) → d < 10 → digit_byte d - 48 ≡ d
unfolding digit_byte
digit-spelled d h = rw (if-true (48 + d) (97 + (d - 10)) (lt-ltb d 10 h)) (omega arith)

-- it spells the number it is made of
pub decimal-spelled : (f x : ℕ) → x < 10 ^ f → spelled 0 (decimal f x) ≡ x
unfolding spelled decimal
decimal-spelled zero x l = omega arith
decimal-spelled (suc f) x l = by_cases (ltb x 10) one (more (decimal-spelled f (x / 10) (below-tenth f x l)))
  where
    one : ltb x 10 ≡ true → spelled 0 (decimal (suc f) x) ≡ x
    one e = let h : x < 10 = ltb-true _ _ e in rw (decimal-one f x h) (omega (arith, digit-spelled x h))

    more : spelled 0 (decimal f (x / 10)) ≡ x / 10 → ltb x 10 ≡ false → spelled 0 (decimal (suc f) x) ≡ x
    more rest e =
        rw (decimal-more f x (ltb-false _ _ e), spelled-last 0 (decimal f (x / 10)) (digit_byte (x % 10)), digit-spelled (x % 10) (omega arith)) (omega arith)

some-digit : (f x : ℕ) → 0 < length (decimal (suc f) x)
some-digit f x =
    by_cases (ltb x 10) (λ e. rw (length-one f x (ltb-true _ _ e)) (omega arith)) (λ e. rw (length_more f x (ltb-false _ _ e)) (omega arith))

first-of-one : (f x : ℕ) → x < 10 → get_or (decimal (suc f) x) 0 0 ≡ digit_byte 0 → x ≡ 0
first-of-one f x h e =
    let q : digit_byte x ≡ digit_byte 0 = ap (λ (ds : List ℕ). get_or ds 0 0) (sym (decimal-one f x h)) ∙ e in
    omega (arith, digit-spelled x h, digit-spelled 0 (omega arith))

-- it begins with a 0 only where it is 0
pub no-leading-zero : (f x : ℕ) → x < 10 ^ suc f → get_or (decimal (suc f) x) 0 0 ≡ digit_byte 0 → x ≡ 0
no-leading-zero zero x l e = first-of-one 0 x l e
no-leading-zero (suc f) x l e =
    by_cases (ltb x 10) (λ t. first-of-one (suc f) x (ltb-true _ _ t) e) (more (no-leading-zero f (x / 10) (below-tenth (suc f) x l)))
  where
    more : (get_or (decimal (suc f) (x / 10)) 0 0 ≡ digit_byte 0 → x / 10 ≡ 0) → ltb x 10 ≡ false → x ≡ 0
    more rest t =
        let h : 10 ≤ x = ltb-false _ _ t in
        let ds : List ℕ = decimal (suc f) (x / 10) in
        let first = sym (get_or-append ds _ 0 0 (some-digit f (x / 10))) ∙ ap (λ (l : List ℕ). get_or l 0 0) (sym (decimal-more (suc f) x h)) in
        let q : x / 10 ≡ 0 = rest (first ∙ e) in
        absurd (omega arith)
