-- Laws of digits as bytes. The idea: the digits of a number are those of its b-th part and one more, which is how code writes them.
use mathlib.Core.Path.{◌≡◌, sym, ap, ap₂, ◌∙◌}
use mathlib.Core.List.{List, [], ◌∷◌, ◌++◌}
use Prim.Native.Nat.{ℕ, zero, suc, ◌+◌, ◌-◌, ◌/◌, ◌%◌, ◌^◌, ◌≤◌, ◌<◌}
use native.Mathlib.Nat.{pow-zero, pow-suc, pow-succ', div-one, div-div-eq-div-mul}
use native.Mathlib.Omega.{arith}
use lib.ListN.{length, set, drop, length-set}
use lib.Seq.{drop-cons, drop-length, drop-set-lt, get_or-set_same}
use borrow.Author.Tests.{lt-ltb, le-ltb}
use Rattle.basics.proofs.Choice.{if-true, if-false}
use Rattle.script.specs.Lines.{digit_byte, digits}

-- ---- one digit

pub digit-number : (d : ℕ) → d < 10 → digit_byte d ≡ 48 + d
unfolding digit_byte
digit-number d h = if-true _ _ (lt-ltb d 10 h)

pub digit-letter : (d : ℕ) → 10 ≤ d → digit_byte d ≡ 97 + (d - 10)
unfolding digit_byte
digit-letter d h = if-false _ _ (le-ltb d 10 h)

pub ruleset digit_bytes = (digit-number, digit-letter)

-- ---- the loop that writes digits from the last place down

pub digits-none : (b x : ℕ) (part : List ℕ) → (drop (length part) part ≡ digits b (length part - length part) x) × (x ≡ x / b ^ (length part - length part))
unfolding digits
digits-none b x part =
    let z : length part - length part ≡ 0 = omega arith in
    rw z (drop-length part, sym (rw pow-zero (div-one x)))

module _ (b x i n : ℕ) (part : List ℕ) (rest d : ℕ) (some : 0 < i) (within : i ≤ length part) (whole : length part ≡ n) (left : rest ≡ x / b ^ (n - i)) where
  pub digits_more : drop i part ≡ digits b (n - i) x → d ≡ digit_byte (rest % b) → drop (i - 1) (set part (i - 1) d) ≡ digits b (n - (i - 1)) x
  unfolding digits
  digits_more known e =
      let j : ℕ = i - 1 in
      let q : suc j ≡ i = omega arith in
      let k : n - j ≡ suc (n - i) = omega arith in
      let l : j < length part = omega arith in
      rw k
      (drop-cons (set part j d) j 0 (rw length-set l)
      ∙ ap₂ (λ (y : ℕ) (ys : List ℕ). y ∷ ys) (get_or-set_same part j d 0 l ∙ e ∙ ap (λ (r : ℕ). digit_byte (r % b)) left)
      (drop-set-lt (suc j) part j d (omega arith) ∙ ap (λ (m : ℕ). drop m part) q ∙ known))

  pub rest_more : rest / b ≡ x / b ^ (n - (i - 1))
  rest_more =
      let k : n - (i - 1) ≡ suc (n - i) = omega arith in
      rw (left, k, pow-suc) (div-div-eq-div-mul x (b ^ (n - i)) b)

-- ---- one digit more

pub digits_last : (b n x : ℕ) → digits b (suc n) x ≡ digits b n (x / b) ++ (digit_byte (x % b) ∷ [])
unfolding digits
digits_last b zero x = rw (pow-zero, div-one)
digits_last b (suc n) x =
    let e : x / b ^ suc n ≡ x / b / b ^ n = rw pow-succ' (sym (div-div-eq-div-mul x b (b ^ n))) in
    ap₂ (λ (y : ℕ) (ys : List ℕ). digit_byte (y % b) ∷ ys) e (digits_last b n x)
