-- Laws of the string encodings. The idea: two bounds tell how many bytes a number takes, and a byte more at its low end adds one to them.
use mathlib.Core.Path.{◌≡◌, refl, sym, ap, ap₂, ◌∙◌}
use mathlib.Core.Bool.{Bool, true, false}
use mathlib.Core.List.{List, [], ◌∷◌, ◌++◌}
use Prim.Native.Nat.{ℕ, zero, suc, ◌+◌, ◌*◌, ◌-◌, ◌/◌, ◌%◌, ◌^◌, ◌≤◌, ◌<◌}
use native.Mathlib.Nat.{zero-add, add-zero, add-suc, suc-add, lt_of_lt_of_le, le_trans, div-one, mul-suc, pow-succ', div-div-eq-div-mul}
use native.Mathlib.Omega.{arith}
use lib.Count.{count_leading_zeros}
use lib.Dec.{eqb, ltb, lit<}
use lib.ListN.{length, get_or, take, drop, length-append, get_or-append}
use lib.Pow.{pow_mono, pow-add}
use lib.Seq.{get_or_at, take_all}
use Rattle.std.specs.Int.{w64, byte_at, bytes_high_first, to_be_bytes}
use Rattle.std.proofs.lemmas.Nat.{leading_top}
use borrow.Author.Tests.{eqb-true, eqb-false, ltb-true, ltb-false, lt-ltb}
use Rattle.basics.specs.Range.{listed}
use Rattle.basics.specs.Digits.{digit}
use Rattle.basics.proofs.Choice.{by_cases, if-both}
use Rattle.basics.proofs.Range.{length-listed, listed_at, listed-shift, is-listed}
use Rattle.basics.proofs.Digits.{digit_lt}
use Rattle.sponge.proofs.Bytes.{Bytes, below-append, bytes-listed}
use Rattle.cshake.specs.Encoding.{smallest, byte_count, left_encode, encode_string, bytepad}

-- ---- the smallest number that passes a test

module _ (test : ℕ → Bool) where
  smallest-from : (i n : ℕ) → i ≤ smallest test i n
  unfolding smallest
  smallest-from i zero = omega arith
  smallest-from i (suc n) = if-both (λ (m : ℕ). i ≤ m) (test i) i (smallest test (suc i) n) (λ t. omega arith) (λ t. omega (arith, smallest-from (suc i) n))

  smallest-passes : (i n : ℕ) → test (i + n) ≡ true → test (smallest test i n) ≡ true
  unfolding smallest
  smallest-passes i zero h = rw add-zero at h
  smallest-passes i (suc n) h =
      if-both (λ (m : ℕ). test m ≡ true) (test i) i (smallest test (suc i) n) (λ t. t)
      (λ t. smallest-passes (suc i) n (ap test (suc-add i n ∙ sym (add-suc i n)) ∙ h))

  smallest-fails : (i n k : ℕ) → i ≤ k → k < smallest test i n → test k ≡ false
  unfolding smallest
  smallest-fails i zero k h = λ l. absurd (omega arith)
  smallest-fails i (suc n) k h =
      if-both (λ (m : ℕ). k < m → test k ≡ false) (test i) i (smallest test (suc i) n) (λ t l. absurd (omega arith))
      (λ t l. by_cases (eqb k i) (λ e. rw (eqb-true k i e) t) (λ e. smallest-fails (suc i) n k (omega (arith, eqb-false)) l))

-- ---- powers of 256

power-more : (n : ℕ) → 2 ^ (8 * suc n) ≡ 2 ^ (8 * n) * 256
power-more n = ap (λ (m : ℕ). 2 ^ m) (mul-suc 8 n) ∙ pow-add 2 (8 * n) 8

below_power : (n : ℕ) → n < 2 ^ (8 * n)
below_power zero = lit< tt
below_power (suc n) = omega (arith, below_power n, power-more n)

-- ---- how many bytes a number takes

-- `positive`, `fits` and `least` say together that the count is what SP 800-185 says: "the smallest positive integer for which 2^(8n) > x"

pub positive : (x : ℕ) → 1 ≤ byte_count x
unfolding byte_count
positive x = smallest-from _ 1 x

pub fits : (x : ℕ) → x < 2 ^ (8 * byte_count x)
unfolding byte_count
fits x = ltb-true _ _ (smallest-passes (λ n. ltb x (2 ^ (8 * n))) 1 x (lt-ltb x (2 ^ (8 * (1 + x))) (omega (arith, below_power (1 + x)))))

pub least : (x n : ℕ) → 1 ≤ n → n < byte_count x → 2 ^ (8 * n) ≤ x
unfolding byte_count
least x n h l = ltb-false _ _ (smallest-fails (λ n. ltb x (2 ^ (8 * n))) 1 x n h l)

-- no other number is so
pub count-is : (x n : ℕ) → 1 ≤ n → x < 2 ^ (8 * n) → ((m : ℕ) → m < n → 1 ≤ m → 2 ^ (8 * m) ≤ x) → n ≡ byte_count x
count-is x n h l u =
    by_cases (ltb n (byte_count x)) (λ t. absurd (omega (arith, least x n h (ltb-true _ _ t))))
    (λ t. by_cases (ltb (byte_count x) n) (λ s. absurd (omega (arith, fits x, u (byte_count x) (ltb-true _ _ s) (positive x))))
    (λ s. omega (arith, ltb-false)))

-- what the zeros in front of a number of 64 bits show
pub count-zeros : (x : ℕ) → 0 < x → x < 2 ^ 64 → 8 - count_leading_zeros 64 x / 8 ≡ byte_count x
count-zeros x h l =
    let t = leading_top 64 x h l in
    let j : ℕ = t.0 in
    let n : 8 - count_leading_zeros 64 x / 8 ≡ j / 8 + 1 = omega (arith, t.1) in
    n
    ∙ count-is x (j / 8 + 1) (omega arith) (lt_of_lt_of_le t.3 (pow_mono (omega arith)))
    (λ m p q. le_trans (pow_mono (omega arith)) t.2)

pub count_small : (x : ℕ) → x < 256 → 1 ≡ byte_count x
count_small x h = count-is x 1 (omega arith) h (λ m p l. absurd (omega arith))

-- a byte more at the low end
pub count-more : (high low : ℕ) → 0 < high → low < 256 → suc (byte_count high) ≡ byte_count (256 * high + low)
count-more high low h l =
    count-is (256 * high + low) (suc (byte_count high)) (omega arith) (omega (arith, power-more (byte_count high), fits high)) below
  where
    below : (m : ℕ) → m < suc (byte_count high) → 1 ≤ m → 2 ^ (8 * m) ≤ 256 * high + low
    below zero p q = absurd (omega arith)
    below (suc zero) p q = omega arith
    below (suc (suc m)) p q = omega (arith, power-more (suc m), least high (suc m) (omega arith) (omega arith))

-- ---- left_encode

-- the lowest n bytes of x, the highest of them first
abbrev pub bytes_down : ℕ → ℕ → List ℕ
bytes_down x n = listed (λ i. digit 256 x (n - suc i)) 0 n

-- the library's bytes of a number
high-first : (n x : ℕ) → bytes_high_first n x ≡ bytes_down x n
unfolding listed
high-first zero x = refl
high-first (suc n) x =
    let first : n ≡ suc n - suc 0 = omega arith in
    ap₂ (λ (b : ℕ) (bs : List ℕ). b ∷ bs) (top n ∙ ap (digit 256 x) first) (high-first n x ∙ sym (listed-shift _ _ 0 1 n (λ j. ap (digit 256 x) (less j))))
  where
    top : (k : ℕ) → byte_at k x ≡ digit 256 x k
    top zero = ap (λ (y : ℕ). y % 256) (sym (div-one x))
    top (suc k) = refl

    less : (j : ℕ) → suc n - suc (1 + j) ≡ n - suc j
    less j = omega arith

high-dropped : (k n x : ℕ) → drop k (bytes_high_first (k + n) x) ≡ bytes_high_first n x
high-dropped zero n x = rw zero-add refl
high-dropped (suc k) n x = rw suc-add (high-dropped k n x)

pub bytes-behind : (x zeros : ℕ) → zeros ≤ 8 → take (8 - zeros) (drop zeros (to_be_bytes w64 x)) ≡ bytes_down x (8 - zeros)
bytes-behind x zeros h =
    let n : ℕ = 8 - zeros in
    let e : 8 ≡ zeros + n = omega arith in
    ap (λ (k : ℕ). take n (drop zeros (bytes_high_first k x))) e
    ∙ ap (take n) (high-dropped zeros n x ∙ high-first n x)
    ∙ take_all n (bytes_down x n) (omega (arith, length-listed (λ i. digit 256 x (n - suc i)) 0 n))

digit-more : (high low k : ℕ) → low < 256 → digit 256 (256 * high + low) (suc k) ≡ digit 256 high k
digit-more high low k l =
    let whole : (256 * high + low) / 256 ≡ high = omega arith in
    ap (λ (m : ℕ). (256 * high + low) / m % 256) (pow-succ' 256 k)
    ∙ ap (λ (m : ℕ). m % 256) (sym (div-div-eq-div-mul (256 * high + low) 256 (256 ^ k)))
    ∙ ap (λ (m : ℕ). digit 256 m k) whole

bytes-more : (high low n : ℕ) → low < 256 → bytes_down (256 * high + low) (suc n) ≡ bytes_down high n ++ (low ∷ [])
bytes-more high low n l = sym (is-listed _ (suc n) (bytes_down high n ++ (low ∷ [])) (length-append (bytes_down high n) _ ∙ size) entry)
  where
    size : length (bytes_down high n) + 1 ≡ suc n
    size = omega (arith, length-listed (λ i. digit 256 high (n - suc i)) 0 n)

    before : (k : ℕ) → k < n → get_or (bytes_down high n ++ (low ∷ [])) k 0 ≡ digit 256 (256 * high + low) (suc n - suc k)
    before k h =
        let e : suc n - suc k ≡ suc (n - suc k) = omega arith in
        get_or-append (bytes_down high n) _ 0 k (omega (arith, size))
        ∙ listed_at _ 0 n k h
        ∙ sym (ap (digit 256 (256 * high + low)) e ∙ digit-more high low (n - suc k) l)

    last : digit 256 (256 * high + low) (suc n - suc n) ≡ low
    last =
        let e : suc n - suc n ≡ 0 = omega arith in
        ap (digit 256 (256 * high + low)) e ∙ omega arith

    entry : (k : ℕ) → k < suc n → get_or (bytes_down high n ++ (low ∷ [])) k 0 ≡ digit 256 (256 * high + low) (suc n - suc k)
    entry k h =
        by_cases (eqb k n) (λ e. rw (eqb-true k n e) (get_or_at (bytes_down high n) low [] 0 n (omega (arith, size)) ∙ sym last))
        (λ e. before k (omega (arith, eqb-false)))

pub encode-small : (low : ℕ) → low < 256 → left_encode low ≡ 1 ∷ low ∷ []
unfolding left_encode listed
encode-small low l =
    let e : byte_count low ≡ 1 = sym (count_small low l) in
    let digit : low / 1 % 256 ≡ low = omega arith in
    rw e (ap (λ (b : ℕ). 1 ∷ b ∷ []) digit)

pub encode-more : (high low : ℕ) → 0 < high → low < 256
    → left_encode (256 * high + low) ≡ suc (byte_count high) ∷ (bytes_down high (byte_count high) ++ (low ∷ []))
unfolding left_encode
encode-more high low h l =
    ap (λ (n : ℕ). n ∷ bytes_down (256 * high + low) n) (sym (count-more high low h l))
    ∙ ap (λ (bs : List ℕ). suc (byte_count high) ∷ bs) (bytes-more high low (byte_count high) l)

-- ---- the bytes of an encoding are bytes

-- 64 bits and three more take at most nine bytes
count-nine : (x : ℕ) → x < 8 * 2 ^ 64 → byte_count x < 256
count-nine x h = by_cases (ltb 9 (byte_count x)) (λ t. absurd (omega (arith, least x 9 (omega arith) (ltb-true _ _ t)))) (λ t. omega (arith, ltb-false))

encode-bytes : (x : ℕ) → x < 8 * 2 ^ 64 → Bytes (left_encode x)
unfolding left_encode
encode-bytes x h zero = count-nine x h
encode-bytes x h (suc i) = bytes-listed _ (byte_count x) (λ k. digit_lt 256 (lit< tt) x (byte_count x - suc k)) i

pub string_bytes : (s : List ℕ) → length s < 2 ^ 64 → Bytes s → Bytes (encode_string s)
unfolding encode_string
string_bytes s h b = below-append 256 (left_encode (8 * length s)) s (encode-bytes (8 * length s) (omega arith)) b

pub bytepad-bytes : (x : List ℕ) (w : ℕ) → w < 2 ^ 64 → Bytes x → Bytes (bytepad x w)
unfolding bytepad
bytepad-bytes x w h b =
    below-append 256 (left_encode w ++ x) _ (below-append 256 (left_encode w) x (encode-bytes w (omega arith)) b)
    (bytes-listed (λ i. 0) ((w - length (left_encode w ++ x) % w) % w) (λ k. lit< tt))
