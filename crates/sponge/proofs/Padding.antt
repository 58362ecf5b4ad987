-- In bits the padding is pad10*1. The idea: both sides have at each place the bit of the domain and the first bit behind it, or the last bit of the last byte.
use mathlib.Core.Path.{◌≡◌, refl, sym, ap, ap₂, ◌∙◌}
use mathlib.Core.Bool.{Bool}
use mathlib.Core.List.{List, [], ◌∷◌, ◌++◌}
use Prim.Native.Nat.{ℕ, zero, suc, ◌+◌, ◌*◌, ◌-◌, ◌/◌, ◌%◌, ◌^◌, ◌≤◌, ◌<◌}
use native.Mathlib.Nat.{zero-div, mod-lt, mod_self, mod-eq_of_lt, mul-add-mod_self_left, div-add-mod, mul_assoc}
use native.Mathlib.Omega.{arith}
use lib.Bits.{bit_xor, xor_zero_r}
use lib.Dec.{eqb, ltb, lit<, eqb-zero-suc, eqb-suc-zero, eqb-suc-suc}
use lib.ListN.{length, get_or, length-append, get_or-append, get_or-eq_default}
use lib.Seq.{append_snoc, get_or-append-add}
use borrow.Author.Tests.{eqb-true, eqb-false, ltb-true, ltb-false, eq-eqb, ne_eqb}
use Rattle.basics.specs.Choice.{when◌then◌else◌}
use Rattle.basics.specs.Range.{all_below, sum, listed}
use Rattle.basics.specs.Digits.{bit}
use Rattle.basics.proofs.Choice.{by_cases, if-true, if-false}
use Rattle.basics.proofs.Range.{all-at, length-listed, listed_at, is-listed}
use Rattle.basics.proofs.Digits.{digit-number}
use Rattle.basics.proofs.Bits.{bit-xor}
use Rattle.sponge.specs.Sponge.{padding}
use Rattle.sponge.specs.PaddingBits.{bits_of, pad101, suffix_of, PaddingInBits}
use Rattle.sponge.proofs.Bytes.{below_one, below-append}

-- ---- the bits of bytes

length-bits_of : (bytes : List ℕ) → length (bits_of bytes) ≡ 8 * length bytes
unfolding bits_of
length-bits_of [] = refl
length-bits_of (b ∷ bytes) =
    length-append (listed (bit b) 0 8) (bits_of bytes) ∙ ap₂ (λ (x y : ℕ). x + y) (length-listed (bit b) 0 8) (length-bits_of bytes) ∙ omega arith

no-bit : (i : ℕ) → bit 0 i ≡ 0
no-bit i = ap (λ (x : ℕ). x % 2) (zero-div (2 ^ i))

bits_of-at : (bytes : List ℕ) (p : ℕ) → get_or (bits_of bytes) p 0 ≡ bit (get_or bytes (p / 8) 0) (p % 8)
unfolding bits_of
bits_of-at [] p = sym (no-bit (p % 8))
bits_of-at (b ∷ bytes) p = by_cases (ltb p 8) (λ t. front (ltb-true p 8 t)) (λ t. behind (ltb-false p 8 t) (bits_of-at bytes (p - 8)))
  where
    eight : length (listed (bit b) 0 8) ≡ 8
    eight = length-listed (bit b) 0 8

    front : p < 8 → get_or (listed (bit b) 0 8 ++ bits_of bytes) p 0 ≡ bit (get_or (b ∷ bytes) (p / 8) 0) (p % 8)
    front h =
        let k : p / 8 ≡ 0 = omega arith in
        let i : p % 8 ≡ p = omega arith in
        get_or-append (listed (bit b) 0 8) (bits_of bytes) 0 p (rw eight h) ∙ listed_at (bit b) 0 8 p h ∙ sym (rw (k, i))

    behind : 8 ≤ p → get_or (bits_of bytes) (p - 8) 0 ≡ bit (get_or bytes ((p - 8) / 8) 0) ((p - 8) % 8)
        → get_or (listed (bit b) 0 8 ++ bits_of bytes) p 0 ≡ bit (get_or (b ∷ bytes) (p / 8) 0) (p % 8)
    behind h ih =
        let place : p ≡ length (listed (bit b) 0 8) + (p - 8) = omega (arith, eight) in
        let k : p / 8 ≡ suc ((p - 8) / 8) = omega arith in
        let i : p % 8 ≡ (p - 8) % 8 = omega arith in
        ap (λ (q : ℕ). get_or (listed (bit b) 0 8 ++ bits_of bytes) q 0) place
        ∙ get_or-append-add (listed (bit b) 0 8) (bits_of bytes) (p - 8) 0
        ∙ ih
        ∙ sym (rw (k, i))

-- ---- the last bit

abbrev one_if : Bool → ℕ
one_if b = when b then 1 else 0

same_test : (a b c d : ℕ) → (a ≡ b → c ≡ d) → (c ≡ d → a ≡ b) → eqb a b ≡ eqb c d
same_test a b c d f g =
    by_cases (eqb a b) (λ t. t ∙ sym (eq-eqb c d (f (eqb-true a b t)))) (λ t. t ∙ sym (ne_eqb c d (λ e. eqb-false a b t (g e))))

highest-bit : (i : ℕ) → i < 8 → bit 0x80 i ≡ one_if (eqb i 7)
unfolding all_below when◌then◌else◌
highest-bit i h = eqb-true _ _ (all-at 8 (λ i. eqb (bit 0x80 i) (one_if (eqb i 7))) tt i h)

last_bit : (count p : ℕ) → bit (when eqb (p / 8 + 1) count then 0x80 else 0) (p % 8) ≡ one_if (eqb (p + 1) (8 * count))
last_bit count p =
    by_cases (eqb (p / 8 + 1) count)
    (λ t. ap (λ (x : ℕ). bit x (p % 8)) (if-true 0x80 0 t) ∙ highest-bit (p % 8) (omega arith) ∙ last_byte (eqb-true _ _ t))
    (λ f. let ne : p / 8 + 1 ≡ count → ⊥ = eqb-false _ _ f in
    ap (λ (x : ℕ). bit x (p % 8)) (if-false 0x80 0 f) ∙ no-bit (p % 8) ∙ sym (if-false 1 0 (ne_eqb (p + 1) (8 * count) (λ e. ne (omega arith)))))
  where
    last_byte : p / 8 + 1 ≡ count → one_if (eqb (p % 8) 7) ≡ one_if (eqb (p + 1) (8 * count))
    last_byte e = ap one_if (same_test (p % 8) 7 (p + 1) (8 * count) (λ i. omega arith) (λ q. omega arith))

-- ---- both sides

zeros-then-one : (j i r : ℕ) → get_or (listed (λ k. 0) i j ++ 1 ∷ []) r 0 ≡ one_if (eqb r j)
unfolding listed
zeros-then-one zero i zero = sym (if-true 1 0 refl)
zeros-then-one zero i (suc r) = sym (if-false 1 0 (eqb-suc-zero r))
zeros-then-one (suc j) i zero = sym (if-false 1 0 (eqb-zero-suc j))
zeros-then-one (suc j) i (suc r) = zeros-then-one j (suc i) r ∙ ap one_if (sym (eqb-suc-suc r j))

module _ (rate n : ℕ) (domain : List ℕ) (pos : 0 < rate) (short : length domain ≤ 6) (small : (i : ℕ) → get_or domain i 0 < 2) where
  -- the domain and the first bit of the padding
  abbrev begun : List ℕ
  begun = domain ++ 1 ∷ []

  abbrev count : ℕ
  count = rate - n % rate

  abbrev wanted : ℕ → ℕ
  wanted p = bit_xor (get_or begun p 0) (one_if (eqb (p + 1) (8 * count)))

  some : 0 < count
  some = omega (arith, mod-lt n pos)

  size-begun : length begun ≡ length domain + 1
  size-begun = length-append domain (1 ∷ [])

  past : (p : ℕ) → length domain < p → get_or begun p 0 ≡ 0
  past p h = get_or-eq_default begun 0 {n = p} (omega (arith, size-begun))

  first-bits : (p : ℕ) → bit (when eqb (p / 8) 0 then suffix_of domain else 0) (p % 8) ≡ get_or begun p 0
  unfolding suffix_of
  first-bits p =
      by_cases (eqb (p / 8) 0)
      (λ t. let k : p / 8 ≡ 0 = eqb-true _ _ t in
      let i : p % 8 ≡ p = omega arith in
      ap (λ (x : ℕ). bit x (p % 8)) (if-true (suffix_of domain) 0 t)
      ∙ digit-number 2 (lit< tt) 8 (λ j. get_or begun j 0) (below-append 2 domain (1 ∷ []) small (below_one (lit< tt))) (p % 8) (omega arith)
      ∙ ap (λ (q : ℕ). get_or begun q 0) i)
      (λ f. let ne : p / 8 ≡ 0 → ⊥ = eqb-false _ _ f in
      ap (λ (x : ℕ). bit x (p % 8)) (if-false (suffix_of domain) 0 f) ∙ no-bit (p % 8) ∙ sym (past p (omega arith)))

  bytes-side : bits_of (padding rate (suffix_of domain) n) ≡ listed wanted 0 (8 * count)
  unfolding padding
  bytes-side =
      is-listed wanted (8 * count) _ (length-bits_of _ ∙ ap (λ (k : ℕ). 8 * k) (length-listed _ 0 count))
      (λ p h. bits_of-at _ p
      ∙ ap (λ (x : ℕ). bit x (p % 8)) (listed_at _ 0 count (p / 8) (omega arith))
      ∙ bit-xor (when eqb (p / 8) 0 then suffix_of domain else 0) (when eqb (p / 8 + 1) count then 0x80 else 0) (p % 8)
      ∙ ap₂ bit_xor (first-bits p) (last_bit count p))

  -- the zeros between the two bits fill the last byte
  gap : (8 * rate - (8 * n + length domain + 2) % (8 * rate)) % (8 * rate) ≡ 8 * count - (length domain + 2)
  gap =
      let x : ℕ = 8 * rate in
      let rest : ℕ = 8 * (n % rate) + (length domain + 2) in
      let whole : 8 * n + length domain + 2 ≡ x * (n / rate) + rest = omega (arith, div-add-mod n rate, mul_assoc 8 rate (n / rate)) in
      let space : rest ≤ x = omega (arith, mod-lt n pos) in
      ap (λ (y : ℕ). (x - y % x) % x) whole
      ∙ ap (λ (y : ℕ). (x - y) % x) (mul-add-mod_self_left x (n / rate) rest)
      ∙ by_cases (ltb rest x)
      (λ t. let l : rest < x = ltb-true rest x t in
      ap (λ (y : ℕ). (x - y) % x) (mod-eq_of_lt l) ∙ mod-eq_of_lt {n = x - rest} {m = x} (omega arith) ∙ omega arith)
      (λ t. let e : rest ≡ x = omega (arith, ltb-false) in
      let none : x - 0 ≡ x = omega arith in
      ap (λ (y : ℕ). (x - y % x) % x) e ∙ ap (λ (y : ℕ). (x - y) % x) (mod_self x) ∙ ap (λ (y : ℕ). y % x) none ∙ mod_self x ∙ omega arith)

  bits-side : domain ++ pad101 (8 * rate) (8 * n + length domain) ≡ listed wanted 0 (8 * count)
  unfolding pad101
  bits-side =
      ap (λ (k : ℕ). domain ++ 1 ∷ (listed (λ i. 0) 0 k ++ 1 ∷ [])) gap
      ∙ sym (append_snoc domain 1 rest)
      ∙ is-listed wanted (8 * count) (begun ++ rest) size
      (λ p h. by_cases (ltb p (length begun)) (λ t. first p (ltb-true _ _ t)) (λ t. later p (ltb-false _ _ t)))
    where
      zeros : ℕ
      zeros = 8 * count - (length domain + 2)

      rest : List ℕ
      rest = listed (λ i. 0) 0 zeros ++ 1 ∷ []

      size : length (begun ++ rest) ≡ 8 * count
      size =
          omega (
            arith,
            some,
            size-begun,
            length-append begun rest,
            length-append {A = ℕ} (listed (λ i. 0) 0 zeros) (1 ∷ []),
            length-listed {A = ℕ} (λ i. 0) 0 zeros,
          )

      first : (p : ℕ) → p < length begun → get_or (begun ++ rest) p 0 ≡ wanted p
      first p l =
          get_or-append begun rest 0 p l
          ∙ sym (ap (bit_xor (get_or begun p 0)) (if-false 1 0 (ne_eqb (p + 1) (8 * count) (λ e. omega (arith, some, size-begun))))
          ∙ xor_zero_r (get_or begun p 0))

      later : (p : ℕ) → length begun ≤ p → get_or (begun ++ rest) p 0 ≡ wanted p
      later p l =
          let r : ℕ = p - length begun in
          let place : p ≡ length begun + r = omega arith in
          ap (λ (q : ℕ). get_or (begun ++ rest) q 0) place
          ∙ get_or-append-add begun rest r 0
          ∙ zeros-then-one zeros 0 r
          ∙ ap one_if (same_test r zeros (p + 1) (8 * count) (λ e. omega (arith, some, size-begun)) (λ e. omega (arith, some, size-begun)))
          ∙ sym (ap (λ (y : ℕ). bit_xor y (one_if (eqb (p + 1) (8 * count)))) (past p (omega (arith, size-begun))))

pub padding-in-bits : PaddingInBits
unfolding suffix_of sum
padding-in-bits =
    record {
      bits = λ rate n domain pos short small. bytes-side rate n domain pos short small ∙ sym (bits-side rate n domain pos short small);
      shake = refl;
      c_shake = refl;
    }
