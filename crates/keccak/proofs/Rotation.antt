-- The bits of a lane that is shifted or rotated. The idea: below n a rotated lane has the bits that were shifted out above, from n on those that stayed.
use mathlib.Core.Path.{◌≡◌, sym, ap, ap₂, ◌∙◌}
use Prim.Native.Nat.{ℕ, suc, ◌+◌, ◌-◌, ◌*◌, ◌/◌, ◌%◌, ◌^◌, ◌≤◌, ◌<◌, max}
use native.Mathlib.Nat.{lt_of_lt_of_le, div-eq_of_lt, mul_assoc}
use native.Mathlib.Omega.{arith}
use lib.Bits.{bit_or, shifted_even}
use lib.Dec.{eqb, ltb, lit<}
use lib.Pow.{pow-add, pow_mono, shl-shr, shr-shr}
use borrow.Author.Tests.{eqb-true, eqb-false, ltb-true, ltb-false}
use Rattle.basics.specs.Digits.{bit}
use Rattle.basics.proofs.Choice.{by_cases}
use Rattle.basics.proofs.Digits.{digit_low}
use Rattle.basics.proofs.Bits.{bit-or}

bit-down : (x m z : ℕ) → bit (x / 2 ^ m) z ≡ bit x (m + z)
bit-down x m z = ap (λ (y : ℕ). y % 2) (shr-shr x m z)

bit-raised : (x n j : ℕ) → bit (x * 2 ^ n) (n + j) ≡ bit x j
bit-raised x n j = ap (λ (y : ℕ). y % 2) (sym (shr-shr (x * 2 ^ n) n j) ∙ ap (λ (y : ℕ). y / 2 ^ j) (shl-shr x n))

bit-under : (x n z : ℕ) → z < n → bit (x * 2 ^ n) z ≡ 0
bit-under x n z h =
    let k = n - suc z in
    let e : n ≡ suc k + z = omega arith in
    ap (λ (m : ℕ). x * 2 ^ m / 2 ^ z % 2) e
    ∙ ap (λ (p : ℕ). p / 2 ^ z % 2) (ap (λ (p : ℕ). x * p) (pow-add 2 (suc k) z) ∙ sym (mul_assoc x (2 ^ suc k) (2 ^ z)))
    ∙ ap (λ (p : ℕ). p % 2) (shl-shr (x * 2 ^ suc k) z)
    ∙ shifted_even x k

bit_past : (k x z : ℕ) → x < 2 ^ k → k ≤ z → bit x z ≡ 0
bit_past k x z l h = ap (λ (y : ℕ). y % 2) (div-eq_of_lt (lt_of_lt_of_le l (pow_mono h)))

module _ (lane n : ℕ) (fits : lane < 2 ^ 64) (within : n < 64) where
  -- the greater of the bits that the two shifts bring is the bit of the rotated lane
  both : (z : ℕ) → z < 64 → max (bit (lane * 2 ^ n) z) (bit lane ((64 - n) % 64 + z)) ≡ bit lane ((z + (64 - n)) % 64)
  both z h = by_cases (ltb z n) (λ t. low (ltb-true _ _ t)) (λ t. high (ltb-false _ _ t))
    where
      low : z < n → max (bit (lane * 2 ^ n) z) (bit lane ((64 - n) % 64 + z)) ≡ bit lane ((z + (64 - n)) % 64)
      low l =
          let e : (64 - n) % 64 + z ≡ (z + (64 - n)) % 64 = omega arith in
          rw (bit-under lane n z l, e) (omega arith)

      stays : n ≤ z → bit lane ((64 - n) % 64 + z) ≤ bit lane (z - n)
      stays l =
          by_cases (eqb n 0) (λ t. let e : (64 - n) % 64 + z ≡ z - n = omega (arith, eqb-true n 0 t) in rw e (omega arith))
          (λ t. rw (bit_past 64 lane ((64 - n) % 64 + z) fits (omega (arith, eqb-false n 0 t))) (omega arith))

      high : n ≤ z → max (bit (lane * 2 ^ n) z) (bit lane ((64 - n) % 64 + z)) ≡ bit lane ((z + (64 - n)) % 64)
      high l =
          let e : z ≡ n + (z - n) = omega arith in
          let f : (z + (64 - n)) % 64 ≡ z - n = omega arith in
          let g : bit (lane * 2 ^ n) z ≡ bit lane (z - n) = ap (bit (lane * 2 ^ n)) e ∙ bit-raised lane n (z - n) in
          rw (f, g) (omega (arith, stays l))

  -- bit z comes from bit z - n
  pub rotated-bit : (z : ℕ) → z < 64 → bit (bit_or (lane * 2 ^ n % 2 ^ 64) (lane / 2 ^ ((64 - n) % 64))) z ≡ bit lane ((z + (64 - n)) % 64)
  rotated-bit z h = bit-or _ _ z ∙ ap₂ max (digit_low 2 (lit< tt) 64 z (lane * 2 ^ n) h) (bit-down lane ((64 - n) % 64) z) ∙ both z h
