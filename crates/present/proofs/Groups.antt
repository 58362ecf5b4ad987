-- Groups of four bits by shifts. The idea: a power of 16 is a power of 2.
use mathlib.Core.Path.{◌≡◌, refl, sym, ap, ◌∙◌}
use Prim.Native.Nat.{ℕ, zero, suc, ◌*◌, ◌/◌, ◌%◌, ◌^◌, ◌<◌}
use native.Mathlib.Nat.{pow-suc, mul-suc}
use native.Mathlib.Omega.{arith}
use lib.Bits.{bit_and, and_mask}
use lib.Pow.{pow-add, shl_exact}
use Rattle.basics.specs.Digits.{digit}

pub sixteen-power : (i : ℕ) → 16 ^ i ≡ 2 ^ (4 * i)
sixteen-power zero = refl
sixteen-power (suc i) =
    pow-suc 16 i ∙ ap (λ (x : ℕ). x * 16) (sixteen-power i) ∙ sym (pow-add 2 (4 * i) 4) ∙ ap (λ (x : ℕ). 2 ^ x) (sym (mul-suc 4 i))

-- `(x >> 4 * i) & 15`
pub group_is : (x i : ℕ) → bit_and (x / 2 ^ (4 * i)) 15 ≡ digit 16 x i
group_is x i = rw sixteen-power (and_mask (x / 2 ^ (4 * i)) 4)

-- `d << (4 * i)`, where nothing is shifted out
pub group-shifted : (d i : ℕ) → d < 16 → i < 16 → d * 2 ^ (4 * i) % 2 ^ 64 ≡ d * 16 ^ i
group-shifted d i l h = shl_exact 4 (4 * i) 64 l (omega arith) ∙ ap (λ (p : ℕ). d * p) (sym (sixteen-power i))
