-- A byte shifted to its place in a lane. The idea: a shift by eight bits is one by a digit to the base 256.
use mathlib.Core.Path.{◌≡◌, refl, sym, ap, ◌∙◌}
use mathlib.Core.List.{List}
use Prim.Native.Nat.{ℕ, zero, suc, ◌+◌, ◌*◌, ◌/◌, ◌%◌, ◌^◌, ◌<◌}
use native.Mathlib.Nat.{pow-succ', mod-lt}
use native.Mathlib.Omega.{arith}
use lib.Bits.{bit_xor}
use lib.Dec.{lit<}
use lib.ListN.{get_or, set}
use lib.Pow.{pow-add, shl_exact}
use Rattle.sponge.specs.Streaming.{with_byte}

pub power_256 : (k : ℕ) → 2 ^ (8 * k) ≡ 256 ^ k
power_256 zero = refl
power_256 (suc k) =
    let e : 8 * suc k ≡ 8 + 8 * k = omega arith in
    ap (λ (n : ℕ). 2 ^ n) e ∙ pow-add 2 8 (8 * k) ∙ ap (λ (x : ℕ). 256 * x) (power_256 k) ∙ sym (pow-succ' 256 k)

shifted : (x k : ℕ) → x < 256 → k < 8 → x * 2 ^ (8 * k) % 2 ^ 64 ≡ x * 256 ^ k
shifted x k h l = shl_exact 8 (8 * k) 64 h (omega arith) ∙ ap (λ (y : ℕ). x * y) (power_256 k)

pub with-byte : (lanes : List ℕ) (i byte x : ℕ) → x ≡ byte → x < 256
    → set lanes (i / 8) (bit_xor (get_or lanes (i / 8) 0) (x * 2 ^ (8 * (i % 8)) % 2 ^ 64)) ≡ with_byte lanes i byte
unfolding with_byte
with-byte lanes i byte x e h =
    ap (λ (y : ℕ). set lanes (i / 8) (bit_xor (get_or lanes (i / 8) 0) y)) (shifted x (i % 8) h (mod-lt i (lit< tt)) ∙ ap (λ (y : ℕ). y * 256 ^ (i % 8)) e)
