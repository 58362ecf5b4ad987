-- Laws of the numbers in a script, over their width. The ideas: a number of m + n bytes is one of m bytes and, above it, one of n bytes; and the library's
-- number of some bytes is the sum that `little_endian_at` takes.
use mathlib.Core.Path.{◌≡◌, refl, sym, ap, ◌∙◌}
use mathlib.Core.List.{List}
use Prim.Native.Nat.{ℕ, zero, suc, ◌+◌, ◌*◌, ◌^◌}
use native.Mathlib.Nat.{add-zero, add-suc, mul-zero, mul-add, mul_left_comm}
use native.Mathlib.Omega.{arith}
use lib.ListN.{get_or, take, drop}
use lib.Pow.{pow-add}
use Rattle.std.proofs.lemmas.List.{get_or-drop, get_or-take}
use Rattle.std.specs.Int.{w16, w32, w64, w128, from_le_bytes, sum_through, byte_worth}
use Rattle.basics.specs.Range.{sum}
use Rattle.basics.proofs.Sum.{sum_same}
use Rattle.script.specs.Records.{byte_at, little_endian_at}

number-split : (s : List ℕ) (at m n : ℕ) → little_endian_at s at (m + n) ≡ little_endian_at s at m + 256 ^ m * little_endian_at s (at + m) n
unfolding little_endian_at sum
number-split s at m zero = rw add-zero (omega (arith, mul-zero (256 ^ m)))
number-split s at m (suc n) =
    let b : ℕ = byte_at s (at + m + n) in
    let e : byte_at s (at + (m + n)) ≡ b = ap (byte_at s) (omega arith) in
    rw (add-suc m n, e, pow-add 256 m n)
    (omega (arith, number-split s at m n, mul-add (256 ^ m) (b * 256 ^ n) (little_endian_at s (at + m) n), mul_left_comm (256 ^ m) b (256 ^ n)))

-- the two halves of a token make the number of its sixteen bytes (docs/DEMANDS.md names this law)
pub token-whole : (s : List ℕ) (at : ℕ) → little_endian_at s (at + 8) 8 * 2 ^ 64 + little_endian_at s at 8 ≡ little_endian_at s at 16
token-whole s at = omega (arith, number-split s at 8 8)

-- ---- the library's numbers

worth : (i b : ℕ) → byte_worth i b ≡ b * 256 ^ i
worth zero b = omega arith
worth (suc i) b = refl

through : (f : ℕ → ℕ) (n : ℕ) → sum_through f n ≡ sum (suc n) f
unfolding sum
through f zero = omega arith
through f (suc n) = omega (arith, through f n)

-- the number of the n + 1 bytes from `at` on
taken-number : (s : List ℕ) (at n : ℕ) → sum_through (λ i. byte_worth i (get_or (take (suc n) (drop at s)) i 0)) n ≡ little_endian_at s at (suc n)
unfolding little_endian_at
taken-number s at n =
    through (λ i. byte_worth i (get_or (take (suc n) (drop at s)) i 0)) n
    ∙ sum_same (suc n) _ _ (λ i h. worth i _ ∙ ap (λ (b : ℕ). b * 256 ^ i) (get_or-take (suc n) (drop at s) i 0 h ∙ get_or-drop at s i 0))

-- by the widths that are read
module _ (s : List ℕ) (at : ℕ) where
  pub number-2 : little_endian_at s at 2 ≡ from_le_bytes w16 (take 2 (drop at s))
  number-2 = sym (taken-number s at 1)

  pub number-4 : little_endian_at s at 4 ≡ from_le_bytes w32 (take 4 (drop at s))
  number-4 = sym (taken-number s at 3)

  pub number-8 : little_endian_at s at 8 ≡ from_le_bytes w64 (take 8 (drop at s))
  number-8 = sym (taken-number s at 7)

  pub number-16 : little_endian_at s at 16 ≡ from_le_bytes w128 (take 16 (drop at s))
  number-16 = sym (taken-number s at 15)

pub ruleset numbers = (number-2, number-4, number-8, number-16)
