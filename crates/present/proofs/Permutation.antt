-- The bit permutation. The idea: `place` has an inverse, `source`, so that the sum over where bits go is the number of where they come from.
use mathlib.Core.Path.{◌≡◌, sym, ap, ap₂, ◌∙◌}
use mathlib.Core.Bool.{true, ◌&&◌}
use Prim.Native.Nat.{ℕ, ◌*◌, ◌%◌, ◌^◌, ◌<◌}
use lib.Bits.{bit_xor, xor_lt}
use lib.Dec.{T, eqb, ltb, lit<}
use borrow.Author.Tests.{eqb-true, ltb-true}
use Rattle.basics.specs.Choice.{when◌then◌else◌}
use Rattle.basics.specs.Range.{all_below}
use Rattle.basics.specs.Digits.{bit, number}
use Rattle.basics.proofs.Choice.{and_left, and_right}
use Rattle.basics.proofs.Range.{all-at}
use Rattle.basics.proofs.Sum.{sum-permuted}
use Rattle.basics.proofs.Digits.{digit_lt, digit-number, number_lt, number_is}
use Rattle.basics.proofs.Bits.{bit-xor}
use Rattle.present.specs.Present.{place, permute, permute_back}

-- the bit that comes to place j
unfoldable source : ℕ → ℕ
source j = when eqb j 63 then 63 else 4 * j % 63

-- `from` leads back from where `to` leads
abbrev Undone : (ℕ → ℕ) → (ℕ → ℕ) → Type 0
Undone to from = (i : ℕ) → i < 64 → (to i < 64) × (from (to i) ≡ i)

undone : (to from : ℕ → ℕ) → T (all_below 64 (λ i. ltb (to i) 64 && eqb (from (to i)) i)) → Undone to from
undone to from t i h =
    let e : (ltb (to i) 64 && eqb (from (to i)) i) ≡ true = all-at 64 (λ i. ltb (to i) 64 && eqb (from (to i)) i) t i h in
    (ltb-true (to i) 64 (and_left (ltb (to i) 64) _ e), eqb-true (from (to i)) i (and_right (ltb (to i) 64) _ e))

place-undone : Undone place source
unfolding place source all_below when◌then◌else◌
place-undone = undone place source tt

source-undone : Undone source place
unfolding place source all_below when◌then◌else◌
source-undone = undone source place tt

-- ---- numbers made of the bits of another

abbrev gathered : (ℕ → ℕ) → ℕ → ℕ
gathered from x = number 2 64 (λ j. bit x (from j))

gathered-lt : (from : ℕ → ℕ) (x : ℕ) → gathered from x < 2 ^ 64
gathered-lt from x = number_lt 2 (lit< tt) 64 (λ j. bit x (from j)) (λ j. digit_lt 2 (lit< tt) x (from j))

gathered-bit : (from : ℕ → ℕ) (x j : ℕ) → j < 64 → bit (gathered from x) j ≡ bit x (from j)
gathered-bit from x j h = digit-number 2 (lit< tt) 64 (λ k. bit x (from k)) (λ k. digit_lt 2 (lit< tt) x (from k)) j h

gathered-back : (to from : ℕ → ℕ) → Undone to from → (x : ℕ) → x < 2 ^ 64 → gathered to (gathered from x) ≡ x
gathered-back to from u x l = number_is 2 (lit< tt) 64 x _ l (λ i h. gathered-bit from x (to i) (u i h).0 ∙ ap (bit x) (u i h).1)

gathered-xor : (from : ℕ → ℕ) (x y : ℕ) → gathered from (bit_xor x y) ≡ bit_xor (gathered from x) (gathered from y)
gathered-xor from x y =
    number_is 2 (lit< tt) 64 (bit_xor (gathered from x) (gathered from y)) _ (xor_lt 64 _ _ (gathered-lt from x) (gathered-lt from y))
    (λ j h. bit-xor x y (from j) ∙ sym (bit-xor (gathered from x) (gathered from y) j ∙ ap₂ bit_xor (gathered-bit from x j h) (gathered-bit from y j h)))

permute-gathers : (x : ℕ) → permute x ≡ gathered source x
unfolding permute
permute-gathers x = sum-permuted 64 place source (λ i j. bit x i * 2 ^ j) place-undone source-undone

-- ---- the laws

pub permute-lt : (x : ℕ) → permute x < 2 ^ 64
permute-lt x = rw permute-gathers (gathered-lt source x)

pub permute_back-lt : (x : ℕ) → permute_back x < 2 ^ 64
unfolding permute_back
permute_back-lt x = gathered-lt place x

-- "Bit i goes to 16i mod 63, bit 63 stays."
pub permute-moves : (x i : ℕ) → i < 64 → bit (permute x) (place i) ≡ bit x i
permute-moves x i h = rw permute-gathers (gathered-bit source x (place i) (place-undone i h).0 ∙ ap (bit x) (place-undone i h).1)

pub permute-back : (x : ℕ) → x < 2 ^ 64 → permute_back (permute x) ≡ x
unfolding permute_back
permute-back x l = rw permute-gathers (gathered-back place source place-undone x l)

pub permute-forth : (x : ℕ) → x < 2 ^ 64 → permute (permute_back x) ≡ x
unfolding permute_back
permute-forth x l = rw permute-gathers (gathered-back source place source-undone x l)

-- bits are moved one by one, so that both ways distribute over exclusive or
pub permute-xor : (x y : ℕ) → permute (bit_xor x y) ≡ bit_xor (permute x) (permute y)
permute-xor x y = rw (permute-gathers (bit_xor x y), permute-gathers x, permute-gathers y) (gathered-xor source x y)

pub permute_back-xor : (x y : ℕ) → permute_back (bit_xor x y) ≡ bit_xor (permute_back x) (permute_back y)
unfolding permute_back
permute_back-xor = gathered-xor place
