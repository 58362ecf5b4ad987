-- The S-box, its inverse and the layer of boxes. The idea: what holds of a box is computed at its 16 values, and the layer is a number by its digits.
use mathlib.Core.Path.{◌≡◌, ap, ◌∙◌}
use Prim.Native.Nat.{ℕ, ◌^◌, ◌<◌}
use lib.Dec.{T, eqb, ltb, lit<}
use borrow.Author.Tests.{eqb-true, ltb-true}
use Rattle.basics.specs.Choice.{when◌then◌else◌}
use Rattle.basics.specs.Range.{all_below, sum}
use Rattle.basics.specs.Digits.{digit}
use Rattle.basics.proofs.Range.{all-at}
use Rattle.basics.proofs.Digits.{digit_lt, digit-number, number_lt, number_is, number_same}
use Rattle.present.specs.Present.{s_box, s_box_inverse, substitute}

-- two functions that are computed to agree at each value of four bits
same_at : (f g : ℕ → ℕ) → T (all_below 16 (λ v. eqb (f v) (g v))) → (v : ℕ) → v < 16 → f v ≡ g v
same_at f g t v h = eqb-true (f v) (g v) (all-at 16 (λ v. eqb (f v) (g v)) t v h)

pub s_box-lt : (v : ℕ) → v < 16 → s_box v < 16
unfolding s_box all_below
s_box-lt v h = ltb-true (s_box v) 16 (all-at 16 (λ v. ltb (s_box v) 16) tt v h)

pub s_box_inverse-lt : (v : ℕ) → v < 16 → s_box_inverse v < 16
unfolding s_box s_box_inverse all_below sum when◌then◌else◌
s_box_inverse-lt v h = ltb-true (s_box_inverse v) 16 (all-at 16 (λ v. ltb (s_box_inverse v) 16) tt v h)

pub s_box-back : (v : ℕ) → v < 16 → s_box_inverse (s_box v) ≡ v
unfolding s_box s_box_inverse all_below sum when◌then◌else◌
s_box-back = same_at (λ v. s_box_inverse (s_box v)) (λ v. v) tt

pub s_box-forth : (v : ℕ) → v < 16 → s_box (s_box_inverse v) ≡ v
unfolding s_box s_box_inverse all_below sum when◌then◌else◌
s_box-forth = same_at (λ v. s_box (s_box_inverse v)) (λ v. v) tt

-- a word of 16 groups that holds a box: group v is the value at v
abbrev pub Holds : ℕ → (ℕ → ℕ) → Type 0
Holds word box = T (all_below 16 (λ v. eqb (digit 16 word v) (box v)))

pub held : (word : ℕ) (box : ℕ → ℕ) → Holds word box → (v : ℕ) → v < 16 → digit 16 word v ≡ box v
held word box = same_at (digit 16 word) box

-- ---- the layer

pub substitute-held : (word : ℕ) (box : ℕ → ℕ) → Holds word box → (x : ℕ) → substitute (digit 16 word) x ≡ substitute box x
unfolding substitute
substitute-held word box t x = number_same 16 (lit< tt) 16 _ _ (λ i h. held word box t (digit 16 x i) (digit_lt 16 (lit< tt) x i))

module _ (box : ℕ → ℕ) (small : (v : ℕ) → v < 16 → box v < 16) (x : ℕ) where
  boxed-lt : (i : ℕ) → box (digit 16 x i) < 16
  boxed-lt i = small (digit 16 x i) (digit_lt 16 (lit< tt) x i)

  pub substitute-lt : substitute box x < 2 ^ 64
  unfolding substitute
  substitute-lt = number_lt 16 (lit< tt) 16 (λ i. box (digit 16 x i)) boxed-lt

  pub substitute-back : (back : ℕ → ℕ) → ((v : ℕ) → v < 16 → back (box v) ≡ v) → x < 2 ^ 64 → substitute back (substitute box x) ≡ x
  unfolding substitute
  substitute-back back undo l =
      number_is 16 (lit< tt) 16 x _ l
      (λ i h. ap back (digit-number 16 (lit< tt) 16 (λ j. box (digit 16 x j)) boxed-lt i h) ∙ undo (digit 16 x i) (digit_lt 16 (lit< tt) x i))
