-- The exclusive or is associative. The idea: halves by induction, and the lowest bits, of which there are eight cases, computed.
use mathlib.Core.Path.{◌≡◌, refl, sym, ap₂, ◌∙◌}
use Prim.Native.Nat.{ℕ, ◌+◌, ◌*◌, ◌/◌, ◌%◌, ◌<◌}
use native.Mathlib.Nat.{mod-lt}
use lib.Arith.{bin_ind}
use lib.Bits.{bit_xor, differ, xor_step, xor_shr, xor_mod}
use lib.Dec.{eqb, lit<}
use borrow.Author.Tests.{eqb-true}
use Rattle.basics.specs.Range.{all_below}
use Rattle.basics.proofs.Choice.{to-T}
use Rattle.basics.proofs.Range.{all-at}

lowest-bits : (x y z : ℕ) → x < 2 → y < 2 → z < 2 → differ (bit_xor x y) z ≡ differ x (bit_xor y z)
unfolding all_below
lowest-bits x y z h k l =
    eqb-true _ _
    (all-at 2 (λ z. eqb (differ (bit_xor x y) z) (differ x (bit_xor y z)))
    (to-T (all-at 2 (λ y. all_below 2 (λ z. eqb (differ (bit_xor x y) z) (differ x (bit_xor y z))))
    (to-T (all-at 2 (λ x. all_below 2 (λ y. all_below 2 (λ z. eqb (differ (bit_xor x y) z) (differ x (bit_xor y z))))) tt x h)) y k)) z l)

pub xor_assoc : (a b c : ℕ) → bit_xor (bit_xor a b) c ≡ bit_xor a (bit_xor b c)
xor_assoc =
    bin_ind (λ (n : ℕ). (b c : ℕ) → bit_xor (bit_xor n b) c ≡ bit_xor n (bit_xor b c)) (λ b c. refl)
    (λ n ih b c. xor_step (bit_xor n b) c
    ∙ ap₂ (λ (x y : ℕ). bit_xor x (c / 2) * 2 + differ y (c % 2)) (xor_shr n b 1) (xor_mod n b 1)
    ∙ ap₂ (λ (x y : ℕ). x * 2 + y) (ih (b / 2) (c / 2)) (lowest-bits (n % 2) (b % 2) (c % 2) (low n) (low b) (low c))
    ∙ sym (xor_step n (bit_xor b c) ∙ ap₂ (λ (x y : ℕ). bit_xor (n / 2) x * 2 + differ (n % 2) y) (xor_shr b c 1) (xor_mod b c 1)))
  where
    low : (x : ℕ) → x % 2 < 2
    low x = mod-lt x (lit< tt)
