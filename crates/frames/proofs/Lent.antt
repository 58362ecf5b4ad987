-- Laws of what a frame lends. The idea: the words that are lent are the first of those that are read.
use Prim.Native.Nat.{ℕ, zero, suc, min, ◌≤◌}
use mathlib.Core.Path.{◌≡◌, refl, ap, ◌∙◌}
use mathlib.Core.List.{List, ◌∷◌}
use native.Mathlib.Omega.{arith}
use lib.Dec.{ltb}
use lib.ListN.{take}
use borrow.Author.Tests.{ltb-true, ltb-false}
use Rattle.basics.specs.Range.{listed}
use Rattle.basics.proofs.Choice.{if-both}
use Rattle.model.specs.Lent.{Lent}
use Rattle.chip.specs.Chip.{lent_of}
use Rattle.script.specs.Records.{little_endian_at}
use Rattle.frames.specs.Bytes.{numbers_at}
use Rattle.frames.specs.Frames.{lent_in, cells_in, copy_in, constants_in, frame_on, frame_after}

take-listed : (f : ℕ → ℕ) (i n most : ℕ) → n ≤ most → take n (listed f i most) ≡ listed f i n
unfolding listed
take-listed f i zero most h = refl
take-listed f i (suc n) zero h = absurd (omega arith)
take-listed f i (suc n) (suc most) h = ap (λ (l : List ℕ). f i ∷ l) (take-listed f (suc i) n most (omega arith))

-- what is lent is the smaller of the number and of what the area has
pub lent_least : (frame : List ℕ) (at most : ℕ) → min (little_endian_at frame at 2) most ≡ lent_in frame at most
unfolding lent_in
lent_least frame at most =
    let n = little_endian_at frame at 2 in
    if-both (λ (k : ℕ). min n most ≡ k) (ltb most n) most n (λ t. omega (arith, ltb-true)) (λ t. omega (arith, ltb-false))

-- ---- what is lent of the words that are read

lent-words : (frame : List ℕ) (at n most : ℕ) (words : List ℕ) → words ≡ numbers_at frame at 2 most → n ≤ most → take n words ≡ numbers_at frame at 2 n
unfolding numbers_at
lent-words frame at n most words e h = rw e (take-listed _ 0 n most h)

pub step-read : (frame cells copy constants after : List ℕ) (n m k : ℕ)
    → cells ≡ numbers_at frame 144 2 1030 → copy ≡ numbers_at frame 2204 2 1030 → constants ≡ numbers_at frame 4524 2 180
    → (n ≡ lent_in frame 104 1030) × (n ≤ 1030) → (m ≡ lent_in frame 106 1030) × (m ≤ 1030) → (k ≡ lent_in frame 110 180) × (k ≤ 180)
    → after ≡ frame_on (lent_of (take n cells) (take m copy) (take k constants)) frame → after ≡ frame_after frame
unfolding frame_after
step-read frame cells copy constants after n m k c p t cn pn tn e =
    let words : lent_of (take n cells) (take m copy) (take k constants) ≡ lent_of (cells_in frame) (copy_in frame) (constants_in frame) =
    rw (
      lent-words frame 144 n 1030 cells c cn.1,
      lent-words frame 2204 m 1030 copy p pn.1,
      lent-words frame 4524 k 180 constants t tn.1,
      cn.0,
      pn.0,
      tn.0,
    ) refl in
    e ∙ ap (λ (l : Lent). frame_on l frame) words
