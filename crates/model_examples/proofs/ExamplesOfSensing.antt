-- What a power-up senses, whole, on either map: a mark in the data and another in the digest of every partition, and the life cycle words of TEST_UNLOCKED0.
use mathlib.Core.Path.{◌≡◌, refl}
use mathlib.Core.List.{List, [], ◌∷◌, ◌++◌}
use Prim.Native.Nat.{ℕ, zero, suc, ◌-◌}
use lib.ListN.{replicate}
use Rattle.partitions.specs.Map1.{map1}
use Rattle.partitions.specs.Map2.{map2}
use Rattle.model.specs.declared.Command.TheVariants.{PowerUp}
use Rattle.model.specs.CaseTables.{off_chip}
use Rattle.model.specs.Step.{after}
use Rattle.model.proofs.Everything.{everything}
use Rattle.model.proofs.ToyChip.{toy}

-- a number of 16 bits as four words; the same once more and more often
abbrev block : ℕ → List ℕ
block x = x ∷ 0 ∷ 0 ∷ 0 ∷ []

unfoldable blocks : ℕ → ℕ → List ℕ
blocks zero x = []
blocks (suc n) x = block x ++ blocks n x

-- so many data words that begin with a mark, and a digest; a digest of the toy chip's own is 1
abbrev marked : ℕ → ℕ → List ℕ
marked n digest = 7 ∷ replicate (n - 1) 0 ++ block digest

-- count 1, TEST_UNLOCKED0
abbrev life : List ℕ
life = (3 ∷ replicate 23 1) ++ (3 ∷ replicate 19 1)

-- the data of a secret of so many blocks, unscrambled: the mark's lowest bit flipped, and a blank block as 1; then the digest
abbrev clear : ℕ → List ℕ
clear n = block 6 ++ blocks (n - 1) 1 ++ block 1

-- ---- Map 1: nothing of 0 and 1 is latched, and past partition 5 there is no digest

sensed-on-map1 :
    let m = after toy map1 (PowerUp ∷ [])
    (off_chip toy (λ i. 0) 448 (marked 124 11 ++ marked 124 12 ++ marked 36 1 ++ marked 16 1 ++ marked 40 1 ++ marked 40 1 ++ life)) in
    (m.session.sensed ≡ 11 ∷ 12 ∷ 1 ∷ 1 ∷ 1 ∷ 1 ∷ 0 ∷ 0 ∷ 0 ∷ 0 ∷ [])
    × (m.lent.copy ≡ replicate 256 0 ++ marked 36 1 ++ clear 4 ++ clear 10 ++ clear 10 ++ life)
unfolding everything blocks
sensed-on-map1 = (refl, refl)

-- ---- Map 2: nothing of 0 to 4 is latched

sensed-on-map2 :
    let m = after toy map2 (PowerUp ∷ [])
    (off_chip toy (λ i. 0) 740
    (marked 28 11 ++ marked 124 12 ++ marked 124 13 ++ marked 232 14 ++ marked 16 15 ++ marked 32 1 ++ marked 4 1 ++ marked 16 1 ++ marked 40 1 ++ marked 40 1
    ++ life)) in
    (m.session.sensed ≡ 11 ∷ 12 ∷ 13 ∷ 14 ∷ 15 ∷ 1 ∷ 1 ∷ 1 ∷ 1 ∷ 1 ∷ [])
    × (m.lent.copy ≡ replicate 544 0 ++ marked 32 1 ++ marked 4 1 ++ clear 4 ++ clear 10 ++ clear 10 ++ life)
unfolding everything map2 blocks
sensed-on-map2 = (refl, refl)
