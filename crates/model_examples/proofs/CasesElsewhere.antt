-- The rows of the table over Map 1 that stand for other partitions hold too: each row is computed.
use mathlib.Core.Path.{refl}
use mathlib.Core.List.{List, ◌++◌}
use Prim.Native.Nat.{ℕ}
use Rattle.partitions.specs.Map1.{map1}
use Rattle.model.specs.Lent.{Primitives}
use Rattle.model.specs.CaseTables.{Case, both_sides, second_burn, which_word}
use Rattle.model.specs.Cases.{table_elsewhere, Hold}
use Rattle.model_examples.proofs.CaseTables.{◌&◌, Part, both, held}
use Rattle.model.proofs.Everything.{everything}

module _ (prims : Primitives) (keys : ℕ → ℕ) where
  infixl 2 ◌and◌
  ◌and◌ : {xs ys : List Case} → Part prims keys map1 448 xs → Part prims keys map1 448 ys → Part prims keys map1 448 (xs ++ ys)
  h and k = both prims keys map1 448 h k

  owner-rows : Part prims keys map1 448 (both_sides 448 0x100)
  unfolding everything
  owner-rows = record {
    rows =
        (refl, refl, refl) & (refl, refl, refl) & (refl, refl, refl) & (refl, refl, refl) & (refl, refl, refl) & (refl, refl, tt) & (refl, refl, tt)
        & (refl, refl, tt) & tt;
  }

  device-once : Part prims keys map1 448 (second_burn 448 0x200)
  unfolding everything
  device-once = record { rows = (refl, refl, refl) & (refl, refl, tt) & (refl, refl, refl) & (refl, refl, tt) & tt }

  last-named : Part prims keys map1 448 (which_word 448 0x318)
  unfolding everything
  last-named = record { rows = (refl, refl, refl) & (refl, refl, refl) & (refl, refl, refl) & (refl, refl, refl) & tt }

  pub cases-elsewhere : Hold prims keys table_elsewhere
  unfolding table_elsewhere
  cases-elsewhere = held prims keys map1 448 table_elsewhere (owner-rows and device-once and last-named).rows
