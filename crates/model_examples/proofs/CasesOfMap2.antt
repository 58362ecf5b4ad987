-- The table of cases over Map 2 holds: each row is computed.
use mathlib.Core.Path.{◌≡◌, refl, ap}
use mathlib.Core.Bool.{Bool, true, false}
use mathlib.Core.List.{List, [], ◌∷◌, ◌++◌}
use Prim.Native.Nat.{ℕ, ◌^◌, ◌<◌}
use Rattle.words.proofs.Words.{number-block}
use Rattle.partitions.specs.Map2.{map2}
use Rattle.model.specs.declared.Command.TheVariants.{Read, Write, FrontRead, Digest, ReadLock, Transition, PowerUp}
use Rattle.model.specs.Lent.{Primitives}
use Rattle.model.specs.Step.{obey}
use Rattle.model.specs.CaseTables.{Case, as_is, lowest_bit_changed, off, both_sides, second_burn, which_word}
use Rattle.model.specs.CasesOfMap2.{paper_on_map2, auth_state_rows, read_lock_rows, front_read_rows, edge_rows, hw_cfg1_digest, table_of_map2}
use Rattle.model.specs.CasesOfMap2.{HoldOnMap2, blank_hw_cfg1_digest}
use Rattle.model_examples.proofs.CaseTables.{◌&◌, same, right-same, wrong-differs, Part, both, held, powered, unlocking, unlocked}
use Rattle.model.proofs.Everything.{everything}

module _ (prims : Primitives) (keys : ℕ → ℕ) where
  infixl 2 ◌and◌
  ◌and◌ : {xs ys : List Case} → Part prims keys map2 740 xs → Part prims keys map2 740 ys → Part prims keys map2 740 (xs ++ ys)
  h and k = both prims keys map2 740 h k

  transition-is : (stored : ℕ → ℕ) (result : Bool) → same prims keys stored ≡ result
      → obey prims map2 (Transition 1 7) (powered prims keys map2 740 stored) ≡ unlocking prims keys map2 740 stored result
  unfolding everything map2
  transition-is stored result e = ap (unlocking prims keys map2 740 stored) e

  paper-rows : prims.hash 7 < 2 ^ 128 → Part prims keys map2 740 paper_on_map2
  unfolding everything map2
  paper-rows h =
      let right = transition-is as_is true (right-same prims keys h) in
      let wrong = transition-is lowest_bit_changed false (wrong-differs prims keys h) in
      record {
        rows =
            (refl, refl, tt) & (refl, refl, tt) & (refl, refl, tt) & (refl, refl, tt) & (refl, refl, tt) & (refl, refl, tt) & (refl, refl, tt) &
            (refl, refl, tt)
            & (
              refl,
              ap (unlocked prims keys map2 740
                  (Read 0 ∷ Write 0 0 ∷ FrontRead 0x440 ∷ Digest 0x440 ∷ ReadLock 0 ∷ Transition 1 7 ∷ PowerUp ∷ [])) right,
              tt,
            )
            & (refl, ap (unlocked prims keys map2 740 (PowerUp ∷ [])) wrong, tt) & (refl, refl, tt) & (refl, refl, refl)
            & (refl, ap (unlocked prims keys map2 740 (PowerUp ∷ Transition 2 0 ∷ PowerUp ∷ Transition 3 0 ∷ PowerUp ∷ [])) right, tt) &
            (refl, refl, tt) & tt;
      }

  auth-state : Part prims keys map2 740 auth_state_rows
  unfolding everything map2
  auth-state = record { rows = (refl, refl, refl) & (refl, refl, tt) & (refl, refl, tt) & (refl, refl, tt) & tt }

  read-locks : Part prims keys map2 740 read_lock_rows
  unfolding everything map2
  read-locks = record { rows = (refl, refl, tt) & (refl, refl, tt) & tt }

  front-reads : Part prims keys map2 740 front_read_rows
  unfolding everything map2
  front-reads = record { rows = (refl, refl, tt) & (refl, refl, tt) & tt }

  edges : Part prims keys map2 740 edge_rows
  unfolding everything map2
  edges = record { rows = (refl, refl, refl) & (refl, refl, refl) & (refl, refl, refl) & tt }

  owner-rows : Part prims keys map2 740 (both_sides 740 0x140)
  unfolding everything map2
  owner-rows = record {
    rows =
        (refl, refl, refl) & (refl, refl, refl) & (refl, refl, refl) & (refl, refl, refl) & (refl, refl, refl) & (refl, refl, tt) & (refl, refl, tt)
        & (refl, refl, tt) & tt;
  }

  device-once : Part prims keys map2 740 (second_burn 740 0x440)
  unfolding everything map2
  device-once = record { rows = (refl, refl, refl) & (refl, refl, tt) & (refl, refl, refl) & (refl, refl, tt) & tt }

  last-named : Part prims keys map2 740 (which_word 740 0x560)
  unfolding everything map2
  last-named = record { rows = (refl, refl, refl) & (refl, refl, refl) & (refl, refl, refl) & (refl, refl, refl) & tt }

  -- the words of a number of 64 bits stand for it
  hw-cfg1-digest : blank_hw_cfg1_digest prims keys < 2 ^ 64 → Part prims keys map2 740 (hw_cfg1_digest (blank_hw_cfg1_digest prims keys) ∷ off 740 ∷ [])
  unfolding everything map2
  hw-cfg1-digest h =
      let d = blank_hw_cfg1_digest prims keys in
      record { rows = (refl, ap (λ (x : ℕ). (0x00, 0) ∷ (0x00, d) ∷ (0x00, 0) ∷ (0x00, x) ∷ (0x00, x) ∷ []) (number-block d h), tt) & (refl, refl, tt) & tt }

  pub cases-of-map2 : blank_hw_cfg1_digest prims keys < 2 ^ 64 → prims.hash 7 < 2 ^ 128
      → HoldOnMap2 prims keys (table_of_map2 (blank_hw_cfg1_digest prims keys))
  unfolding table_of_map2
  cases-of-map2 h small =
      held prims keys map2 740 (table_of_map2 (blank_hw_cfg1_digest prims keys))
      (paper-rows small and auth-state and read-locks and front-reads and edges and owner-rows and device-once and last-named and hw-cfg1-digest h).rows
