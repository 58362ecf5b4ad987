-- The table of cases over Map 1 holds: each row is computed.
use mathlib.Core.Path.{◌≡◌, refl, ap}
use mathlib.Core.Bool.{Bool, true, false}
use mathlib.Core.List.{List, [], ◌∷◌, ◌++◌}
use Prim.Native.Nat.{ℕ, ◌^◌, ◌<◌}
use Rattle.words.proofs.Words.{number-block}
use Rattle.partitions.specs.Map1.{map1}
use Rattle.model.specs.declared.Command.TheVariants.{Read, Write, FrontRead, Digest, ReadLock, Transition, PowerUp}
use Rattle.model.specs.Lent.{Primitives}
use Rattle.model.specs.Step.{obey}
use Rattle.model.specs.CaseTables.{Case, as_is, lowest_bit_changed, off, both_sides, second_burn, which_word}
use Rattle.model.specs.Cases.{paper, hardware, locked_first, table, Hold, blank_digest}
use Rattle.model_examples.proofs.CaseTables.{◌&◌, same, right-same, wrong-differs, Part, both, held, powered, unlocking, unlocked}
use Rattle.model.proofs.Everything.{everything}

module _ (prims : Primitives) (keys : ℕ → ℕ) where
  infixl 2 ◌and◌
  ◌and◌ : {xs ys : List Case} → Part prims keys map1 448 xs → Part prims keys map1 448 ys → Part prims keys map1 448 (xs ++ ys)
  h and k = both prims keys map1 448 h k

  transition-is : (stored : ℕ → ℕ) (result : Bool) → same prims keys stored ≡ result
      → obey prims map1 (Transition 1 7) (powered prims keys map1 448 stored) ≡ unlocking prims keys map1 448 stored result
  unfolding everything
  transition-is stored result e = ap (unlocking prims keys map1 448 stored) e

  paper-rows : prims.hash 7 < 2 ^ 128 → Part prims keys map1 448 paper
  unfolding everything
  paper-rows h =
      let right = transition-is as_is true (right-same prims keys h) in
      let wrong = transition-is lowest_bit_changed false (wrong-differs prims keys h) in
      record {
        rows =
            (refl, refl, tt) & (refl, refl, tt) & (refl, refl, tt) & (refl, refl, tt) & (refl, refl, tt) & (refl, refl, tt) & (refl, refl, tt) &
            (refl, refl, tt)
            & (
              refl,
              ap (unlocked prims keys map1 448
                  (Read 0 ∷ Write 0 0 ∷ FrontRead 0x200 ∷ Digest 0x200 ∷ ReadLock 0 ∷ Transition 1 7 ∷ PowerUp ∷ [])) right,
              tt,
            )
            & (refl, ap (unlocked prims keys map1 448 (PowerUp ∷ [])) wrong, tt) & (refl, refl, tt) & (refl, refl, refl)
            & (refl, ap (unlocked prims keys map1 448 (PowerUp ∷ Transition 2 0 ∷ PowerUp ∷ Transition 3 0 ∷ PowerUp ∷ [])) right, tt) &
            (refl, refl, tt) & tt;
      }

  creator-rows : Part prims keys map1 448 (both_sides 448 0x000)
  unfolding everything
  creator-rows = record {
    rows =
        (refl, refl, refl) & (refl, refl, refl) & (refl, refl, refl) & (refl, refl, refl) & (refl, refl, refl) & (refl, refl, tt) & (refl, refl, tt)
        & (refl, refl, tt) & tt;
  }

  -- the words of a number of 64 bits stand for it
  hardware-rows : blank_digest prims keys < 2 ^ 64 → Part prims keys map1 448 (hardware (blank_digest prims keys) ∷ [])
  unfolding everything
  hardware-rows h =
      let d = blank_digest prims keys in
      record { rows = (refl, ap (λ (x : ℕ). (0x00, 0) ∷ (0x00, d) ∷ (0x00, 0) ∷ (0x00, x) ∷ (0x00, x) ∷ []) (number-block d h), tt) & tt }

  creator-once : Part prims keys map1 448 (second_burn 448 0x000)
  unfolding everything
  creator-once = record { rows = (refl, refl, refl) & (refl, refl, tt) & (refl, refl, refl) & (refl, refl, tt) & tt }

  first-named : Part prims keys map1 448 (which_word 448 0x250)
  unfolding everything
  first-named = record { rows = (refl, refl, refl) & (refl, refl, refl) & (refl, refl, refl) & (refl, refl, refl) & tt }

  locked-first : Part prims keys map1 448 (locked_first ∷ off 448 ∷ [])
  unfolding everything
  locked-first = record { rows = (refl, refl, tt) & (refl, refl, tt) & tt }

  -- the digest is a number of 64 bits, and the hash of the token one of 128
  pub cases : blank_digest prims keys < 2 ^ 64 → prims.hash 7 < 2 ^ 128 → Hold prims keys (table (blank_digest prims keys))
  unfolding table
  cases h small =
      held prims keys map1 448 (table (blank_digest prims keys))
      (paper-rows small and creator-rows and hardware-rows h and creator-once and first-named and locked-first).rows
