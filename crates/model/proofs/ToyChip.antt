-- The chip of the computed examples: its cipher flips the lowest bit of a block, its hash that of a token, its digest is always 1, and its keys are zero.
use mathlib.Core.List.{List, [], ◌∷◌, ◌++◌}
use Prim.Native.Nat.{ℕ}
use lib.Bits.{bit_xor}
use lib.ListN.{replicate}
use Rattle.model.specs.declared.Phase.TheVariants.{Ready}
use Rattle.model.specs.Session.{no_digests, no_locks}
use Rattle.model.specs.Lent.{Machine, Primitives}
use Rattle.model.specs.Cases.{chip}

-- with a digest of one's choice
abbrev pub toy_with : (List ℕ → ℕ) → Primitives
toy_with digest =
    record {
      encrypt = λ key block. bit_xor block 1;
      decrypt = λ key block. bit_xor block 1;
      digest = λ start final words. digest words;
      hash = λ token. bit_xor token 1;
    }

abbrev pub toy : Primitives
toy = toy_with (λ words. 1)

-- the chip with these cells, switched off
abbrev pub off : List ℕ → Machine
off cells = chip toy (λ i. 0) cells

-- the chip with a Ready record over any cells: this state, count 0, nothing sensed locked
abbrev pub ready : ℕ → List ℕ → Machine
ready state cells = record {
  lent = (off cells).lent;
  session = record { phase = Ready; sensed = no_digests; locks = no_locks; state = state; count = 0 };
}

-- SECRET0 locked, with TEST_UNLOCK 0x71, whose hash is 0x70 (stored with its lowest bit flipped in each block); TEST_LOCKED0 after two strokes
unfoldable pub tested : List ℕ
tested =
    replicate 296 0 ++ (0x71 ∷ 0 ∷ 0 ∷ 0 ∷ 1 ∷ 0 ∷ 0 ∷ 0 ∷ []) ++ replicate 8 0 ++ (1 ∷ replicate 91 0) ++ (3 ∷ 3 ∷ replicate 22 1) ++ (3 ∷ 3 ∷ replicate 18 1)
