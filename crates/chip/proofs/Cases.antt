-- The tables of cases hold of the chip, whatever its keys and digest constants: a digest is a number of 64 bits, and a hash one of 128.
use Prim.Native.Nat.{ℕ, ◌^◌, ◌<◌}
use lib.Dec.{lit<}
use Rattle.basics.specs.Range.{listed}
use Rattle.words.specs.Words.{part_at}
use Rattle.words.proofs.Words.{number_lt}
use Rattle.words.proofs.Parts.{listed-words}
use Rattle.digest.proofs.Fits.{digest-lt}
use Rattle.token_hash.proofs.Fits.{hash-lt}
use Rattle.constants.specs.Constants.{digest_start, digest_final}
use Rattle.model.specs.Cases.{table, table_elsewhere, Hold, blank_digest}
use Rattle.model.specs.CaseTables.{constants}
use Rattle.model.specs.CasesOfMap2.{table_of_map2, HoldOnMap2, blank_hw_cfg1_digest}
use Rattle.model_examples.proofs.Cases.{cases}
use Rattle.model_examples.proofs.CasesElsewhere.{cases-elsewhere}
use Rattle.model_examples.proofs.CasesOfMap2.{cases-of-map2}
use Rattle.chip.specs.Chip.{primitives}

-- a digest of blank words, with any keys and digest constants
blank-digest-lt : (keys : ℕ → ℕ) → ((i : ℕ) → keys i < 65536) → (n : ℕ)
    → primitives.digest (digest_start (constants primitives keys)) (digest_final (constants primitives keys)) (listed (λ i. 0) 0 n) < 2 ^ 64
unfolding digest_start digest_final part_at listed
blank-digest-lt keys h n =
    digest-lt _ _ (listed (λ i. 0) 0 n) (number_lt (listed keys 24 4) (listed-words h 24 4)) (number_lt (listed keys 28 8) (listed-words h 28 8))
    (listed-words {f = λ i. 0} (λ i. lit< tt) 0 n)

pub chip-cases-elsewhere : (keys : ℕ → ℕ) → Hold primitives keys table_elsewhere
chip-cases-elsewhere = cases-elsewhere primitives

module _ (keys : ℕ → ℕ) (h : (i : ℕ) → keys i < 65536) where
  pub chip-cases : Hold primitives keys (table (blank_digest primitives keys))
  unfolding listed
  chip-cases = cases primitives keys (blank-digest-lt keys h 36) (hash-lt 7)

  pub chip-cases-of-map2 : HoldOnMap2 primitives keys (table_of_map2 (blank_hw_cfg1_digest primitives keys))
  unfolding listed
  chip-cases-of-map2 = cases-of-map2 primitives keys (blank-digest-lt keys h 4) (hash-lt 7)
