-- Premises are met: the tables of cases with keys and digest constants of zero.
use Rattle.model.specs.Cases.{table, Hold, blank_digest}
use Rattle.model.specs.CasesOfMap2.{table_of_map2, HoldOnMap2, blank_hw_cfg1_digest}
use Rattle.chip.specs.Chip.{primitives}
use lib.Dec.{lit<}
use Rattle.chip.proofs.Cases.{chip-cases, chip-cases-of-map2}

zero-keys : Hold primitives (λ i. 0) (table (blank_digest primitives (λ i. 0)))
zero-keys = chip-cases (λ i. 0) (λ i. lit< tt)

zero-keys-of-map2 : HoldOnMap2 primitives (λ i. 0) (table_of_map2 (blank_hw_cfg1_digest primitives (λ i. 0)))
zero-keys-of-map2 = chip-cases-of-map2 (λ i. 0) (λ i. lit< tt)
