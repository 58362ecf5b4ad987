-- The checker computes all 25 entries by their rule, and they are the constant's.
use mathlib.Core.Path.{refl}
use Rattle.basics.specs.Choice.{when◌then◌else◌}
use Rattle.basics.specs.Range.{listed, sum}
use Rattle.keccak.specs.StepMappings.{rho_position, offset}
use Rattle.keccak.specs.Tables.{offsets}
use Rattle.keccak.proofs.tables.offsets.Goals as goal

pub returns : goal.returns
unfolding when◌then◌else◌ listed sum rho_position offset offsets
returns c = refl
