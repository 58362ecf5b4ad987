-- The checker computes all 24 entries by their rule, and they are the constant's.
use mathlib.Core.Path.{refl}
use Rattle.basics.specs.Choice.{when◌then◌else◌}
use Rattle.basics.specs.Range.{listed, sum}
use Rattle.keccak.specs.StepMappings.{register_step, register, rc, round_constant}
use Rattle.keccak.specs.Tables.{round_constants}
use Rattle.keccak.proofs.tables.round_constants.Goals as goal

pub returns : goal.returns
unfolding when◌then◌else◌ listed sum register_step register rc round_constant round_constants
returns c = refl
