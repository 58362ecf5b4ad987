-- The checker computes all 256 entries by their rule, and they are the constant's.
use mathlib.Core.Path.{refl}
use Rattle.basics.specs.Choice.{when◌then◌else◌}
use Rattle.basics.specs.Range.{listed, sum}
use Rattle.present.specs.Present.{s_box, place, permute}
use Rattle.present.specs.Tables.{table_of}
use Rattle.present.proofs.tables.round_table.Goals as goal

pub returns : goal.returns
unfolding when◌then◌else◌ listed sum s_box place permute table_of
returns c = refl
