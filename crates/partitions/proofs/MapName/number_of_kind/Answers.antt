-- The place that is found is the definition's, and so is the count where there is none.
use Rattle.std.proofs.Common.{◌∙◌}
use Rattle.partitions.proofs.FirstOfKind.{first_of_kind}
use Rattle.partitions.proofs.MapName.number_of_kind.Goals as goal

pub returns : goal.returns
returns c = c.unwrap_or.ensures ∙ rw (c.first_of.ensures, c.partitions.ensures, c.count.ensures) (first_of_kind _ c.args.kind)
