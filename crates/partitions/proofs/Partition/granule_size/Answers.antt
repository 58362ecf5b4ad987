-- In the digest eight bytes, in the data the partition's granule.
use mathlib.Core.Path.{sym, ◌∙◌}
use Rattle.basics.proofs.Choice.{if-true, if-false}
use Rattle.partitions.specs.Map.{granule_at}
use Rattle.partitions.proofs.Partition.granule_size.Goals as goal

pub returns-then-in_digest : goal.returns-then-in_digest
unfolding granule_at
returns-then-in_digest c = sym (if-true _ _ (sym c.in_digest.ensures ∙ c.if-in_digest.true))

pub returns-else-in_digest : goal.returns-else-in_digest
unfolding granule_at
returns-else-in_digest c = sym (if-false _ _ (sym c.in_digest.ensures ∙ c.if-in_digest.false))
