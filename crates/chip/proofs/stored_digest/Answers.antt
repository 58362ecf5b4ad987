-- The four words are read off the definition.
use Rattle.model.specs.Commands.{stored_digest}
use Rattle.chip.proofs.stored_digest.Goals as goal

pub returns : goal.returns
unfolding stored_digest
returns c = c.block_at.ensures
