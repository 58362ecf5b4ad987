-- Copy, sensed digests and value are those of the definition.
use Rattle.power_up.proofs.PowerUpEnd.{ready-result}
use Rattle.chip.specs.Chip.{lent_of}
use Rattle.power_up.proofs.Stored.ready.Goals as goal

pub returns : goal.returns
returns c =
    let s = c.args.self in
    ready-result _ _ _ (lent_of s.cells.now c.args.copy.now s.chip.constants.now)
    c.latch.ensures c.stored_digests-sensed.ensures c.unlocked.ensures c.value_of.ensures
