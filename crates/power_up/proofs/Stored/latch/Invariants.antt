-- The invariant: the words of the blocks below the number are latched.
use Prim.Native.Nat.{◌*◌}
use Rattle.partitions.specs.Maps.{map_of}
use Rattle.model.specs.PowerUp.{copy_word}
use Rattle.chip.specs.Chip.{primitives}
use Rattle.power_up.proofs.Sensing.{Latched}
use Rattle.power_up.proofs.Stored.latch.Given as goal

abbrev pub invariant-loop-number : goal.invariant-loop-number
invariant-loop-number l = Latched (copy_word primitives (map_of l.self.chip.map) l.self.chip.constants.now l.self.cells.now) l.copy (4 * l.number)
