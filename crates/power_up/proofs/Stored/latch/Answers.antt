-- A block that is stored is latched; at the end every word is.
use mathlib.Core.Path.{◌≡◌, ◌∙◌}
use native.Mathlib.Omega.{arith}
use Prim.Native.Nat.{◌*◌, ◌/◌}
use Rattle.partitions.specs.Map.{limit}
use Rattle.partitions.specs.Maps.{map_of}
use Rattle.partitions.proofs.Maps.{maps-fit}
use Rattle.chip.proofs.LifeCyclePlace.{words-in-blocks}
use Rattle.power_up.proofs.Sensing.{latched-none, latched-more, latched-all}
use Rattle.power_up.proofs.Stored.latch.Goals as goal

pub loop-number-init : goal.loop-number-init
loop-number-init c = latched-none _ _

pub loop-number-preserved : goal.loop-number-preserved
loop-number-preserved c =
    latched-more _ _ _ c.loop-number.number _ c.loop-number.invariant (omega arith) (c.copy_from_slice.ensures.after ∙ c.sensed_block.ensures)

pub returns : goal.returns
returns c =
    let n : 4 * c.loop-number.number ≡ limit (map_of c.args.self.chip.map) / 2 = omega (arith, c.requires, words-in-blocks _ (maps-fit c.args.self.chip.map)) in
    rw n at (latched-all _ c.loop-number.copy _ c.loop-number.invariant (omega (arith, c.requires)))
