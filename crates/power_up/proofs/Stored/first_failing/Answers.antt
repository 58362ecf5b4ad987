-- The first number of the range that is found is the first whose check fails, or none is.
use mathlib.Core.Path.{◌≡◌}
use mathlib.Core.Bool.{true, false}
use Prim.Native.Nat.{ℕ, ◌<◌}
use lib.ListN.{length}
use Rattle.std.proofs.Common.{arith, rules}
use Rattle.std.proofs.lemmas.Iterator.{first_from_Range}
use Rattle.partitions.specs.Map.{partition}
use Rattle.partitions.specs.Maps.{map_of}
use Rattle.partitions.proofs.Maps.{maps-fit}
use Rattle.model.specs.PowerUp.{digest_holds, first_failing}
use Rattle.chip.specs.Chip.{primitives}
use Rattle.power_up.proofs.Checking.{data-within, found_first}
use Rattle.power_up.proofs.Stored.first_failing.Goals as goal

pub returns : goal.returns
unfolding first_failing
returns c =
    let chip = c.args.self.chip in
    let map = map_of chip.map in
    let holds = λ (n : ℕ). digest_holds primitives chip.constants.now c.args.self.cells.now (partition map n) in
    let h = first_from_Range _ _ _ c.find.result (λ n. n < length map → holds n ≡ false) (λ n. n < length map → holds n ≡ true) c.find.ensures.ran
    (λ x q k l. let w = data-within map (maps-fit chip.map) l in grind arith)
    (λ x q k. (search rules, λ l. let w = data-within map (maps-fit chip.map) l in grind arith)) in
    found_first holds c.find.result c.count.ensures h
