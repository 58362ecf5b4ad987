-- After a full block is permuted the next byte stands in the block.
use Rattle.std.proofs.Common.{arith}
use Rattle.sponge.proofs.Permuting.{byte_fits, place}
use Rattle.sponge.proofs.Sponge.give.Goals as goal

pub bounds-self-i : goal.bounds-self-i
bounds-self-i c = omega (arith, place c.permute_if_full.ensures, byte_fits c.args.self.now)

pub overflow_add-self : goal.overflow_add-self
overflow_add-self c = omega (arith, place c.permute_if_full.ensures, byte_fits c.args.self.now)
