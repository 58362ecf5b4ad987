-- A fit map has no more words than the buffer.
use Rattle.std.proofs.Common.{arith, sym, length-take-le}
use Rattle.partitions.proofs.Maps.{maps-fit}
use Rattle.partitions.proofs.Map.{is-fit}
use Rattle.bench.proofs.rehearse.Goals as goal

pub slice_bounds-copy-end : goal.slice_bounds-copy-end
slice_bounds-copy-end g c = omega (arith, (is-fit _ (maps-fit c.args.chip.map)).short)

pub slice_bounds-copy-end-2 : goal.slice_bounds-copy-end-2
slice_bounds-copy-end-2 g c = sym (length-take-le _ _ (omega (arith, (is-fit _ (maps-fit c.args.chip.map)).short)))
