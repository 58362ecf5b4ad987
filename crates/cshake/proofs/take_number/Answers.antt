-- The sponge takes the number of the bytes, those of the high part without the zeros in front, and the low byte.
use Rattle.cshake.proofs.Taking.{number-taken}
use Rattle.cshake.proofs.take_number.Goals as goal

pub returns : goal.returns
returns c =
    let a = c.args in
    number-taken a.sponge.now a.high a.low c.ranges.low.fits c.ranges.high.fits c.to_be_bytes.ensures c.take.ensures c.take_all.ensures c.take-2.ensures
