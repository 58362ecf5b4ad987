-- The message taken, the suffix of SHAKE128, and the bytes that the sponge gives.
use Rattle.cshake.proofs.Squeezing.{shake-is}
use Rattle.cshake.proofs.shake128.Goals as goal

pub returns : goal.returns
returns c =
    shake-is c.args.message.now _ (λ i. (c.type_inv.message i).fits)
    c.new-sponge.ensures c.take_all.ensures c.finish.ensures c.squeeze.ensures
