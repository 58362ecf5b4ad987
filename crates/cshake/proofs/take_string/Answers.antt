-- The length in bits is 256 times the 32nd part of the length in bytes, and eight times what is left.
use Rattle.cshake.proofs.Taking.{string-taken}
use Rattle.cshake.proofs.take_string.Goals as goal

pub returns : goal.returns
returns c = string-taken c.args.sponge.now c.args.text.now c.take_number.ensures c.take_all.ensures
