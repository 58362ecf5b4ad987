-- The width 168 and both strings taken one after another, and zeros to the end of the block.
use Rattle.cshake.specs.Encoding.{encode_string}
use Rattle.cshake.proofs.Taking.{prefix-taken}
use Rattle.cshake.proofs.prefix.Goals as goal

pub returns : goal.returns
returns c =
    let a = c.args in
    prefix-taken (encode_string a.name.now) (encode_string a.customization.now)
    c.new-sponge.ensures c.take_number.ensures c.take_string.ensures c.take_string-2.ensures c.fill.ensures
