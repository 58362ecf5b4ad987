-- The shift is a product with a power of 256.
use Rattle.std.proofs.Common.{List, ℕ, ap, rules}
use Rattle.sponge.specs.Streaming.{sponge_of}
use Rattle.sponge.proofs.Shifting.{with-byte}
use Rattle.sponge.proofs.Sponge.add_byte.Goals as goal

pub returns : goal.returns
returns c =
    let s = c.args.self.now in
    ap (λ (lanes : List ℕ). sponge_of lanes s.at) (with-byte s.lanes c.args.i c.args.byte c.from.result (search rules) (search rules))
