-- Each entry is the number at its place.
use Prim.Native.Nat.{◌+◌, ◌*◌}
use Rattle.std.proofs.Common.{rules}
use Rattle.script.specs.Records.{little_endian_at}
use Rattle.frames.specs.Bytes.{numbers_at}
use Rattle.frames.proofs.Made.{made}
use Rattle.frames.proofs.numbers.words_at.Goals as goal

pub returns : goal.returns
unfolding numbers_at
returns g c =
    made _ _ _ (λ i. little_endian_at c.args.frame.now (c.args.at + 2 * i) 2) g.row.N
    c.from_fn.ensures.items (λ i y q k. (search rules, search rules))
