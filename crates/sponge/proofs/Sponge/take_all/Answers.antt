-- The invariant: the bytes before the loop's are taken, so what is left to take are those from it on.
use Rattle.std.proofs.Common.{sym, ◌∙◌, arith}
use Rattle.sponge.proofs.Taking.{take_next, take_none}
use Rattle.sponge.proofs.Sponge.take_all.Goals as goal

pub loop-byte-preserved : goal.loop-byte-preserved
loop-byte-preserved c =
    let v = c.loop-byte in
    v.invariant ∙ take_next v.self c.args.bytes.now v.byte-index (omega arith) c.take.ensures

pub returns : goal.returns
returns c =
    let v = c.loop-byte in
    sym (v.invariant ∙ take_none v.self c.args.bytes.now v.byte-index (omega arith))
