-- Each statement writes its bytes into the frame: what stands then is followed from one to the next.
use lib.Dec.{lit≤, lit<}
use mathlib.Core.Path.{◌∙◌}
use Rattle.std.specs.Int.{w64}
use Rattle.frames.specs.Bytes.{bytes_of}
use Rattle.frames.specs.Frames.{with_answer}
use Rattle.frames.proofs.Bytes.{bytes-length, written}
use Rattle.frames.proofs.Parts.{unwritten, then-byte, then-part, then-zeros}
use Rattle.frames.proofs.writing.put_answer.Goals as goal

pub returns : goal.returns
unfolding with_answer
returns c =
    let x = c.args.value in
    let value = c.copy_from_slice.ensures.after ∙ c.to_le_bytes.ensures ∙ written w64 x in
    let coded = then-byte (unwritten c.told-frame) 112 c.args.code (lit< tt) in
    let cleared = then-zeros coded 113 120 (lit≤ tt) (lit≤ tt) c.fill.new.self (c.fill.ensures.after (λ y e. e)) in
    let valued = then-part cleared 120 128 (lit≤ tt) (lit≤ tt) c.copy_from_slice.new.self (bytes_of 8 x) (bytes-length 8 x) value in
    (then-zeros valued 128 144 (lit≤ tt) (lit≤ tt) c.fill-2.new.self (c.fill-2.ensures.after (λ y e. e))).same
