-- The fields are what the calls gave.
use Prim.Native.Nat.{◌+◌, ◌*◌}
use mathlib.Core.Path.{◌≡◌}
use Rattle.std.proofs.Common.{rules}
use Rattle.basics.specs.Range.{listed}
use Rattle.script.specs.Records.{little_endian_at}
use Rattle.frames.specs.Bytes.{numbers_at}
use Rattle.frames.specs.Frames.{session_in, lock_in}
use Rattle.frames.proofs.Made.{made}
use Rattle.frames.proofs.reading.session_in.Goals as goal

pub returns : goal.returns
unfolding session_in numbers_at lock_in
returns c =
    let frame = c.args.frame.now in
    let sensed : c.from_fn.result ≡ listed (λ i. little_endian_at frame (8 + 8 * i) 8) 0 10 =
    made _ _ _ _ 10 c.from_fn.ensures.items (λ i y q k. (search rules, search rules)) in
    let locks : c.from_fn-2.result ≡ listed (lock_in frame) 0 10 =
    made _ _ _ _ 10 c.from_fn-2.ensures.items (λ i y q k. (search rules, search rules)) in
    rw (sensed, locks, c.phase_of.ensures)
