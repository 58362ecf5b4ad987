-- The invariant: the bytes of the first i words stand, the others are as they were.
use Prim.Native.Nat.{◌+◌, ◌-◌, ◌*◌}
use mathlib.Core.Path.{◌≡◌, refl, ◌∙◌}
use native.Mathlib.Omega.{arith}
use lib.ListN.{get_or}
use Rattle.std.specs.Int.{w16}
use Rattle.frames.specs.Bytes.{bytes_of, all_bytes}
use Rattle.frames.proofs.Bytes.{written, stored-more}
use Rattle.frames.proofs.numbers.put_words.Goals as goal

pub loop-i-init : goal.loop-i-init
unfolding all_bytes
loop-i-init c = (omega arith, refl)

pub loop-i-preserved : goal.loop-i-preserved
loop-i-preserved c =
    let i = c.loop-i.i in
    let part = c.copy_from_slice.new.self in
    let e : part ≡ bytes_of 2 (get_or c.args.words.now i 0) = c.copy_from_slice.ensures.after ∙ c.to_le_bytes.ensures ∙ written w16 _ in
    let q : 2 * i + 2 - 2 * i ≡ 2 = omega arith in
    (omega arith, rw (q, c.loop-i.invariant.1) (stored-more c.args.part.now c.args.words.now i c.requires (omega arith) part e))
