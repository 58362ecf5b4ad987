-- Each statement writes its bytes into the frame: what stands then is followed from one to the next.
use mathlib.Core.Path.{◌≡◌, ◌∙◌}
use mathlib.Core.List.{[]}
use native.Mathlib.Omega.{arith}
use lib.Dec.{lit≤}
use lib.ListN.{length}
use borrow.Author.Rules.{rules}
use Rattle.std.specs.Int.{w64, to_le_bytes, from_bool}
use Rattle.frames.specs.Bytes.{all_bytes}
use Rattle.frames.specs.Frames.{lock_bytes, with_session}
use Rattle.frames.proofs.Bytes.{all-length, flattened, written}
use Rattle.frames.proofs.Locks.{locks-length, is_lock-bytes}
use Rattle.frames.proofs.Made.{mapped}
use Rattle.frames.proofs.Parts.{unwritten, then-three, then-part, then-zeros}
use Rattle.frames.proofs.writing.put_session.Goals as goal

pub returns : goal.returns
unfolding with_session
returns c =
    let s = c.args.session in
    let ten : length s.sensed ≡ 10 = search rules in
    let ten' : length s.locks ≡ 10 = search rules in
    let n : length (all_bytes 8 s.sensed) ≡ 80 = omega (arith, all-length 8 s.sensed) in
    let m : length (lock_bytes s.locks) ≡ 10 = omega (arith, locks-length s.locks) in
    let digests : c.copy_from_slice.new.self ≡ all_bytes 8 s.sensed =
    c.copy_from_slice.ensures.after ∙ c.as_flattened.ensures.value
    ∙ flattened s.sensed c.map.result (omega (arith, c.map.ensures.items.long))
    (λ i l. mapped _ _ _ _ 10 (to_le_bytes w64) c.map.ensures.items (λ p x y q k. search rules) i 0 [] (omega arith) ∙ written w64 _) in
    let locks : c.copy_from_slice-2.new.self ≡ lock_bytes s.locks =
    c.copy_from_slice-2.ensures.after
    ∙ is_lock-bytes s.locks c.map-2.result (omega (arith, c.map-2.ensures.items.long))
    (λ i l. mapped _ _ _ _ 10 from_bool c.map-2.ensures.items (λ p x y q k. search rules) i _ 0 (omega arith)) in
    let numbered = then-three (unwritten c.told-frame) c.phase_number.result s.state s.count in
    let cleared = then-zeros numbered 4 8 (lit≤ tt) (lit≤ tt) c.fill.new.self (c.fill.ensures.after (λ y e. e)) in
    let digested = then-part cleared 8 88 (lit≤ tt) (lit≤ tt) c.copy_from_slice.new.self (all_bytes 8 s.sensed) n digests in
    let locked = then-part digested 88 98 (lit≤ tt) (lit≤ tt) c.copy_from_slice-2.new.self (lock_bytes s.locks) m locks in
    let done = then-zeros locked 98 104 (lit≤ tt) (lit≤ tt) c.fill-2.new.self (c.fill-2.ensures.after (λ y e. e)) in
    rw (← c.phase_number.ensures) done.same
