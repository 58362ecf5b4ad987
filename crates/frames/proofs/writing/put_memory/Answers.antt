-- Each statement writes its bytes into the frame: what stands then is followed from one to the next.
use mathlib.Core.Path.{◌≡◌}
use Prim.Native.Nat.{◌+◌, ◌-◌, ◌*◌, ◌≤◌}
use native.Mathlib.Omega.{arith}
use lib.Dec.{lit≤}
use lib.ListN.{length}
use Rattle.frames.specs.Bytes.{all_bytes}
use Rattle.frames.specs.Frames.{with_memory}
use Rattle.frames.proofs.Bytes.{all-length}
use Rattle.frames.proofs.Parts.{unwritten, then-part, then-zeros}
use Rattle.frames.proofs.writing.put_memory.Goals as goal

pub returns : goal.returns
unfolding with_memory
returns c =
    let cells = c.args.cells.now in
    let copy = c.args.copy.now in
    let end = 144 + 2 * length cells in
    let end' = 2204 + 2 * length copy in
    let n : length (all_bytes 2 cells) ≡ end - 144 = omega (arith, all-length 2 cells) in
    let n' : length (all_bytes 2 copy) ≡ end' - 2204 = omega (arith, all-length 2 copy) in
    let order : 144 ≤ end = omega arith in
    let within : end ≤ 5120 = omega arith in
    let order' : 2204 ≤ end' = omega arith in
    let within' : end' ≤ 5120 = omega arith in
    let first = then-part (unwritten c.told-frame) 144 end order within c.put_words.new.part (all_bytes 2 cells) n c.put_words.ensures in
    let second = then-part first 2204 end' order' within' c.put_words-2.new.part (all_bytes 2 copy) n' c.put_words-2.ensures in
    (then-zeros second 4884 5120 (lit≤ tt) (lit≤ tt) c.fill.new.self (c.fill.ensures.after (λ y e. e))).same
