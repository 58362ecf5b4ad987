-- The invariant: the lines counted and those left from the place on are those of the whole script.
use Prim.Native.Nat.{◌+◌, ◌-◌, ◌≤◌}
use mathlib.Core.Path.{◌≡◌}
use lib.ListN.{length}
use Rattle.transcript.proofs.Counting.{lines_left}
use Rattle.transcript.proofs.line_count.Given as goal

abbrev pub invariant-loop-next : goal.invariant-loop-next
invariant-loop-next l =
    (l.reader.script.now ≡ l.script) × (l.reader.place ≤ length l.script) × (l.count ≤ l.reader.place)
    × (l.count + lines_left l.script l.reader.place ≡ lines_left l.script 0)

abbrev pub decreases-loop-next : goal.decreases-loop-next
decreases-loop-next l = length l.script - l.reader.place
