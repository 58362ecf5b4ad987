-- The invariant: from i on stand the lowest digits of x, and the rest is what is left of x above them.
use mathlib.Core.Path.{◌≡◌}
use Prim.Native.Nat.{◌≤◌, ◌-◌, ◌/◌, ◌^◌}
use lib.ListN.{length, drop}
use Rattle.script.specs.Lines.{digits}
use Rattle.script.proofs.put_digits.Given as goal

abbrev pub invariant-loop-i : goal.invariant-loop-i
invariant-loop-i l =
    (l.i ≤ length l.part) × (length l.part ≡ length l.initial.part)
    × (drop l.i l.part ≡ digits l.base (length l.initial.part - l.i) l.x)
    × (l.rest ≡ l.x / l.base ^ (length l.initial.part - l.i))

abbrev pub decreases-loop-i : goal.decreases-loop-i
decreases-loop-i l = l.i
