-- The loop's invariant: the rows before y are stored.
use Rattle.std.proofs.Common.{ℕ, ◌+◌, ◌*◌, ◌<◌, get_or}
use Rattle.keccak.proofs.state_of.Given as goal

abbrev pub invariant-loop-y : goal.invariant-loop-y
invariant-loop-y g l = (x y : ℕ) → x < 5 → y < l.y-counter → goal.F-post g l.lane x y (get_or l.a (5 * y + x) 0)
