-- The loop's invariant: the lanes before x are stored, and the rows before y stand.
use Rattle.std.proofs.Common.{◌≡◌, ℕ, ◌+◌, ◌*◌, ◌<◌, get_or}
use Rattle.keccak.proofs.store_row.Given as goal

abbrev pub invariant-loop-x : goal.invariant-loop-x
invariant-loop-x g l =
    ((x : ℕ) → x < l.x → goal.F-post g l.lane x (get_or l.a (5 * l.y + x) 0))
    × ((k : ℕ) → k < 5 * l.y → get_or l.a k 0 ≡ get_or l.initial.a k 0)
