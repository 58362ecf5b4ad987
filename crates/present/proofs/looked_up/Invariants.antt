-- The loop's invariant: the exclusive or has the entries of the groups below i.
use Rattle.std.proofs.Common.{◌≡◌}
use Rattle.present.specs.Tables.{lookups}
use Rattle.present.proofs.looked_up.Given as goal

abbrev pub invariant-loop-i : goal.invariant-loop-i
invariant-loop-i l = l.out ≡ lookups l.table l.i l.x
