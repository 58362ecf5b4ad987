-- The loop's invariant: the state has gone through the rounds before i.
use mathlib.Core.Path.{◌≡◌}
use Prim.Native.Nat.{◌≤◌}
use Rattle.keccak.specs.Permutation.{rounds}
use Rattle.keccak.proofs.permuted.Given as goal

abbrev pub invariant-loop-i : goal.invariant-loop-i
invariant-loop-i l = (l.i ≤ 24) × (l.out ≡ rounds l.i l.initial.out)
