-- The invariant: the bytes of the first i words stand, the others are as they were.
use Prim.Native.Nat.{◌*◌, ◌≤◌}
use mathlib.Core.Path.{◌≡◌}
use mathlib.Core.List.{◌++◌}
use lib.ListN.{length, take, drop}
use Rattle.frames.specs.Bytes.{all_bytes}
use Rattle.frames.proofs.numbers.put_words.Given as goal

abbrev pub invariant-loop-i : goal.invariant-loop-i
invariant-loop-i l = (l.i ≤ length l.words) × (l.part ≡ all_bytes 2 (take l.i l.words) ++ drop (2 * l.i) l.initial.part)
