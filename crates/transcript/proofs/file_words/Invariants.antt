-- The invariant: the first i words are the file's, the others as they were.
use Prim.Native.Nat.{◌≤◌}
use mathlib.Core.Path.{◌≡◌}
use mathlib.Core.List.{◌++◌}
use lib.ListN.{length, take, drop}
use Rattle.transcript.specs.Files.{pairs}
use Rattle.transcript.proofs.file_words.Given as goal

abbrev pub invariant-loop-i : goal.invariant-loop-i
invariant-loop-i l = (l.i ≤ length l.pairs) × (l.words ≡ take l.i (pairs l.bytes) ++ drop l.i l.initial.words)
