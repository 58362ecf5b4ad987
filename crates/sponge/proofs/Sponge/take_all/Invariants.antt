-- The invariant: the bytes before the loop's are taken, so what is left to take are those from it on.
use mathlib.Core.Path.{◌≡◌}
use lib.ListN.{drop}
use Rattle.sponge.specs.Streaming.{taken_all}
use Rattle.sponge.proofs.Sponge.take_all.Given as goal

abbrev pub invariant-loop-byte : goal.invariant-loop-byte
invariant-loop-byte l = taken_all l.initial.self l.bytes ≡ taken_all l.self (drop l.byte-index l.bytes)
