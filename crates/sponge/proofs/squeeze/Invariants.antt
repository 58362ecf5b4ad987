-- The invariant: the bytes before the loop's are those of the definition, and with a full block permuted the lanes are those that give the next one.
use mathlib.Core.Path.{◌≡◌}
use Prim.Native.Nat.{◌/◌, ◌%◌}
use lib.ListN.{length}
use Rattle.basics.proofs.Range.{Follows}
use Rattle.sponge.specs.Sponge.{state_byte, permuted_times}
use Rattle.sponge.specs.Streaming.{rate, sponge_of, permuted_if_full}
use Rattle.sponge.proofs.squeeze.Given as goal

abbrev pub invariant-loop-byte : goal.invariant-loop-byte
invariant-loop-byte l =
    Follows (λ j. state_byte (permuted_times (j / rate) l.fn.state) (j % rate)) (length l.initial.out) l.out l.byte-index
    × (permuted_if_full l.sponge ≡ sponge_of (permuted_times (l.byte-index / rate) l.fn.state) (l.byte-index % rate))
