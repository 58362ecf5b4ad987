-- The loop's invariant: before round i the register is the key after i - 1 steps, and the state the one after i - 1 rounds.
use Rattle.std.proofs.Common.{◌≡◌, ◌-◌}
use Rattle.present.specs.Present.{key_after, state_after}
use Rattle.present.proofs.encrypt.Given as goal

abbrev pub invariant-loop-i : goal.invariant-loop-i
invariant-loop-i l = (l.register ≡ key_after l.key (l.i - 1)) × (l.state ≡ state_after l.key l.block (l.i - 1))
