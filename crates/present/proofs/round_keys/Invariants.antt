-- The loop's invariant: the register has gone i steps, and the first i entries are its round keys.
use Rattle.std.proofs.Common.{◌≡◌, ℕ}
use Rattle.basics.proofs.Range.{Follows}
use Rattle.present.specs.Present.{round_key, key_after}
use Rattle.present.proofs.round_keys.Given as goal

abbrev pub rule : ℕ → ℕ → ℕ
rule key i = round_key (key_after key i)

abbrev pub invariant-loop-i : goal.invariant-loop-i
invariant-loop-i l = (l.register ≡ key_after l.key l.i) × Follows (rule l.key) 32 l.place-items l.i
