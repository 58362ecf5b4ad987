-- The loop's invariant: the keys that are left are the round keys from 1 on, and the state is held permuted back, one round more from the end.
use Rattle.std.proofs.Common.{◌≡◌, ℕ, suc, ◌<◌, length, get_or}
use Rattle.present.specs.Present.{round_key, key_after}
use Rattle.present.proofs.Backwards.{Held}
use Rattle.present.proofs.decrypt.Given as goal

abbrev pub invariant-loop-round_key : goal.invariant-loop-round_key
invariant-loop-round_key l =
    let left = l.round_key-iterator.iter.rest.now in
    ((k : ℕ) → k < length left → get_or left k 0 ≡ round_key (key_after l.key (suc k))) × Held l.key l.block l.state (length left)
