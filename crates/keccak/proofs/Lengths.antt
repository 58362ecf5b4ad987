-- The permutation gives 25 lanes, whatever it is given: its last step, iota of the last round, makes a whole state.
use mathlib.Core.Path.{◌≡◌}
use Prim.Native.Nat.{ℕ}
use mathlib.Core.List.{List}
use lib.ListN.{length}
use Rattle.basics.proofs.Range.{length-listed}
use Rattle.keccak.specs.State.{state_of}
use Rattle.keccak.specs.StepMappings.{iota}
use Rattle.keccak.specs.Permutation.{round, rounds, keccak_f}

pub length-keccak_f : (a : List ℕ) → length (keccak_f a) ≡ 25
unfolding keccak_f rounds round iota state_of
length-keccak_f a = length-listed _ 0 25
