-- What the definitions of records are at the number of each kind: they compute there.
use Prim.Native.Nat.{ℕ, ◌+◌, ◌<◌}
use mathlib.Core.Path.{◌≡◌, refl}
use mathlib.Core.Bool.{true}
use mathlib.Core.List.{List}
use borrow.Author.Tests.{lt-ltb}
use Rattle.basics.specs.Choice.{when◌then◌else◌}
use Rattle.basics.proofs.Choice.{or_right}
use Rattle.model.specs.declared.Command.TheVariants.{Read, Write, FrontRead, Digest, ReadLock, Transition, PowerUp}
use Rattle.script.specs.Records.{unknown, body_length, byte_at, little_endian_at, command_at}

-- ---- the bytes of no kind

pub unknown-zero : unknown 0 ≡ true
unfolding unknown
unknown-zero = refl

pub unknown-above : (byte : ℕ) → 7 < byte → unknown byte ≡ true
unfolding unknown
unknown-above byte h = or_right _ _ (lt-ltb 7 byte h)

pub ruleset unknown_bytes = (unknown-zero, unknown-above)

-- ---- the lengths of bodies

pub length-read : body_length 1 ≡ 4
unfolding body_length when◌then◌else◌
length-read = refl

pub length-write : body_length 2 ≡ 12
unfolding body_length when◌then◌else◌
length-write = refl

pub length-front_read : body_length 3 ≡ 4
unfolding body_length when◌then◌else◌
length-front_read = refl

pub length-digest : body_length 4 ≡ 4
unfolding body_length when◌then◌else◌
length-digest = refl

pub length-read_lock : body_length 5 ≡ 1
unfolding body_length when◌then◌else◌
length-read_lock = refl

pub length-transition : body_length 6 ≡ 17
unfolding body_length when◌then◌else◌
length-transition = refl

pub length-power_up : body_length 7 ≡ 0
unfolding body_length when◌then◌else◌
length-power_up = refl

pub ruleset body_lengths =
    (length-read, length-write, length-front_read, length-digest, length-read_lock, length-transition, length-power_up)

-- ---- the commands

module _ (s : List ℕ) (at : ℕ) where
  pub command-read : command_at s 1 at ≡ Read (little_endian_at s at 4)
  unfolding command_at when◌then◌else◌
  command-read = refl

  pub command-write : command_at s 2 at ≡ Write (little_endian_at s at 4) (little_endian_at s (at + 4) 8)
  unfolding command_at when◌then◌else◌
  command-write = refl

  pub command-front_read : command_at s 3 at ≡ FrontRead (little_endian_at s at 4)
  unfolding command_at when◌then◌else◌
  command-front_read = refl

  pub command-digest : command_at s 4 at ≡ Digest (little_endian_at s at 4)
  unfolding command_at when◌then◌else◌
  command-digest = refl

  pub command-read_lock : command_at s 5 at ≡ ReadLock (byte_at s at)
  unfolding command_at when◌then◌else◌
  command-read_lock = refl

  pub command-transition : command_at s 6 at ≡ Transition (byte_at s at) (little_endian_at s (at + 1) 16)
  unfolding command_at when◌then◌else◌
  command-transition = refl

  pub command-power_up : command_at s 7 at ≡ PowerUp
  unfolding command_at when◌then◌else◌
  command-power_up = refl

pub ruleset commands =
    (command-read, command-write, command-front_read, command-digest, command-read_lock, command-transition, command-power_up)
