-- The classes of commands that claims ask for, each fixed by its commands.
use Rattle.std.specs.Prelude.{◌≡◌, ◌↔◌, ℕ}
use Rattle.model.specs.declared.Command.{Command}
use Rattle.model.specs.declared.Command.TheVariants.{Write, Digest, Transition, PowerUp}
use Rattle.model.specs.Commands.{class_of, sensing, transiting}
use Rattle.model.specs.Claims.Terms.{writing_of, writes_at, digests_at}

pub record Classes : Type 0 where
  -- power-up is the only command of its class, and transitions are those of theirs: the others are accesses
  pub power_ups : (x : Command) → (class_of x ≡ sensing) ↔ (x ≡ PowerUp)
  pub transitions : (x : Command) → (class_of x ≡ transiting) ↔ ((target : ℕ) × (given : ℕ) × (x ≡ Transition target given))
  -- a write and a digest command write by direct access, and no other does
  pub writes : (x : Command) (a value : ℕ) → (writing_of x ≡ writes_at a value) ↔ (x ≡ Write a value)
  pub digests : (x : Command) (a : ℕ) → (writing_of x ≡ digests_at a) ↔ (x ≡ Digest a)
