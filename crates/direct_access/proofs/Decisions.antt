-- The commands on an address, each as one test. The idea: past the map an address is denied as it is by the command's own rule, so that both are one test and
-- the act behind it.
use mathlib.Core.Path.{◌≡◌, refl}
use Rattle.std.specs.Prelude.{Ok}
use mathlib.Core.Bool.{Bool, ◌||◌}
use Prim.Native.Nat.{ℕ, ◌/◌}
use lib.Dec.{leb}
use Rattle.basics.specs.Choice.{when◌then◌else◌}
use Rattle.words.specs.Words.{words_of}
use Rattle.partitions.specs.declared.Partition.{Partition}
use Rattle.partitions.specs.Map.{Map, limit, first_word}
use Rattle.model.specs.declared.Failure.TheVariants.{Denied}
use Rattle.model.specs.declared.Command.{Command}
use Rattle.model.specs.declared.Command.TheVariants.{Read, Write, FrontRead, Digest}
use Rattle.model.specs.Session.{sensed_locked, read_locked}
use Rattle.model.specs.Lent.{Machine}
use Rattle.model.specs.Acts.{no_effect, Act, say, program, refuse}
use Rattle.model.specs.Commands.{direct_rule, digest_rule, granule, write_denied, read_denied, front_read_denied, digest_denied, stored_form}
use Rattle.model.specs.Commands.{read_value, computed_digest}
use Rattle.model.specs.Commands.{write_act, read_act, front_read_act, digest_act, command_act}
use Rattle.model.specs.Claims.Terms.{not_power_up}
use Rattle.chip.specs.Chip.{primitives}
use Rattle.direct_access.specs.declared.Place.{Place}
use Rattle.direct_access.specs.Access.{place_at}

-- the command x on the address a is decided so: `denied` tests the place of the address, and `go` is the act where it does not deny
pub record Decided (map : Map) (x : Command) (m : Machine) (a : ℕ) (denied : Place → Bool) (go : Place → Act) : Type 0 where
  pub acts : not_power_up x
  pub decides : command_act primitives map m x
      ≡ (when leb (limit map) a || denied (place_at map a) then refuse Denied else go (place_at map a))

-- the digest that a digest command programs
abbrev pub digest_now : Machine → Partition → ℕ
digest_now m p = computed_digest primitives m.lent.constants p m.lent.cells

module _ (map : Map) (m : Machine) (a : ℕ) where
  pub read-decided : Decided map (Read a) m a
      (λ q. read_denied (sensed_locked m.session q.number) (read_locked m.session q.number) q.partition q.address)
      (λ q. say (Ok (read_value primitives m.lent.constants q.partition m.lent.cells q.address)) no_effect)
  unfolding command_act read_act
  read-decided = record { acts = tt; decides = refl }

  pub front-decided : Decided map (FrontRead a) m a (λ q. front_read_denied q.partition q.address)
      (λ q. say (Ok (granule q.partition m.lent.copy q.address)) no_effect)
  unfolding command_act front_read_act
  front-decided = record { acts = tt; decides = refl }

  pub write-decided : (value : ℕ) → Decided map (Write a value) m a (λ q. write_denied (sensed_locked m.session q.number) q.partition q.address)
      (λ q. program (direct_rule q.partition q.address) (first_word q.partition q.address)
      (stored_form primitives m.lent.constants q.partition q.address value) no_effect (say (Ok 0) no_effect))
  unfolding command_act write_act
  write-decided value = record { acts = tt; decides = refl }

  pub digest-decided : Decided map (Digest a) m a (λ q. digest_denied (sensed_locked m.session q.number) q.partition q.address)
      (λ q. program digest_rule (q.partition.digest / 2) (words_of 4 (digest_now m q.partition)) no_effect (say (Ok (digest_now m q.partition)) no_effect))
  unfolding command_act digest_act
  digest-decided = record { acts = tt; decides = refl }
