-- A chip that is not Ready. The idea: every command but power-up is refused, so that nothing changes until one.
use mathlib.Core.Path.{◌≡◌, refl}
use mathlib.Core.Bool.{false}
use mathlib.Core.List.{List, [], ◌∷◌}
use Prim.Native.Nat.{ℕ}
use lib.Dec.{eqb}
use Rattle.basics.specs.Choice.{when◌then◌else◌}
use Rattle.basics.proofs.Choice.{by_cases}
use Rattle.partitions.specs.Map.{Map}
use Rattle.model.specs.declared.Command.{Command}
use Rattle.model.specs.Session.{is_ready}
use Rattle.model.specs.Lent.{Machine, Primitives}
use Rattle.model.specs.Step.{Step, unchanged, after, machine_after}
use Rattle.model.specs.Claims.Terms.{NoPowerUp, not_power_up}
use Rattle.model.specs.Claims.Refusals.{phase_after}
use Rattle.model.proofs.Steps.{obeys-act, step_both, act-not-ready}
use Rattle.model.proofs.Classes.{no-power-up}

-- a transition that is not refused early leaves such a phase
pub later-phase : (code : ℕ) → is_ready (phase_after code) ≡ false
unfolding phase_after is_ready when◌then◌else◌
later-phase code = by_cases (eqb code 0x04) (λ t. rw t) (λ t. rw t)

module _ (prims : Primitives) (map : Map) where
  pub step-not-ready : (x : Command) (m : Machine) → not_power_up x → is_ready m.session.phase ≡ false → machine_after prims map x m ≡ m
  unfolding unchanged
  step-not-ready x m u e =
      step_both prims map (λ (s : Step). s.result.machine ≡ m) x m (λ answer j. refl)
      (rw (obeys-act prims map x m (no-power-up x u)) (act-not-ready prims map x m e))

  pub after-not-ready : (l : List Command) (m : Machine) → NoPowerUp l → is_ready m.session.phase ≡ false → after prims map l m ≡ m
  unfolding after
  after-not-ready [] m u e = refl
  after-not-ready (x ∷ l) m u e = rw (step-not-ready x m u.0 e) (after-not-ready l m u.1 e)
