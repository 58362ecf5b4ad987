-- A phase that becomes Dead carries the code that was answered. The idea: a power-up that fails names its reason with its answer, and of the other
-- commands only an act that answers 4 makes the phase Dead.
use Rattle.std.specs.Prelude.{Option, None, Some}
use mathlib.Core.Path.{◌≡◌, refl, ap, ◌∙◌}
use mathlib.Core.Bool.{true}
use Prim.Native.Nat.{ℕ}
use native.Mathlib.Omega.{arith}
use Rattle.basics.proofs.Choice.{if-both, true-not-false, by_cases}
use Rattle.partitions.specs.Map.{Map}
use Rattle.life_cycle.specs.declared.LifeCycle.{LifeCycle}
use Rattle.model.specs.declared.Reason.{Reason}
use Rattle.model.specs.declared.Reason.TheVariants.{BitCleared, DigestFailed, LifeCycleFailed}
use Rattle.model.specs.declared.Phase.{Phase}
use Rattle.model.specs.declared.Phase.TheVariants.{Off, Ready, Inert, Dead}
use Rattle.model.specs.declared.Session.{Session}
use Rattle.model.specs.declared.Command.{Command}
use Rattle.model.specs.Session.{reason_code, is_ready}
use Rattle.model.specs.Answers.{Answer, code_of}
use Rattle.model.specs.Lent.{Lent, Machine, Primitives}
use Rattle.model.specs.Acts.{Effect, no_effect, lock, to_inert, to_dead, effect_on}
use Rattle.model.specs.Commands.{ready_act}
use Rattle.model.specs.PowerUp.{PowerUpEnd, life_cycle_end, end_of, power_up_end, powered_session, powered_answer}
use Rattle.model.specs.Step.{Step, unchanged, performed, act, power_up, step}
use Rattle.model.proofs.Acts.{Gives, perform-gives}
use Rattle.model.proofs.Transitions.{Ends}
use Rattle.model.proofs.Steps.{step-all, act-not-ready}
use Rattle.model.proofs.Leaves.{act-gives}

-- the number of a dead phase, 0 of another
dead-code : Phase → ℕ
dead-code Off = 0
dead-code Ready = 0
dead-code Inert = 0
dead-code (Dead reason) = reason_code reason

-- a dead phase is no other phase
not_dead : {phase : Phase} {reason : Reason} → phase ≡ Dead reason → dead-code phase ≡ 0 → ⊥
unfolding dead-code
not_dead {reason = BitCleared} e z = omega (arith, ap dead-code e, z)
not_dead {reason = DigestFailed} e z = omega (arith, ap dead-code e, z)
not_dead {reason = LifeCycleFailed} e z = omega (arith, ap dead-code e, z)

-- only a 4 makes the chip Dead at the end of an act
abbrev DeadWithFour : Answer → Effect → Type 0
DeadWithFour answer no_effect = Unit {0}
DeadWithFour answer (lock number) = Unit {0}
DeadWithFour answer to_inert = Unit {0}
DeadWithFour answer to_dead = code_of answer ≡ 0x04

dead-with-four-ends : Ends DeadWithFour
dead-with-four-ends = record { not-blank = λ cell. refl; moved = tt; forbidden = tt; token_unlocked = tt; differs = tt }

module _ (prims : Primitives) (map : Map) (m : Machine) where
  act-dead-with-four : (x : Command) → Gives DeadWithFour (ready_act prims map m x)
  act-dead-with-four x =
      act-gives prims map m
      (record { refused = λ r. tt; done = λ q value. tt; not_blank = λ q cell. tt; locked = λ n e. tt; used = λ e. tt; spent = λ e. dead-with-four-ends })

  -- a phase that is Ready becomes Dead by the effect `to_dead`
  effect-dead : (answer : Answer) (effect : Effect) (s : Session) {reason : Reason} → DeadWithFour answer effect → is_ready s.phase ≡ true
      → (effect_on effect s).phase ≡ Dead reason → code_of answer ≡ reason_code reason
  unfolding effect_on is_ready dead-code
  effect-dead answer no_effect s d r e = absurd (true-not-false r (ap is_ready e))
  effect-dead answer (lock number) s d r e = absurd (true-not-false r (ap is_ready e))
  effect-dead answer to_inert s d r e = absurd (not_dead e refl)
  effect-dead answer to_dead s d r e = d ∙ ap dead-code e

  module _ (reason : Reason) where
    -- what a step says of its reason
    abbrev pub ReasonNamed : Step → Type 0
    ReasonNamed s = (s.result.machine ≡ m → ⊥) → s.result.machine.session.phase ≡ Dead reason → code_of s.result.answer ≡ reason_code reason

    powered-reason : (v : Option ℕ) (life : Option LifeCycle) (l : Lent) → (powered_session map (end_of v life) l).phase ≡ Dead reason
        → code_of (powered_answer (end_of v life)) ≡ reason_code reason
    unfolding end_of life_cycle_end powered_session powered_answer dead-code
    powered-reason (Some number) life l = ap dead-code
    powered-reason None None l = ap dead-code
    powered-reason None (Some life) l =
        if-both (λ (w : PowerUpEnd). (powered_session map w l).phase ≡ Dead reason → code_of (powered_answer w) ≡ reason_code reason) _ _ _
        (λ t. ap dead-code) (λ t e. absurd (not_dead e refl))

    act-told : (x : Command) → ReasonNamed (act prims map x m)
    act-told x =
        by_cases (is_ready m.session.phase)
        (λ t h. unfold act performed in (effect-dead _ _ m.session (perform-gives (act-dead-with-four x) m.lent) t))
        (λ t h. absurd (h (act-not-ready prims map x m t)))

    pub deaths-named : (x : Command) → ReasonNamed (step prims map x m)
    unfolding unchanged power_up power_up_end
    deaths-named x = step-all prims map ReasonNamed x m (λ answer e h. absurd (h refl)) (λ h. powered-reason _ _ m.lent) (act-told x)
