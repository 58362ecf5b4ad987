-- The progress of the life cycle from a power-up on. The idea: a transition keeps it, spends a stroke or takes an entry of the table, and every other command
-- keeps it.
use Rattle.std.specs.Prelude.{Option}
use Rattle.std.proofs.lemmas.Option.{same_Some}
use mathlib.Core.Path.{◌≡◌, refl, sym, ap, ◌∙◌}
use mathlib.Core.Bool.{true}
use mathlib.Core.List.{List, [], ◌∷◌, ◌++◌}
use Prim.Native.Nat.{ℕ, ◌≤◌}
use native.Mathlib.Omega.{arith}
use Rattle.partitions.specs.Map.{Map}
use Rattle.partitions.specs.Fitness.{fit}
use Rattle.life_cycle.specs.declared.LifeCycle.{LifeCycle}
use Rattle.model.specs.declared.Command.{Command}
use Rattle.model.specs.declared.Command.TheVariants.{Transition, PowerUp}
use Rattle.model.specs.Answers.{code_of}
use Rattle.model.specs.Lent.{Machine, Primitives}
use Rattle.model.specs.PowerUp.{life_cycle_in}
use Rattle.model.specs.Step.{Step, unchanged, after, machine_after, answer_to, obey}
use Rattle.model.specs.Claims.Terms.{ValidInputs, valid_life}
use Rattle.model.specs.Claims.Transitions.{Progress, stays, spends, moves}
use Rattle.model.specs.Commands.{class_of, access}
use Rattle.model.proofs.Steps.{after-append, step-all, step_both}
use Rattle.model.proofs.LifeCycleWords.{up-life, others-life}
use Rattle.model.proofs.Since.{Reached, step-reached, since-reached, recorded}
use Rattle.model.proofs.TransitionLife.{LifeAfter, kept, spent, went, life-not-four, transition-life}
use Rattle.model.proofs.Classes.{by-class}

module _ (prims : Primitives) (map : Map) (F : fit map ≡ true) where
  -- ---- one command

  -- a command that is neither power-up nor transition leaves the life cycle words, and so does a power-up
  access-progress : (x : Command) (m : Machine) → class_of x ≡ access
      → Progress (life_cycle_in map m.lent) (life_cycle_in map (machine_after prims map x m).lent)
  unfolding unchanged
  access-progress x m e =
      step-all prims map (λ (s : Step). Progress (life_cycle_in map m.lent) (life_cycle_in map s.result.machine.lent)) x m (λ answer j. stays)
      (rw (up-life prims map F m) stays) (rw (others-life prims map F x m e) stays)

  up-progress : (m : Machine) → Progress (life_cycle_in map m.lent) (life_cycle_in map (machine_after prims map PowerUp m).lent)
  unfolding unchanged obey
  up-progress m =
      step_both prims map (λ (s : Step). Progress (life_cycle_in map m.lent) (life_cycle_in map s.result.machine.lent)) PowerUp m (λ answer j. stays)
      (rw (up-life prims map F m) stays)

  life-progress : {m : Machine} {target code : ℕ} {life : Option LifeCycle} → LifeAfter prims map m target code life → Progress (life_cycle_in map m.lent) life
  life-progress (kept s z f e) = rw e stays
  life-progress (spent s v e) = rw (e, v) (spends stays)
  life-progress (went z v a e) = rw (e, v) (moves stays a)

  step-progress : (x : Command) (m : Machine) → Reached prims map F m
      → Progress (life_cycle_in map m.lent) (life_cycle_in map (machine_after prims map x m).lent)
  step-progress =
      by-class (λ (x : Command). (m : Machine) → Reached prims map F m
      → Progress (life_cycle_in map m.lent) (life_cycle_in map (machine_after prims map x m).lent))
      (λ m h. up-progress m) (λ target given m h. life-progress (transition-life prims map F m h.held.right (recorded prims map F m h) target given))
      (λ x e m h. access-progress x m e)

  -- ---- a list of commands

  progress-trans : {x y z : Option LifeCycle} → Progress x y → Progress y z → Progress x z
  progress-trans f stays = f
  progress-trans f (spends g) = spends (progress-trans f g)
  progress-trans f (moves g a) = moves (progress-trans f g) a

  after-progress : (l : List Command) (m : Machine) → Reached prims map F m → Progress (life_cycle_in map m.lent) (life_cycle_in map (after prims map l m).lent)
  unfolding after
  after-progress [] m h = stays
  after-progress (x ∷ l) m h = progress-trans (step-progress x m h) (after-progress l (machine_after prims map x m) (step-reached prims map F x m h))

  pub progress-run : (m : Machine) → ValidInputs map m → (l₁ l₂ : List Command)
      → Progress (life_cycle_in map (after prims map (PowerUp ∷ l₁) m).lent) (life_cycle_in map (after prims map (PowerUp ∷ l₁ ++ l₂) m).lent)
  progress-run m r l₁ l₂ =
      rw (after-append prims map (PowerUp ∷ l₁) l₂ m) (after-progress l₂ (after prims map (PowerUp ∷ l₁) m) (since-reached prims map F m r l₁))

  pub never-four : (m : Machine) → ValidInputs map m → (l : List Command) (target given : ℕ)
      → code_of (answer_to prims map (Transition target given) (after prims map (PowerUp ∷ l) m)) ≡ 0x04 → ⊥
  never-four m r l target given =
      let h = since-reached prims map F m r l in
      life-not-four (transition-life prims map F (after prims map (PowerUp ∷ l) m) h.held.right (recorded prims map F _ h) target given)

valid-count : {s n t k : ℕ} → valid_life s n ≡ valid_life t k → n ≡ k
valid-count e = ap (λ (life : LifeCycle). life.count) (same_Some _ _ e)

-- the count never falls
progress-count : {x y : Option LifeCycle} → Progress x y → (s n t k : ℕ) → x ≡ valid_life s n → y ≡ valid_life t k → n ≤ k
progress-count stays s n t k e f = omega (arith, valid-count (sym e ∙ f))
progress-count (spends {state = s'} {count = n'} g) s n t k e f = omega (arith, valid-count f, progress-count g s n s' n' e refl)
progress-count (moves {state = s'} {count = n'} g a) s n t k e f = omega (arith, valid-count f, progress-count g s n s' n' e refl)

pub counts : (s n t k : ℕ) → Progress (valid_life s n) (valid_life t k) → n ≤ k
counts s n t k c = progress-count c s n t k refl refl
