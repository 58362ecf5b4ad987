-- What commands that are neither power-up nor transition leave. The idea: each is an act, no act writes the copy or the sensed digests, and none of these but a
-- read lock changes the record.
use mathlib.Core.Path.{◌≡◌, refl, ◌∙◌}
use mathlib.Core.List.{List, [], ◌∷◌}
use Prim.Native.Nat.{ℕ}
use Rattle.partitions.specs.Map.{Map}
use Rattle.model.specs.declared.Command.{Command}
use Rattle.model.specs.Lent.{Machine, Primitives}
use Rattle.model.specs.Step.{Step, unchanged, performed, act, after, machine_after}
use Rattle.model.specs.Claims.Terms.{quiet}
use Rattle.model.specs.Claims.Sensing.{Quiet}
use Rattle.model.specs.declared.Command.TheVariants.{ReadLock}
use Rattle.model.specs.Commands.{class_of, transiting, ready_act}
use Rattle.model.specs.Acts.{effect_on, no_effect}
use Rattle.model.proofs.Steps.{obeys-act, step_both}
use Rattle.model.proofs.Effects.{effect-sensed}
use Rattle.model.proofs.Classes.{no-power-up, quiet-not-power-up, access-not-transiting, quiet-access}
use Rattle.model.proofs.Acts.{Gives, perform-gives}
use Rattle.model.proofs.Leaves.{act-gives}

module _ (prims : Primitives) (map : Map) where
  -- the copy and the sensed digests are as they were
  abbrev Unsensed : Machine → Machine → Type 0
  Unsensed m m' = (m'.lent.copy ≡ m.lent.copy) × (m'.session.sensed ≡ m.session.sensed)

  step-unsensed : (x : Command) (m : Machine) → quiet x → Unsensed m (machine_after prims map x m)
  unfolding unchanged act performed
  step-unsensed x m q =
      step_both prims map (λ (s : Step). Unsensed m s.result.machine) x m (λ answer e. (refl, refl))
      (rw (obeys-act prims map x m (no-power-up x (quiet-not-power-up x q))) (refl, effect-sensed _ m.session))

  pub after-unsensed : (m : Machine) (l : List Command) → Quiet l → Unsensed m (after prims map l m)
  unfolding after
  after-unsensed m [] q = (refl, refl)
  after-unsensed m (x ∷ l) q =
      let s = step-unsensed x m q.0 in
      let t = after-unsensed (machine_after prims map x m) l q.1 in
      (t.0 ∙ s.0, t.1 ∙ s.1)

  -- ---- the whole record

  module _ (x : Command) (q : quiet x) (no-lock : (n : ℕ) → x ≡ ReadLock n → ⊥) where
    not-transiting : class_of x ≡ transiting → ⊥
    not-transiting = access-not-transiting x (quiet-access x q)

    stays : (m : Machine) → Gives (λ answer t. t ≡ no_effect) (ready_act prims map m x)
    stays m = act-gives prims map m (record {
      refused = λ r. refl;
      done = λ q value. refl;
      not_blank = λ q cell. refl;
      locked = λ n e. absurd (no-lock n e);
      used = λ e. absurd (not-transiting e);
      spent = λ e. absurd (not-transiting e);
    })

    pub step-recorded : (m : Machine) → ((machine_after prims map x m).lent.copy ≡ m.lent.copy) × ((machine_after prims map x m).session ≡ m.session)
    unfolding unchanged act performed effect_on
    step-recorded m =
        step_both prims map (λ (s : Step). (s.result.machine.lent.copy ≡ m.lent.copy) × (s.result.machine.session ≡ m.session)) x m
        (λ answer e. (refl, refl))
        (rw (obeys-act prims map x m (no-power-up x (quiet-not-power-up x q)), perform-gives (stays m) m.lent) (refl, refl))
