-- What a failed life cycle check was caused by. The idea: a command leaves what the life cycle words decode to, or it is a transition that spent a stroke; that
-- one leaves the state, or puts its target there, and its target is SCRAP or not.
use Rattle.std.specs.Prelude.{Option, None, Some}
use Rattle.std.proofs.lemmas.Option.{same_Some}
use mathlib.Core.Path.{◌≡◌, sym, ap, ◌∙◌}
use mathlib.Core.Bool.{true}
use mathlib.Core.List.{List, [], ◌∷◌}
use mathlib.Core.Logic.{◌⊎◌, inl, inr, ⊎_elim}
use Prim.Native.Nat.{ℕ, suc}
use native.Mathlib.Omega.{arith}
use lib.Dec.{eqb}
use borrow.Author.Tests.{eqb-false, eqb-true}
use Rattle.basics.proofs.Choice.{if-both, by_cases}
use Rattle.partitions.specs.Map.{Map}
use Rattle.partitions.specs.Fitness.{fit}
use Rattle.life_cycle.specs.declared.LifeCycle.{LifeCycle}
use Rattle.model.specs.declared.Command.{Command}
use Rattle.model.specs.declared.Command.TheVariants.{Transition, PowerUp}
use Rattle.model.specs.Answers.{code_of}
use Rattle.model.specs.Lent.{Machine, Primitives}
use Rattle.model.specs.PowerUp.{PowerUpEnd, verdict_of, life_cycle_in, power_up_end, end_of, life_cycle_end, powered_answer}
use Rattle.model.specs.Step.{Step, unchanged, power_up, after, machine_after, answer_to, obey}
use Rattle.model.specs.Claims.Terms.{ValidInputs, valid_life}
use Rattle.model.specs.Claims.FailedPowerUps.{Scrapped}
use Rattle.model.specs.Commands.{class_of, access}
use Rattle.model.proofs.Steps.{step-all, step-up, step_both}
use Rattle.model.proofs.LifeCycleWords.{up-life, others-life}
use Rattle.model.proofs.Since.{Reached, first-reached, step-reached, recorded, first-since}
use Rattle.model.proofs.TransitionLife.{LifeAfter, kept, spent, went, transition-life}
use Rattle.model.proofs.Classes.{by-class}

valid-state : {s n t k : ℕ} → valid_life s n ≡ valid_life t k → s ≡ t
valid-state e = ap (λ (life : LifeCycle). life.state) (same_Some _ _ e)

module _ (prims : Primitives) (map : Map) (F : fit map ≡ true) where
  -- the life cycle words decode to a state that is not SCRAP
  record Working (m : Machine) : Type 0 where
    state : ℕ
    count : ℕ
    decodes : life_cycle_in map m.lent ≡ valid_life state count
    not_scrap : state ≡ 20 → ⊥

  working-same : (m m' : Machine) → life_cycle_in map m'.lent ≡ life_cycle_in map m.lent → Working m → Working m'
  working-same m m' e w = record { state = w.state; count = w.count; decodes = e ∙ w.decodes; not_scrap = w.not_scrap }

  -- a command that is no transition
  up-working : (m : Machine) → Working m → Working (machine_after prims map PowerUp m)
  unfolding unchanged obey
  up-working m w = step_both prims map (λ (s : Step). Working s.result.machine) PowerUp m (λ answer e. w) (working-same m _ (up-life prims map F m) w)

  access-working : (x : Command) (m : Machine) → class_of x ≡ access → Working m → Working (machine_after prims map x m)
  unfolding unchanged
  access-working x m c w =
      step-all prims map (λ (s : Step). Working s.result.machine) x m (λ answer e. w) (working-same m _ (up-life prims map F m) w)
      (working-same m _ (others-life prims map F x m c) w)

  -- a transition leaves it so, or went to SCRAP
  transition-working : (m : Machine) → Reached prims map F m → Working m → (target given : ℕ)
      → Working (machine_after prims map (Transition target given) m) ⊎ ((target ≡ 20) × (code_of (answer_to prims map (Transition target given) m)
      ≡ 0x00))
  transition-working m h w target given = go (transition-life prims map F m h.held.right (recorded prims map F m h) target given)
    where
      go : {code : ℕ} → LifeAfter prims map m target code (life_cycle_in map (machine_after prims map (Transition target given) m).lent)
          → Working (machine_after prims map (Transition target given) m) ⊎ ((target ≡ 20) × (code ≡ 0x00))
      go (kept s z f e) = inl (working-same m (machine_after prims map (Transition target given) m) e w)
      go (spent s v e) = inl (record {
        state = m.session.state;
        count = suc m.session.count;
        decodes = e;
        not_scrap = λ q. w.not_scrap (valid-state (sym w.decodes ∙ v) ∙ q);
      })
      go (went z v a e) =
          by_cases (eqb target 20) (λ t. inr (eqb-true _ _ t, z))
          (λ t. inl (record { state = target; count = suc m.session.count; decodes = e; not_scrap = eqb-false _ _ t }))

  -- ---- over a list

  later : (x : Command) (m : Machine) (l : List Command) → Scrapped prims map (machine_after prims map x m) l → Scrapped prims map m (x ∷ l)
  later x m l s = record {
    before = x ∷ s.before;
    behind = s.behind;
    given = s.given;
    split = ap (λ (k : List Command). x ∷ k) s.split;
    moved = unfold after in s.moved;
  }

  here : (m : Machine) (target given : ℕ) (l : List Command) → target ≡ 20 → code_of (answer_to prims map (Transition target given) m) ≡ 0x00
      → Scrapped prims map m (Transition target given ∷ l)
  here m target given l e z = record {
    before = [];
    behind = l;
    given = given;
    split = ap (λ (t : ℕ). Transition t given ∷ l) e;
    moved = unfold after in (rw e at z);
  }

  -- a power-up of a chip whose life cycle works does not answer 7
  power-up-working : (v : Option ℕ) (life : Option LifeCycle) (state count : ℕ) → life ≡ valid_life state count → (state ≡ 20 → ⊥)
      → code_of (powered_answer (end_of v life)) ≡ 0x07 → ⊥
  unfolding powered_answer end_of life_cycle_end
  power-up-working (Some number) life state count e n = λ z. omega arith
  power-up-working None life state count e n =
      rw (e, life_cycle_end) (if-both (λ (a : PowerUpEnd). code_of (powered_answer a) ≡ 0x07 → ⊥) (eqb state 20) _ _ (λ t z. n (eqb-true _ _ t))
      (λ t z. omega arith))

  working-not-seven : (m : Machine) → ValidInputs map m → Working m → code_of (answer_to prims map PowerUp m) ≡ 0x07 → ⊥
  unfolding power_up power_up_end
  working-not-seven m r w =
      rw (step-up prims map m r, answer_to)
      (power-up-working (verdict_of prims map m.lent) (life_cycle_in map m.lent) w.state w.count w.decodes w.not_scrap)

  abbrev Claim : List Command → Machine → Type 0
  Claim l m = code_of (answer_to prims map PowerUp (after prims map l m)) ≡ 0x07 → Scrapped prims map m l

  more : (x : Command) (l : List Command) (m : Machine) → Reached prims map F m → Working m
      → (Working (machine_after prims map x m) → Claim l (machine_after prims map x m)) → Claim (x ∷ l) m
  unfolding after
  more =
      by-class
      (λ (x : Command). (l : List Command) (m : Machine) → Reached prims map F m → Working m
      → (Working (machine_after prims map x m) → Claim l (machine_after prims map x m)) → Claim (x ∷ l) m)
      (λ l m h w f z. later PowerUp m l (f (up-working m w) z))
      (λ target given l m h w f z. ⊎_elim (λ q. later (Transition target given) m l (f q z)) (λ q. here m target given l q.0 q.1)
      (transition-working m h w target given))
      (λ x c l m h w f z. later x m l (f (access-working x m c w) z))

  run : (l : List Command) (m : Machine) → Reached prims map F m → Working m → Claim l m
  unfolding after
  run [] m h w = λ z. absurd (working-not-seven m h.held.right w z)
  run (x ∷ l) m h w = more x l m h w (λ w₁. run l (machine_after prims map x m) (step-reached prims map F x m h) w₁)

  pub sevens : (m : Machine) → ValidInputs map m → code_of (answer_to prims map PowerUp m) ≡ 0x00 → (l : List Command)
      → code_of (answer_to prims map PowerUp (after prims map (PowerUp ∷ l) m)) ≡ 0x07 → Scrapped prims map (machine_after prims map PowerUp m) l
  unfolding after
  sevens m r z l =
      let s = first-since prims map F m r z in
      let m₁ = machine_after prims map PowerUp m in
      run l m₁ (first-reached prims map F m r) (record { state = m₁.session.state; count = m₁.session.count; decodes = s.life; not_scrap = s.not_scrap })
