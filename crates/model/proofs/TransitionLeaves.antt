-- What a transition leaves, from a power-up on. The idea: what the words decode to is known from its code, and nothing happens until the next power-up, which
-- decodes them.
use Rattle.std.specs.Prelude.{None}
use mathlib.Core.Path.{◌≡◌, refl, ap, ◌∙◌}
use mathlib.Core.Bool.{true, false}
use Prim.Native.Nat.{ℕ, ◌+◌, ◌*◌, suc}
use lib.Dec.{eqb}
use Rattle.basics.specs.Choice.{when◌then◌else◌}
use Rattle.basics.proofs.Choice.{true-not-false, by_cases, not-passed}
use Rattle.partitions.specs.Map.{Map}
use Rattle.partitions.specs.Fitness.{fit}
use Rattle.life_cycle.proofs.Decoding.{decoded-says}
use Rattle.model.specs.declared.Command.{Command}
use Rattle.model.specs.declared.Command.TheVariants.{Transition, PowerUp}
use Rattle.model.specs.Answers.{code_of}
use Rattle.model.specs.Session.{is_ready}
use Rattle.model.specs.Lent.{Machine, Primitives}
use Rattle.model.specs.PowerUp.{verdict_of, life_cycle_in, power_up_end, end_of, life_cycle_end, powered_answer}
use Rattle.model.specs.Step.{power_up, machine_after, answer_to}
use Rattle.model.specs.Claims.Terms.{ValidInputs, Says, valid_life}
use Rattle.model.specs.Claims.Refusals.{early}
use Rattle.model.specs.Claims.Transitions.{stroke_only, Fair, Leaves}
use Rattle.model.proofs.Steps.{step-up, step-inputs}
use Rattle.model.proofs.Refusals.{transitions-refuse}
use Rattle.model.proofs.TransitionEnds.{early-no-stroke}
use Rattle.model.proofs.NotReady.{later-phase, after-not-ready}
use Rattle.model.proofs.Since.{Reached, recorded}
use Rattle.model.proofs.TransitionLife.{LifeAfter, kept, spent, went, transition-life}

module _ (prims : Primitives) (map : Map) (F : fit map ≡ true) where
  -- a power-up that no digest check fails answers what is decoded
  pub up-says : (m : Machine) → ValidInputs map m → (state count : ℕ) → life_cycle_in map m.lent ≡ valid_life state count → verdict_of prims map m.lent ≡ None
      → Says (when eqb state 20 then 0x07 else 0x00) (256 * count + state) (answer_to prims map PowerUp m)
  unfolding power_up power_up_end end_of life_cycle_end powered_answer when◌then◌else◌
  up-says m r state count e v = rw (step-up prims map m r, answer_to, v, e) (by_cases (eqb state 20) (λ t. rw t (refl, refl)) (λ t. rw t (refl, refl)))

  module _ (m : Machine) (h : Reached prims map F m) (target given : ℕ) where
    abbrev x : Command
    x = Transition target given

    abbrev code : ℕ
    code = code_of (answer_to prims map x m)

    abbrev m₁ : Machine
    m₁ = machine_after prims map x m

    stopped : early code ≡ false → is_ready m₁.session.phase ≡ false
    stopped e = ap (λ s. is_ready s.phase) ((transitions-refuse prims map m target given).1 e).1 ∙ later-phase code

    leave : (state count : ℕ) → early code ≡ false → life_cycle_in map m₁.lent ≡ valid_life state count → Leaves prims map state count m₁
    leave state count e d = record {
      decodes = d;
      answered = λ l u. rw (after-not-ready prims map l m₁ u (stopped e)) (up-says m₁ (step-inputs prims map x m h.held.right) state count d);
    }

    late : stroke_only code ≡ true → early code ≡ false
    late q = not-passed _ (λ t. early-no-stroke code t q)

    zero-late : code ≡ 0x00 → early code ≡ false
    unfolding early
    zero-late q = rw q

    pub leaves : (stroke_only code ≡ true → Leaves prims map m.session.state (suc m.session.count) m₁)
        × (code ≡ 0x00 → Leaves prims map target (suc m.session.count) m₁)
    leaves = go (transition-life prims map F m h.held.right (recorded prims map F m h) target given)
      where
        zero-no-stroke : {c : ℕ} → stroke_only c ≡ true → c ≡ 0x00 → ⊥
        zero-no-stroke s z = unfold stroke_only in (true-not-false s (rw z))

        go : LifeAfter prims map m target (code_of (answer_to prims map (Transition target given) m))
            (life_cycle_in map (machine_after prims map (Transition target given) m).lent)
            → (stroke_only code ≡ true → Leaves prims map m.session.state (suc m.session.count) m₁)
            × (code ≡ 0x00 → Leaves prims map target (suc m.session.count) m₁)
        go (kept s z f e) = ((λ q. absurd (true-not-false q s)), λ q. absurd (z q))
        go (spent s v e) = ((λ q. leave _ _ (late q) e), λ q. absurd (zero-no-stroke s q))
        go (went z v a e) = ((λ q. absurd (zero-no-stroke q z)), λ q. leave _ _ (zero-late q) e)

  -- a Ready chip there has a record within its bounds
  pub reached-fair : (m : Machine) → Reached prims map F m → is_ready m.session.phase ≡ true → Fair prims map m
  reached-fair m h e = record {
    lengths = h.held.right.lengths;
    valid = h.held.right.valid;
    ready = e;
    state = unfold life_cycle_in in (decoded-says m.lent.constants _ _ m.session.state m.session.count (recorded prims map F m h e)).2;
    count = unfold life_cycle_in in (decoded-says m.lent.constants _ _ m.session.state m.session.count (recorded prims map F m h e)).3;
  }
