-- What a transition makes of the life cycle, where the words decode to the record's state and count while Ready. The idea: the words of the stroke and of an
-- allowed state are then taken, so that of the eight ends the two that stop with a 4 are out, and the others have their words.
use Rattle.std.specs.Prelude.{Option, Some}
use mathlib.Core.Path.{◌≡◌, refl, sym, ap, ◌∙◌}
use mathlib.Core.Bool.{true, false}
use mathlib.Core.List.{List}
use mathlib.Core.Logic.{⊎_elim}
use Prim.Native.Nat.{ℕ, suc}
use native.Mathlib.Omega.{arith}
use borrow.Author.Tests.{eqb-false}
use Rattle.basics.proofs.Choice.{true-not-false, not-passed, by_cases}
use Rattle.words.proofs.Programming.{refused-not-done}
use Rattle.partitions.specs.Map.{Map}
use Rattle.partitions.specs.Fitness.{fit}
use Rattle.life_cycle.specs.declared.LifeCycle.{LifeCycle}
use Rattle.life_cycle.specs.declared.Token.{Token}
use Rattle.life_cycle.specs.Transitions.{table_entry}
use Rattle.model.specs.declared.Command.{Command}
use Rattle.model.specs.declared.Command.TheVariants.{Transition}
use Rattle.model.specs.Answers.{Answer, code_of}
use Rattle.model.specs.Session.{is_ready}
use Rattle.model.specs.Lent.{Machine, Primitives, with_cells}
use Rattle.model.specs.PowerUp.{life_cycle_in}
use Rattle.model.specs.Step.{machine_after, answer_to}
use Rattle.model.specs.Claims.Terms.{ValidInputs, valid_life}
use Rattle.model.specs.Claims.Refusals.{early}
use Rattle.model.specs.Claims.Transitions.{stroke_only}
use Rattle.model.proofs.Steps.{step-constants}
use Rattle.model.proofs.Refusals.{transitions-refuse}
use Rattle.model.proofs.TransitionEnds.{Ending, unknown_target, used, counter_stops, not_in_table, token_not_locked, token_differs, state_stops, moved}
use Rattle.model.proofs.TransitionEnds.{step-ends, early-no-stroke}
use Rattle.model.proofs.LifeCycleWords.{Recorded, stroke-fits, move-fits, life-of, spent-life, moved-life}

-- what the life cycle words decode to after a transition, by its code: what they did before; the record's state and one stroke more; or the target and one
-- stroke more
pub data LifeAfter (prims : Primitives) (map : Map) (m : Machine) (target code : ℕ) (life : Option LifeCycle) : Type 0 where
  kept : stroke_only code ≡ false → (code ≡ 0x00 → ⊥) → (code ≡ 0x04 → ⊥) → life ≡ life_cycle_in map m.lent → LifeAfter prims map m target code life
  spent : stroke_only code ≡ true → Recorded prims map m → life ≡ valid_life m.session.state (suc m.session.count) → LifeAfter prims map m target code life
  went : {token : Token} → code ≡ 0x00 → Recorded prims map m → table_entry m.session.state target ≡ Some token
      → life ≡ valid_life target (suc m.session.count)
      → LifeAfter prims map m target code life

-- no code after a stroke is 4
stroke-not-four : (code : ℕ) → stroke_only code ≡ true → code ≡ 0x04 → ⊥
unfolding stroke_only
stroke-not-four code e q = true-not-false e (rw q)

-- so 4 is never given
pub life-not-four : {prims : Primitives} {map : Map} {m : Machine} {target code : ℕ} {life : Option LifeCycle}
    → LifeAfter prims map m target code life → code ≡ 0x04 → ⊥
life-not-four (kept s z f e) = f
life-not-four (spent s v e) = stroke-not-four _ s
life-not-four (went z v a e) = λ q. omega arith

module _ (prims : Primitives) (map : Map) (F : fit map ≡ true) (m : Machine) (r : ValidInputs map m)
    (live : is_ready m.session.phase ≡ true → Recorded prims map m)
    (target given : ℕ) where
  abbrev x : Command
  x = Transition target given

  abbrev m₁ : Machine
  m₁ = machine_after prims map x m

  -- over the cells that an end leaves
  abbrev After : Answer → List ℕ → Type 0
  After answer cells =
      LifeAfter prims map m target (code_of answer) (life_cycle_in map (with_cells cells m.lent))

  ended : is_ready m.session.phase ≡ true → {answer : Answer} {cells : List ℕ} → early (code_of answer) ≡ false
      → Ending prims map m target given answer cells → After answer cells
  unfolding stroke_only early
  ended y n (unknown_target h e) = absurd (true-not-false (rw e refl) n)
  ended y n (used l h e f) = rw (e, f) (kept refl (eqb-false _ _ refl) (eqb-false _ _ refl) refl)
  ended y n (counter_stops p h e f) = absurd (refused-not-done (sym h ∙ stroke-fits prims map F m r (live y) p.1))
  ended y n (not_in_table t h e f) = rw (e, f) (spent refl (live y) (spent-life prims map F m r (live y) t.0.1))
  ended y n (token_not_locked t h e f) = rw (e, f) (spent refl (live y) (spent-life prims map F m r (live y) t.0.1))
  ended y n (token_differs t h e f) = rw (e, f) (spent refl (live y) (spent-life prims map F m r (live y) t.0.1))
  ended y n (state_stops t a h e f) = absurd (refused-not-done (sym h ∙ move-fits prims map F m r (live y) t.0.1 target a.allowed))
  ended y n (moved t h g e f) = rw (e, f) (went refl (live y) h.allowed (moved-life prims map F m r (live y) t.0.1 target h.allowed))

  here : (cells : List ℕ) → m₁.lent.cells ≡ cells → life_cycle_in map m₁.lent ≡ life_cycle_in map (with_cells cells m.lent)
  here cells e = life-of map m₁.lent (with_cells cells m.lent) e (step-constants prims map x m)

  refused : early (code_of (answer_to prims map x m)) ≡ true → LifeAfter prims map m target (code_of (answer_to prims map x m)) (life_cycle_in map m₁.lent)
  unfolding early stroke_only
  refused e =
      kept (not-passed _ (λ q. early-no-stroke (code_of (answer_to prims map (Transition target given) m)) e q)) (λ q. true-not-false e (rw q))
      (λ q. true-not-false e (rw q))
      (ap (λ (k : Machine). life_cycle_in map k.lent) ((transitions-refuse prims map m target given).0 e))

  pub transition-life : LifeAfter prims map m target (code_of (answer_to prims map x m)) (life_cycle_in map m₁.lent)
  transition-life =
      by_cases (early (code_of (answer_to prims map x m))) refused
      (λ n. rw (here m₁.lent.cells refl)
      (⊎_elim (λ a. absurd (true-not-false a.0 n)) (λ a. ended a.1 n a.2) (step-ends prims map m target given)))
