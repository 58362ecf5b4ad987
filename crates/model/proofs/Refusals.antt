-- A refusal changes nothing. The idea: a command but transition and power-up says its only answer other than 0 with nothing done, or programs once
-- and refuses that; a transition refuses early with nothing done, or changes the phase with each later answer.
use Rattle.std.specs.Prelude.{Ok, Err, Option}
use mathlib.Core.Path.{◌≡◌, refl}
use mathlib.Core.Bool.{true, false}
use mathlib.Core.List.{List}
use Prim.Native.Nat.{ℕ}
use lib.Dec.{eqb}
use borrow.Author.Tests.{eqb-false}
use Rattle.basics.specs.Choice.{when◌then◌else◌}
use Rattle.basics.proofs.Choice.{true-not-false}
use Rattle.words.specs.declared.Rule.{Rule}
use Rattle.words.specs.Programming.{program_answer}
use Rattle.partitions.specs.Map.{Map}
use Rattle.life_cycle.specs.declared.LifeCycle.{LifeCycle}
use Rattle.life_cycle.specs.Transitions.{table_entry}
use Rattle.model.specs.declared.Failure.TheVariants.{NotBlank, NotInTable, TokenNotLocked, TokenDiffers}
use Rattle.model.specs.declared.Session.{Session}
use Rattle.model.specs.declared.Command.{Command}
use Rattle.model.specs.declared.Command.TheVariants.{Transition, PowerUp}
use Rattle.model.specs.declared.Failure.{Failure}
use Rattle.model.specs.Session.{in_phase}
use Rattle.model.specs.Answers.{Answer, code_of}
use Rattle.model.specs.Lent.{Machine, Primitives}
use Rattle.model.specs.Acts.{Effect, no_effect, to_inert, to_dead, Act, say, program, effect_on, Performed, perform}
use Rattle.model.specs.Commands.{ready_act}
use Rattle.model.specs.PowerUp.{end_of, verdict_of, life_cycle_in, power_up_end, powered_answer}
use Rattle.model.specs.Step.{Step, unchanged, performed, act, power_up, obey, step, machine_after, answer_to}
use Rattle.model.specs.Claims.Terms.{quiet}
use Rattle.model.specs.Claims.Refusals.{judgement_code, early, phase_after}
use Rattle.model.proofs.Acts.{after_both, Gives, programs, perform-gives}
use Rattle.model.proofs.Transitions.{Ends, entry_gives}
use Rattle.model.proofs.Steps.{step_both, obeys-act, same-machine}
use Rattle.model.proofs.PowerUpEnd.{powered-answer}
use Rattle.model.proofs.Forms.{Form, act-form, Refuses}
use Rattle.model.proofs.Classes.{no-power-up, quiet-not-power-up}

-- ---- the commands but transition and power-up

-- what an act that did not answer 0 came to
abbrev Nothing-done : List ℕ → Performed → Type 0
Nothing-done cells r = (code_of r.answer ≡ 0x00 → ⊥) → (r.cells ≡ cells) × (r.effect ≡ no_effect)

module _ (prims : Primitives) (map : Map) (m : Machine) where
  program-clean : (rule : Rule) (at : ℕ) (words : List ℕ) (value : ℕ)
      → Nothing-done m.lent.cells (perform (program rule at words no_effect (say (Ok value) no_effect)) m.lent)
  unfolding perform
  program-clean rule at words value =
      after_both (Nothing-done m.lent.cells) (program_answer rule m.lent.cells at words) _ _ (λ e h. absurd (h refl)) (λ cell e h. (refl, refl))

  form-clean : {x : Command} {act : Act} → quiet x → Form prims map m x act → Nothing-done m.lent.cells (perform act m.lent)
  unfolding perform
  form-clean q (Form.refuses r) = λ h. (refl, refl)
  form-clean q Form.reads = λ h. absurd (h refl)
  form-clean q Form.front_reads = λ h. absurd (h refl)
  form-clean q Form.locks = λ h. absurd (h refl)
  form-clean q (Form.writes w) = program-clean _ _ _ _
  form-clean q (Form.digests w) = program-clean _ _ _ _
  form-clean q (Form.used t n) = absurd q
  form-clean q (Form.spends t n) = absurd q

  act-clean : (x : Command) → quiet x → (code_of (act prims map x m).result.answer ≡ 0x00 → ⊥) → (act prims map x m).result.machine ≡ m
  unfolding act performed
  act-clean x q h =
      let r : Performed = perform (ready_act prims map m x) m.lent in
      let left : (r.cells ≡ m.lent.cells) × (r.effect ≡ no_effect) = form-clean q (act-form prims map m x) h in
      same-machine m r left.0 left.1

  pub commands-refuse : (x : Command) → quiet x → (code_of (answer_to prims map x m) ≡ 0x00 → ⊥) → machine_after prims map x m ≡ m
  unfolding unchanged
  commands-refuse x q =
      step_both prims map (λ (s : Step). (code_of s.result.answer ≡ 0x00 → ⊥) → s.result.machine ≡ m) x m (λ answer e h. refl)
      (rw (obeys-act prims map x m (no-power-up x (quiet-not-power-up x q))) (act-clean x q))

-- ---- power-up

module _ (prims : Primitives) (map : Map) where
  powered-code : (v : Option ℕ) (life : Option LifeCycle) → judgement_code (code_of (powered_answer (end_of v life))) ≡ false
  powered-code v life = powered-answer (λ (answer : Answer). judgement_code (code_of answer) ≡ false) v life (λ value. refl) (λ number. refl) (λ value. refl)

  pub power-ups-refuse : (m : Machine)
      → ((machine_after prims map PowerUp m).lent.cells ≡ m.lent.cells)
      × (judgement_code (code_of (answer_to prims map PowerUp m)) ≡ true → machine_after prims map PowerUp m ≡ m)
  unfolding unchanged obey power_up power_up_end
  power-ups-refuse m =
      step_both prims map
      (λ (s : Step). (s.result.machine.lent.cells ≡ m.lent.cells)
      × (judgement_code (code_of s.result.answer) ≡ true → s.result.machine ≡ m)) PowerUp m
      (λ answer e. (refl, λ j. refl))
      (refl, λ j. absurd (true-not-false j (powered-code (verdict_of prims map m.lent) (life_cycle_in map m.lent))))

-- ---- transition

judged-early : (code : ℕ) → judgement_code code ≡ true → early code ≡ true
unfolding early
judged-early code e = rw e

-- an answer after the stroke count was tested, with its effect
abbrev Later : Answer → Effect → Type 0
Later answer effect =
    (early (code_of answer) ≡ false) × (code_of answer ≡ 0x20 → ⊥) × ((s : Session) → effect_on effect s ≡ in_phase (phase_after (code_of answer)) s)

-- what a transition came to
abbrev Ended : Session → List ℕ → Performed → Type 0
Ended s cells r =
    (early (code_of r.answer) ≡ true → (r.cells ≡ cells) × (r.effect ≡ no_effect))
    × (early (code_of r.answer) ≡ false
    → (effect_on r.effect s ≡ in_phase (phase_after (code_of r.answer)) s) × (code_of r.answer ≡ 0x20 → r.cells ≡ cells))

-- an answer with its effect, where it is neither early nor 0x20
later-by : (answer : Answer) (effect : Effect) → early (code_of answer) ≡ false → eqb (code_of answer) 0x20 ≡ false
    → ((s : Session) → effect_on effect s ≡ in_phase (phase_after (code_of answer)) s) → Later answer effect
later-by answer effect e u f = (e, eqb-false _ _ u, f)

later-ends : Ends Later
unfolding early phase_after effect_on when◌then◌else◌
later-ends = record {
  not-blank = λ cell. later-by (Err (NotBlank cell)) to_dead refl refl (λ s. refl);
  moved = later-by (Ok 0) to_inert refl refl (λ s. refl);
  forbidden = later-by (Err NotInTable) to_inert refl refl (λ s. refl);
  token_unlocked = later-by (Err TokenNotLocked) to_inert refl refl (λ s. refl);
  differs = later-by (Err TokenDiffers) to_inert refl refl (λ s. refl);
}

module _ (prims : Primitives) (map : Map) (m : Machine) where
  abbrev Ends-so : Act → Type 0
  Ends-so act = Ended m.session m.lent.cells (perform act m.lent)

  refused-early : {target given : ℕ} {failure : Failure} → Refuses (Transition target given) failure → early (code_of (Err failure)) ≡ true
  unfolding early
  refused-early (Refuses.denied q) = absurd q
  refused-early Refuses.not_ready = refl
  refused-early Refuses.unknown_target = refl

  given-later : {act : Act} → Gives Later act → Ends-so act
  given-later g =
      let l = perform-gives g m.lent in
      ((λ j. absurd (true-not-false j l.0)), λ j. (l.2 m.session, λ u. absurd (l.1 u)))

  form-ends : {target given : ℕ} {act : Act} → Form prims map m (Transition target given) act → Ends-so act
  unfolding perform early phase_after effect_on when◌then◌else◌
  form-ends (Form.refuses r) = ((λ j. (refl, refl)), λ j. absurd (true-not-false (refused-early r) j))
  form-ends (Form.used t n) = ((λ j. absurd (true-not-false j refl)), λ j. (refl, λ u. refl))
  form-ends (Form.spends {target} t n) =
      given-later (programs later-ends.not-blank (entry_gives later-ends prims map m (table_entry m.session.state target) target _))

  -- what a transition comes to, as a step
  abbrev Transited : Step → Type 0
  Transited s =
      let code = code_of s.result.answer in
      (early code ≡ true → s.result.machine ≡ m)
      × (early code ≡ false
      → (s.result.machine.lent.copy ≡ m.lent.copy)
      × (s.result.machine.session ≡ in_phase (phase_after code) m.session)
      × (code ≡ 0x20 → s.result.machine.lent.cells ≡ m.lent.cells))

  pub transitions-refuse : (target given : ℕ) → Transited (step prims map (Transition target given) m)
  unfolding unchanged obey act performed
  transitions-refuse target given =
      let x = Transition target given in
      let r : Performed = perform (ready_act prims map m x) m.lent in
      let ended : Ended m.session m.lent.cells r = form-ends (act-form prims map m x) in
      step_both prims map Transited x m (λ failure e. ((λ j. refl), λ j. absurd (true-not-false (judged-early (code_of (Err failure)) e) j)))
      ((λ j. same-machine m r (ended.0 j).0 (ended.0 j).1), λ j. (refl, (ended.1 j).0, (ended.1 j).1))
