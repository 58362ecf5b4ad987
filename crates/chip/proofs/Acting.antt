-- A command but power-up is decided as an act, and performed. The idea: once a command is admitted, its result is what its act
-- comes to, and an act is taken apart by what it says, programs or compares.
use mathlib.Core.Path.{◌≡◌, refl, sym, ap, ◌∙◌}
use mathlib.Core.Bool.{Bool, true, false, not}
use mathlib.Core.List.{List}
use Rattle.std.specs.Prelude.{Ok, Err, Some, None, Option}
use Prim.Native.Nat.{ℕ}
use Rattle.partitions.specs.Map.{Map}
use Rattle.model.specs.Acts.{Act, perform, Effect, with_comparison, say, after_program, Performed, effect_on, program, no_effect, compare}
use Rattle.model.specs.Lent.{Machine, Lent, sizes_of, with_cells}
use Rattle.model.specs.Step.{unchanged, Answered, performed, judgement, act, Step}
use Rattle.model.specs.declared.Command.{Command}
use Rattle.model.specs.declared.Failure.{Failure}
use Rattle.model.specs.Answers.{Answer}
use Rattle.model.specs.Claims.Terms.{not_power_up}
use Rattle.model.specs.Commands.{ready_act, command_act}
use Rattle.model.proofs.Steps.{refused-step, accepted-step, obeys-act, not-ready-act}
use Rattle.model.specs.Session.{is_ready}
use Rattle.model.specs.declared.Failure.TheVariants.{NotReady, NotBlank}
use Rattle.model.proofs.Classes.{no-power-up}
use Rattle.words.specs.declared.Rule.{Rule}
use Rattle.words.specs.Programming.{program_answer, program_cells}
use Rattle.chip.specs.Judging.{admission}
use Rattle.chip.specs.Chip.{result_for, machine_of, primitives}
use Rattle.basics.proofs.Choice.{if-true, if-false, by-option, by_cases}
use Rattle.std.proofs.lemmas.Option.{none-some, same_Some}
use Rattle.chip.proofs.Judging.{admitted, phase-ready, phase-not-ready, not-accepted}

-- the judgement of what a machine is lent, and its admission
abbrev pub judgement_of : Map → Machine → Option Failure
judgement_of map m = judgement map (sizes_of m.lent) m.lent.constants

abbrev pub admitting : Map → Machine → Option Failure
admitting map m = admission map (sizes_of m.lent) m.lent.constants m.session.phase

-- what an act comes to on a machine
pub comes_to : Act → Machine → Answered
comes_to a m = (performed (perform a m.lent) m).result

-- ---- an act, by what it is

module _ (m : Machine) where
  pub said : (a : Answer) (t : Effect) → comes_to (say a t) m ≡ record { machine = machine_of m.lent (effect_on t m.session); answer = a }
  unfolding comes_to performed perform
  said a t = refl

  module _ (rule : Rule) (at : ℕ) (ws : List ℕ) (t : Effect) (next : Act) where
    pub program-done : program_answer rule m.lent.cells at ws ≡ Ok tt
        → comes_to (program rule at ws t next) m ≡ comes_to next (machine_of (with_cells (program_cells rule m.lent.cells at ws) m.lent) m.session)
    unfolding comes_to performed perform after_program
    program-done e = rw e

    pub program-refused : (i : ℕ) → program_answer rule m.lent.cells at ws ≡ Err i
        → comes_to (program rule at ws t next) m ≡ comes_to (say (Err (NotBlank i)) t) m
    unfolding comes_to performed perform after_program
    program-refused i e = rw e

  -- a comparison is noted, and changes nothing
  noted : (b : Bool) (r : Performed) → (performed (with_comparison b r) m).result ≡ (performed r m).result
  unfolding performed with_comparison
  noted b r = refl

  module _ (test : Lent → Bool) (same other : Act) where
    pub compare_same : test m.lent ≡ true → comes_to (compare test same other) m ≡ comes_to same m
    unfolding comes_to perform
    compare_same e = noted _ _ ∙ ap (λ (r : Performed). (performed r m).result) (if-true _ _ e)

    pub compare-other : test m.lent ≡ false → comes_to (compare test same other) m ≡ comes_to other m
    unfolding comes_to perform
    compare-other e = noted _ _ ∙ ap (λ (r : Performed). (performed r m).result) (if-false _ _ e)

-- ---- a command that is refused, by its judgement or its admission: nothing changes

pub refused-result : (map : Map) (x : Command) (m : Machine) (failure : Failure) → judgement_of map m ≡ Some failure
    → record { machine = m; answer = Err failure } ≡ result_for map x m
unfolding unchanged
refused-result map x m failure e = ap (λ (s : Step). s.result) (sym (refused-step primitives map x m failure e))

module _ (map : Map) (x : Command) (m : Machine) (acts : not_power_up x) where
  decided : judgement_of map m ≡ None → result_for map x m ≡ comes_to (ready_act primitives map m x) m
  unfolding comes_to act
  decided e = ap (λ (s : Step). s.result) (accepted-step primitives map x m e ∙ obeys-act primitives map x m (no-power-up x acts))

  not-ready : judgement_of map m ≡ None → is_ready m.session.phase ≡ false → record { machine = m; answer = Err NotReady } ≡ result_for map x m
  unfolding ready_act effect_on
  not-ready e r = sym (decided e ∙ ap (λ (a : Act). comes_to a m) (not-ready-act primitives map x m r) ∙ said m (Err NotReady) no_effect)

  pub refused : (failure : Failure) → admitting map m ≡ Some failure → record { machine = m; answer = Err failure } ≡ result_for map x m
  refused failure h =
      let phase = m.session.phase in
      by-option (judgement_of map m)
      (λ e. by_cases (is_ready phase) (λ r. absurd (none-some _ (sym (phase-ready map _ _ phase e r) ∙ h)))
      (λ r. ap result (same_Some _ _ (sym h ∙ phase-not-ready map _ _ phase e r)) ∙ not-ready e r))
      (λ b e. ap result (same_Some _ _ (sym h ∙ not-accepted map _ _ phase b e)) ∙ refused-result map x m b e)
    where
      result : Failure → Answered
      result b = record { machine = m; answer = Err b }

  -- admitted: the result is what the command's act comes to
  pub admitted-result : admitting map m ≡ None → result_for map x m ≡ comes_to (command_act primitives map m x) m
  unfolding ready_act
  admitted-result h =
      let q = admitted map (sizes_of m.lent) m.lent.constants m.session.phase h in
      decided q.0 ∙ ap (λ (a : Act). comes_to a m) (if-false _ _ (ap not q.1))
