-- The ends of a transition. The idea: past the early refusals it has eight ends, each with what led to it and the cells that it leaves; whatever is claimed of
-- its answers is read off the list of ends.
use Rattle.std.specs.Prelude.{Ok, Err, Option, Some, None}
use mathlib.Core.Path.{◌≡◌, refl, sym}
use mathlib.Core.Bool.{Bool, true, false, not}
use mathlib.Core.List.{List}
use mathlib.Core.Logic.{◌⊎◌, inl, inr, ⊎_elim}
use Prim.Native.Nat.{ℕ, ◌≤◌, ◌<◌}
use lib.Dec.{eqb, leb, ltb}
use borrow.Author.Tests.{eqb-true, not-false, not-true, leb-true, leb-false, ltb-true, ltb-false, le-leb, eqb-false}
use Rattle.basics.specs.Choice.{when◌then◌else◌}
use Rattle.basics.proofs.Choice.{true-not-false, by_cases, if-both, and_both}
use Rattle.words.specs.Programming.{program_answer, program_cells}
use Rattle.partitions.specs.Map.{Map, number_of_kind}
use Rattle.life_cycle.specs.declared.Token.{Token}
use Rattle.life_cycle.specs.declared.Token.TheVariants.{Nothing, RawUnlock, TestUnlock, TestExit, Rma}
use Rattle.life_cycle.specs.Words.{state_words}
use Rattle.constants.specs.Constants.{raw_unlock_hash}
use Rattle.life_cycle.specs.Transitions.{table_entry}
use Rattle.model.specs.declared.Failure.TheVariants.{NotBlank, NotReady, UnknownTarget, StrokesUsed, NotInTable, TokenNotLocked, TokenDiffers}
use Rattle.model.specs.declared.Command.TheVariants.{Transition}
use Rattle.model.specs.Answers.{Answer, code_of}
use Rattle.model.specs.Session.{is_ready, sensed_locked, sensed_at}
use Rattle.model.specs.Lent.{Machine, Primitives, right_lengths, Lent, with_cells}
use Rattle.model.specs.Acts.{Act, say, program, Performed, perform, with_comparison, no_effect, to_inert, to_dead}
use Rattle.model.specs.Commands.{life_cycle_rule, counter_at, state_at, move_act, transition_act, command_act, ready_act, token_kind, hashes_to, token_offset}
use Rattle.model.specs.Commands.{stored_token, Authorization, authorized_act, locked_token, authorization, by_token, token_authorization}
use Rattle.model.specs.Step.{Step, unchanged, performed, act, obey, machine_after, answer_to}
use Rattle.model.specs.Claims.Numbers.{Agrees}
use Rattle.model.specs.Claims.Refusals.{early}
use Rattle.model.specs.Claims.Transitions.{Stored, Compared, Asked, stroke_only, test_unlock, test_exit, rma, stroke_words, Fair, Unlocked}
use Rattle.model.proofs.Acts.{after_both}
use Rattle.model.proofs.Steps.{outcome, step-judged}

-- a comparison, as numbers that are equal or not
agreed : (x y : ℕ) (same : Bool) → eqb y x ≡ same → Agrees x y same
agreed x y true e = sym (eqb-true y x e)
agreed x y false e = λ q. eqb-false y x e (sym q)

-- an early code is none of those after the stroke
pub early-no-stroke : (code : ℕ) → early code ≡ true → stroke_only code ≡ true → ⊥
unfolding early stroke_only
early-no-stroke code e q = by_cases (eqb code 0x21) (λ t. true-not-false e (rw (eqb-true code 0x21 t))) λ f.
    by_cases (eqb code 0x22) (λ t. true-not-false e (rw (eqb-true code 0x22 t))) λ g.
    by_cases (eqb code 0x23) (λ t. true-not-false e (rw (eqb-true code 0x23 t))) λ h. true-not-false q (rw (f, g, h))

module _ (prims : Primitives) (map : Map) (m : Machine) (target given : ℕ) where
  abbrev pub cells₀ : List ℕ
  cells₀ = m.lent.cells

  abbrev pub stroke : List ℕ
  stroke = stroke_words prims map m

  -- the cells once a stroke is spent
  abbrev pub stroke-cells : List ℕ
  stroke-cells = program_cells life_cycle_rule cells₀ (counter_at map) stroke

  -- and what is lent then
  abbrev pub stroked : Lent
  stroked = with_cells stroke-cells m.lent

  abbrev pub move : List ℕ
  move = state_words m.lent.constants target

  abbrev pub InRange : Type 0
  InRange = (target ≤ 20) × (m.session.count < 24)

  abbrev pub Taken : Type 0
  Taken = InRange × (program_answer life_cycle_rule cells₀ (counter_at map) stroke ≡ Ok tt)

  pub data Ending (answer : Answer) (cells : List ℕ) : Type 0 where
    unknown_target : 20 < target → answer ≡ Err UnknownTarget → Ending answer cells
    used : target ≤ 20 → 24 ≤ m.session.count → answer ≡ Err StrokesUsed → cells ≡ cells₀ → Ending answer cells
    counter_stops : {cell : ℕ} → InRange → program_answer life_cycle_rule cells₀ (counter_at map) stroke ≡ Err cell → answer ≡ Err (NotBlank cell)
        → cells ≡ cells₀ → Ending answer cells
    not_in_table : Taken → table_entry m.session.state target ≡ None → answer ≡ Err NotInTable → cells ≡ stroke-cells → Ending answer cells
    token_not_locked : Taken → Unlocked prims map m target → answer ≡ Err TokenNotLocked → cells ≡ stroke-cells → Ending answer cells
    token_differs : Taken → Asked prims map m target given false → answer ≡ Err TokenDiffers → cells ≡ stroke-cells → Ending answer cells
    state_stops : {cell : ℕ} → Taken → Asked prims map m target given true
        → program_answer life_cycle_rule stroke-cells (state_at map) move ≡ Err cell
        → answer ≡ Err (NotBlank cell) → cells ≡ stroke-cells → Ending answer cells
    moved : Taken → Asked prims map m target given true → program_answer life_cycle_rule stroke-cells (state_at map) move ≡ Ok tt → answer ≡ Ok 0
        → cells ≡ program_cells life_cycle_rule stroke-cells (state_at map) move → Ending answer cells

  abbrev Ends : Performed → Type 0
  Ends r = Ending r.answer r.cells

  moves : Taken → Asked prims map m target given true → Ends (perform (move_act prims map m target) stroked)
  unfolding move_act perform
  moves t asked =
      after_both Ends (program_answer life_cycle_rule stroke-cells (state_at map) move) _ _ (λ e. moved t asked e refl refl)
      (λ cell e. state_stops t asked e refl refl)

  -- what an authorization comes to
  abbrev Comes : Authorization → Type 0
  Comes a = Ends (perform (authorized_act prims map m a target) stroked)

  compares : (token : Token) → table_entry m.session.state target ≡ Some token → (test : Lent → Bool)
      → ((same : Bool) → test stroked ≡ same → Compared prims map m given same token) → Taken → Comes (by_token test)
  unfolding authorized_act perform with_comparison
  compares token e test h t =
      if-both Ends (test stroked) _ _ (λ s. moves t (record { token = token; allowed = e; compared = h true s }))
      (λ s. token_differs t (record { token = token; allowed = e; compared = h false s }) refl refl)

  locked : (token : Token) → table_entry m.session.state target ≡ Some token
      → (sensed_at m.session (number_of_kind map (token_kind token)) ≡ 0 → Unlocked prims map m target)
      → ((same : Bool) → Stored prims map m given same (token_kind token) (token_offset token) → Compared prims map m given same token) → Taken
      → Comes (locked_token prims map m.session token given)
  unfolding locked_token sensed_locked hashes_to stored_token
  locked token e zero h t =
      if-both Comes _ _ _ (λ s. unfold authorized_act perform in (token_not_locked t (zero (eqb-true _ 0 (not-false _ (not-true _ s)))) refl refl))
      (λ s. compares token e _ (λ same q. h same (eqb-false _ 0 (not-true _ (not-false _ s)), agreed _ _ same q)) t)

  asks : (entry : Option Token) → table_entry m.session.state target ≡ entry → Taken → Comes (authorization prims map m.session entry given)
  unfolding authorization token_authorization token_kind token_offset hashes_to raw_unlock_hash
  asks None e t = unfold authorized_act perform in (not_in_table t e refl refl)
  asks (Some Nothing) e t = unfold authorized_act in (moves t (record { token = Nothing; allowed = e; compared = refl }))
  asks (Some RawUnlock) e t = compares RawUnlock e _ (λ same s. agreed _ _ same s) t
  asks (Some TestUnlock) e t = locked TestUnlock e (test_unlock e) (λ same s. s) t
  asks (Some TestExit) e t = locked TestExit e (test_exit e) (λ same s. s) t
  asks (Some Rma) e t = locked Rma e (rma e) (λ same s. s) t

  -- the act from the stroke on
  abbrev pub spending : Act
  spending =
      program life_cycle_rule (counter_at map) stroke to_dead
      (authorized_act prims map m (authorization prims map m.session (table_entry m.session.state target) given) target)

  spends : InRange → Ends (perform spending m.lent)
  unfolding perform
  spends space =
      after_both Ends (program_answer life_cycle_rule cells₀ (counter_at map) stroke) _ _ (λ e. asks _ refl (space, e))
      (λ cell e. counter_stops space e refl refl)

  -- once the record is judged
  pub ends : Ends (perform
      (when not (leb target 20) then say (Err UnknownTarget) no_effect
      else when not (ltb m.session.count 24) then say (Err StrokesUsed) to_inert
      else spending) m.lent)
  ends =
      let to : Act → Type 0 = λ a. Ends (perform a m.lent) in
      if-both to _ _ _ (λ t. unfold perform in (unknown_target (leb-false target 20 (not-true _ t)) refl))
      λ t. if-both to _ _ _ (λ u. unfold perform in (used (leb-true target 20 (not-false _ t)) (ltb-false m.session.count 24 (not-true _ u)) refl refl))
      λ u. spends (leb-true target 20 (not-false _ t), ltb-true m.session.count 24 (not-false _ u))

  -- the whole act: the phase, then the record, then these
  pub act-ends : (((outcome prims map (Transition target given) m).answer ≡ Err NotReady) × (Fair prims map m → ⊥))
      ⊎ ((is_ready m.session.phase ≡ true) × Ends (outcome prims map (Transition target given) m))
  unfolding ready_act command_act transition_act
  act-ends =
      let to : Act → Type 0 = λ a. (((perform a m.lent).answer ≡ Err NotReady) × (Fair prims map m → ⊥))
      ⊎ ((is_ready m.session.phase ≡ true) × Ends (perform a m.lent)) in
      if-both to _ _ _ (λ t. inl (unfold perform in (refl, λ f. true-not-false f.ready (not-true _ t))))
      λ t. if-both to _ _ _ (λ u. inl
      (unfold perform in (refl, λ f. true-not-false (and_both (leb m.session.state 20) _ (le-leb _ _ f.state) (le-leb _ _ f.count)) (not-true _ u))))
      λ u. inr (not-false _ t, ends)

-- ---- the whole command

module _ (prims : Primitives) (map : Map) (m : Machine) (target given : ℕ) where
  -- it is refused early, by a chip that is not fair, or it comes to one of the ends
  abbrev pub Ended : Answer → List ℕ → Type 0
  Ended answer cells =
      ((early (code_of answer) ≡ true) × (Fair prims map m → ⊥))
      ⊎ ((right_lengths map m.lent ≡ true) × (is_ready m.session.phase ≡ true) × Ending prims map m target given answer cells)

  pub step-ends : Ended (answer_to prims map (Transition target given) m) (machine_after prims map (Transition target given) m).lent.cells
  unfolding unchanged obey act performed early
  step-ends =
      step-judged prims map (λ (s : Step). Ended s.result.answer s.result.machine.lent.cells) (Transition target given) m
      (λ e. inl (refl, λ f. true-not-false f.lengths e)) (λ e v. inl (refl, λ f. true-not-false f.valid v))
      (λ e v. ⊎_elim (λ a. inl (rw a.0 refl, a.1)) (λ a. inr (e, a.0, a.1)) (act-ends prims map m target given))
