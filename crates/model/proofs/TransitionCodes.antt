-- When a transition gives each code. The idea: where the words are taken, the table's entry and the token decide the code (`due`); each end has that code, or a
-- 4.
use Rattle.std.specs.Prelude.{Ok, Err, Option, Some, None}
use Rattle.basics.specs.Choice.{when◌then◌else◌}
use Rattle.model.specs.Claims.Terms.{ValidInputs, Says}
use mathlib.Core.Path.{◌≡◌, refl, sym, ap, ◌∙◌}
use mathlib.Core.Bool.{Bool, true, false, ◌&&◌, not}
use mathlib.Core.List.{List}
use mathlib.Core.Logic.{◌↔◌, ◌⊎◌, ⊎_elim, inr, inl}
use Prim.Native.Nat.{ℕ, suc, ◌+◌, ◌/◌, ◌≤◌, ◌<◌}
use native.Mathlib.Omega.{arith}
use lib.Dec.{eqb, leb}
use borrow.Author.Tests.{eqb-false, eq-eqb, ne_eqb, lt-leb, leb-false, not-true, not-false}
use Rattle.basics.proofs.Choice.{true-not-false, if-true, if-false, by_cases, and_left, and_right, not-passed, and_both, if-both}
use Rattle.words.specs.Programming.{program_answer}
use Rattle.words.proofs.Programming.{refused-not-done, program-elsewhere, answer-same}
use Rattle.partitions.specs.declared.Kind.{Kind}
use Rattle.partitions.specs.Map.{partition, Map, number_of_kind}
use Rattle.life_cycle.specs.declared.Token.{Token}
use Rattle.life_cycle.specs.declared.Token.TheVariants.{Nothing, RawUnlock, TestUnlock, TestExit, Rma}
use Rattle.life_cycle.specs.Words.{state_words}
use Rattle.life_cycle.specs.Transitions.{table_entry}
use Rattle.life_cycle.proofs.Encoding.{counter-length}
use Rattle.model.specs.declared.Failure.TheVariants.{NotReady}
use Rattle.model.specs.declared.Command.TheVariants.{Transition}
use Rattle.model.specs.Answers.{Answer, code_of, value_of}
use Rattle.model.specs.Session.{sensed_at, is_ready}
use Rattle.model.specs.Lent.{Machine, Primitives}
use Rattle.model.specs.Acts.{Act, refuse, perform}
use Rattle.model.specs.Commands.{life_cycle_rule, counter_at, state_at, ready_act, command_act, transition_act}
use Rattle.model.specs.Step.{answer_to, obey, act, performed}
use Rattle.model.specs.Claims.Numbers.{Agrees, eight_from}
use Rattle.model.specs.Claims.Refusals.{early}
use Rattle.model.specs.Claims.Transitions.{Stops, counter_refused, state_refused, stroke_words, Compared, Asked, stroke_only, Fair, Unlocked, test_unlock}
use Rattle.model.specs.Claims.Transitions.{test_exit, rma, Stored}
use Rattle.model.proofs.Steps.{step-obeys}
use Rattle.model.proofs.TransitionEnds.{ends, stroke-cells, move, Ending, unknown_target, used, counter_stops, not_in_table, token_not_locked, token_differs}
use Rattle.model.proofs.TransitionEnds.{state_stops, moved, InRange, step-ends}
use Rattle.model.specs.declared.Phase.TheVariants as phase
use Rattle.partitions.specs.declared.Kind.TheVariants as kind

module _ (prims : Primitives) (map : Map) (m : Machine) (target given : ℕ) where
  -- the code that the table's entry comes to, where the words are taken
  same_code : Bool → ℕ
  same_code true = 0x00
  same_code false = 0x23

  stored_code : Kind → ℕ → ℕ
  stored_code k offset =
      when eqb (sensed_at m.session (number_of_kind map k)) 0 then 0x22
      else same_code (eqb (prims.hash given) (eight_from m.lent.copy ((partition map (number_of_kind map k)).start / 2 + offset)))

  token_code : Token → ℕ
  token_code Nothing = 0x00
  token_code RawUnlock = same_code (eqb (prims.hash given) (eight_from m.lent.constants 124))
  token_code TestUnlock = stored_code kind.Secret0 0
  token_code TestExit = stored_code kind.Secret0 8
  token_code Rma = stored_code kind.Secret2 0

  entry_code : Option Token → ℕ
  entry_code None = 0x21
  entry_code (Some token) = token_code token

  abbrev due : ℕ
  due = entry_code (table_entry m.session.state target)

  forbidden-due : table_entry m.session.state target ≡ None → due ≡ 0x21
  unfolding entry_code
  forbidden-due e = rw e

  open_code : (k : Kind) (offset : ℕ) → sensed_at m.session (number_of_kind map k) ≡ 0 → stored_code k offset ≡ 0x22
  unfolding stored_code
  open_code k offset e = if-true _ _ (eq-eqb _ 0 e)

  open-due : Unlocked prims map m target → due ≡ 0x22
  unfolding entry_code token_code
  open-due (test_unlock a e) = rw a (open_code kind.Secret0 0 e)
  open-due (test_exit a e) = rw a (open_code kind.Secret0 8 e)
  open-due (rma a e) = rw a (open_code kind.Secret2 0 e)

  agrees-code : (x y : ℕ) (same : Bool) → Agrees x y same → same_code (eqb x y) ≡ same_code same
  agrees-code x y true e = ap same_code (eq-eqb x y e)
  agrees-code x y false e = ap same_code (ne_eqb x y e)

  stored-code : (k : Kind) (offset : ℕ) (same : Bool) → Stored prims map m given same k offset → stored_code k offset ≡ same_code same
  unfolding stored_code
  stored-code k offset same e = if-false _ _ (ne_eqb _ 0 e.0) ∙ agrees-code _ _ same e.1

  compared-code : (token : Token) (same : Bool) → Compared prims map m given same token → token_code token ≡ same_code same
  unfolding token_code same_code
  compared-code Nothing same e = rw e
  compared-code RawUnlock same e = agrees-code _ _ same e
  compared-code TestUnlock same e = stored-code kind.Secret0 0 same e
  compared-code TestExit same e = stored-code kind.Secret0 8 same e
  compared-code Rma same e = stored-code kind.Secret2 0 same e

  asked-due : (same : Bool) → Asked prims map m target given same → due ≡ same_code same
  unfolding entry_code
  asked-due same a = rw a.allowed (compared-code a.token same a.compared)

  -- which of the three ranges an end lies in
  data Range (code : ℕ) : Type 0 where
    past : 20 < target → code ≡ 0x11 → Range code
    spent_all : target ≤ 20 → 24 ≤ m.session.count → code ≡ 0x20 → Range code
    within : target ≤ 20 → m.session.count < 24 → (code ≡ 0x11 → ⊥) → (code ≡ 0x20 → ⊥) → ((code ≡ 0x04 → ⊥) → code ≡ due) → Range code

  within-code : {answer answer' : Answer} → InRange prims map m target given → answer ≡ answer' → eqb (code_of answer') 0x11 ≡ false
      → eqb (code_of answer') 0x20 ≡ false
      → ((code_of answer' ≡ 0x04 → ⊥) → code_of answer' ≡ due) → Range (code_of answer)
  within-code r e f g h = rw e (within r.0 r.1 (eqb-false _ _ f) (eqb-false _ _ g) h)

  place : {answer : Answer} {cells : List ℕ} → Ending prims map m target given answer cells → Range (code_of answer)
  unfolding same_code
  place (unknown_target h e) = rw e (past h refl)
  place (used l h e f) = rw e (spent_all l h refl)
  place (counter_stops r h e f) = within-code r e refl refl (λ n. absurd (n refl))
  place (not_in_table t h e f) = within-code t.0 e refl refl (λ n. sym (forbidden-due h))
  place (token_not_locked t h e f) = within-code t.0 e refl refl (λ n. sym (open-due h))
  place (token_differs t h e f) = within-code t.0 e refl refl (λ n. sym (asked-due false h))
  place (state_stops t a h e f) = within-code t.0 e refl refl (λ n. absurd (n refl))
  place (moved t h g e f) = within-code t.0 e refl refl (λ n. sym (asked-due true h))

  -- what led to it
  record Causes (code : ℕ) : Type 0 where
    no-entry : code ≡ 0x21 → table_entry m.session.state target ≡ None
    no-lock : code ≡ 0x22 → Unlocked prims map m target
    other : code ≡ 0x23 → Asked prims map m target given false
    same : code ≡ 0x00 → Asked prims map m target given true

  -- a code that is none of these
  no-causes : {answer answer' : Answer} → answer ≡ answer' → stroke_only (code_of answer') ≡ false → eqb (code_of answer') 0x00 ≡ false
      → Causes (code_of answer)
  unfolding stroke_only
  no-causes e f g = rw e (record {
    no-entry = λ q. absurd (true-not-false (rw q) f);
    no-lock = λ q. absurd (true-not-false (rw q) f);
    other = λ q. absurd (true-not-false (rw q) f);
    same = λ q. absurd (eqb-false _ _ g q);
  })

  causes : {answer : Answer} {cells : List ℕ} → Ending prims map m target given answer cells → Causes (code_of answer)
  unfolding stroke_only
  causes (unknown_target h e) = no-causes e refl refl
  causes (used l h e f) = no-causes e refl refl
  causes (counter_stops r h e f) = no-causes e refl refl
  causes (not_in_table t h e f) =
      rw e (record { no-entry = λ q. h; no-lock = λ q. absurd (omega arith); other = λ q. absurd (omega arith); same = λ q. absurd (omega arith) })
  causes (token_not_locked t h e f) =
      rw e (record { no-entry = λ q. absurd (omega arith); no-lock = λ q. h; other = λ q. absurd (omega arith); same = λ q. absurd (omega arith) })
  causes (token_differs t h e f) =
      rw e (record { no-entry = λ q. absurd (omega arith); no-lock = λ q. absurd (omega arith); other = λ q. h; same = λ q. absurd (omega arith) })
  causes (state_stops t a h e f) = no-causes e refl refl
  causes (moved t h g e f) =
      rw e (record { no-entry = λ q. absurd (omega arith); no-lock = λ q. absurd (omega arith); other = λ q. absurd (omega arith); same = λ q. h })

  past-only : {code : ℕ} → Range code → (code ≡ 0x11) ↔ (20 < target)
  past-only (past h e) = ((λ q. h), λ q. e)
  past-only (spent_all l h e) = ((λ q. absurd (omega arith)), λ q. absurd (omega arith))
  past-only (within l r f g h) = ((λ q. absurd (f q)), λ q. absurd (omega arith))

  used-only : {code : ℕ} → m.session.count ≤ 24 → Range code → (code ≡ 0x20) ↔ ((target ≤ 20) × (m.session.count ≡ 24))
  used-only c (past h e) = ((λ q. absurd (omega arith)), λ q. absurd (omega (arith, q.0)))
  used-only c (spent_all l h e) = ((λ q. (l, omega arith)), λ q. e)
  used-only c (within l r f g h) = ((λ q. absurd (g q)), λ q. absurd (omega (arith, q.1)))

  is-due : {code : ℕ} → Range code → target ≤ 20 → m.session.count < 24 → (code ≡ 0x04 → ⊥) → code ≡ due
  is-due (past h e) l c n = absurd (omega arith)
  is-due (spent_all k h e) l c n = absurd (omega arith)
  is-due (within k r f g h) l c n = h n

  -- ---- when it stops with a 4

  -- the state words are asked of cells that the stroke did not change
  state-same : program_answer life_cycle_rule (stroke-cells prims map m target given) (state_at map) (move prims map m target given)
      ≡ program_answer life_cycle_rule m.lent.cells (state_at map) (state_words m.lent.constants target)
  unfolding state_at
  state-same =
      answer-same life_cycle_rule (state_words m.lent.constants target) _ m.lent.cells (counter_at map + 24)
      (λ j l u. program-elsewhere life_cycle_rule m.lent.cells (stroke_words prims map m) (counter_at map) j
      (λ lo hi. omega (arith, counter-length m.lent.constants (suc m.session.count))))

  four-stops : {answer : Answer} {cells : List ℕ} → Ending prims map m target given answer cells → code_of answer ≡ 0x04 → Stops prims map m target given
  four-stops (unknown_target h e) = rw e (λ q. absurd (omega arith))
  four-stops (used l h e f) = rw e (λ q. absurd (omega arith))
  four-stops (counter_stops r h e f) = λ q. counter_refused h
  four-stops (not_in_table t h e f) = rw e (λ q. absurd (omega arith))
  four-stops (token_not_locked t h e f) = rw e (λ q. absurd (omega arith))
  four-stops (token_differs t h e f) = rw e (λ q. absurd (omega arith))
  four-stops (state_stops t a h e f) = λ q. state_refused t.1 a (sym state-same ∙ h)
  four-stops (moved t h g e f) = rw e (λ q. absurd (omega arith))

  -- where the counter words are taken, the table's token was given and the state words are refused
  record StateRefused : Type 0 where
    same : due ≡ 0x00
    cell : ℕ
    refused : program_answer life_cycle_rule m.lent.cells (state_at map) (state_words m.lent.constants target) ≡ Err cell

  state-refused : program_answer life_cycle_rule m.lent.cells (counter_at map) (stroke_words prims map m) ≡ Ok tt → Stops prims map m target given
      → StateRefused
  unfolding same_code
  state-refused e (counter_refused h) = absurd (refused-not-done (sym h ∙ e))
  state-refused e (state_refused {cell = cell} t a h) = record { same = asked-due true a; cell = cell; refused = h }

  stops-four : {answer : Answer} {cells : List ℕ} → target ≤ 20 → m.session.count < 24 → Ending prims map m target given answer cells
      → Stops prims map m target given → code_of answer ≡ 0x04
  unfolding same_code
  stops-four l c (unknown_target h e) s = absurd (omega arith)
  stops-four l c (used k h e f) s = absurd (omega arith)
  stops-four l c (counter_stops r h e f) s = rw e
  stops-four l c (not_in_table t h e f) s = absurd (omega (arith, (state-refused t.1 s).same, forbidden-due h))
  stops-four l c (token_not_locked t h e f) s = absurd (omega (arith, (state-refused t.1 s).same, open-due h))
  stops-four l c (token_differs t h e f) s = absurd (omega (arith, (state-refused t.1 s).same, asked-due false h))
  stops-four l c (state_stops t a h e f) s = rw e
  stops-four l c (moved t h g e f) s = absurd (refused-not-done (sym (state-refused t.1 s).refused ∙ sym state-same ∙ g))

  -- ---- each code

  abbrev pub Exact : ℕ → Type 0
  Exact code =
      ((code ≡ 0x11) ↔ (20 < target))
      × ((code ≡ 0x20) ↔ ((target ≤ 20) × (m.session.count ≡ 24)))
      × (target ≤ 20 → m.session.count < 24
      → ((code ≡ 0x04) ↔ Stops prims map m target given)
      × ((code ≡ 0x04 → ⊥)
      → ((code ≡ 0x21) ↔ (table_entry m.session.state target ≡ None))
      × ((code ≡ 0x22) ↔ Unlocked prims map m target)
      × ((code ≡ 0x23) ↔ Asked prims map m target given false)
      × ((code ≡ 0x00) ↔ Asked prims map m target given true)))

  exact : m.session.count ≤ 24 → {answer : Answer} {cells : List ℕ} → Ending prims map m target given answer cells → Exact (code_of answer)
  unfolding same_code
  exact c e =
      let p = place e in
      let w = causes e in (
        past-only p,
        used-only c p,
        λ l k. (
          (four-stops e, stops-four l k e),
          λ n.
              (let d = is-due p l k n in (
                (w.no-entry, λ q. d ∙ forbidden-due q),
                (w.no-lock, λ q. d ∙ open-due q),
                (w.other, λ q. d ∙ asked-due false q),
                (w.same, λ q. d ∙ asked-due true q),
              )),
        ),
      )

pub fair-exact : (prims : Primitives) (map : Map) (m : Machine) → Fair prims map m → (target given : ℕ)
    → Exact prims map m target given (code_of (answer_to prims map (Transition target given) m))
fair-exact prims map m f target given =
    ⊎_elim (λ a. absurd (a.1 f)) (λ a. exact prims map m target given f.count a.2) (step-ends prims map m target given)

pub tokens-compared : (prims : Primitives) (map : Map) (m : Machine) (target given : ℕ)
    → let code = code_of (answer_to prims map (Transition target given) m) in
    (code ≡ 0x00 → Asked prims map m target given true) × (code ≡ 0x23 → Asked prims map m target given false)
unfolding early
tokens-compared prims map m target given =
    ⊎_elim (λ a. ((λ q. absurd (true-not-false a.0 (rw q))), λ q. absurd (true-not-false a.0 (rw q))))
    (λ a. (let w = causes prims map m target given a.2 in (w.same, w.other))) (step-ends prims map m target given)

-- ---- the record, and the value

module _ (prims : Primitives) (map : Map) (m : Machine) (target given : ℕ) where
  ending-not-seven : {answer : Answer} {cells : List ℕ} → Ending prims map m target given answer cells → code_of answer ≡ 0x07 → ⊥
  ending-not-seven (unknown_target h e) = rw e (λ q. omega arith)
  ending-not-seven (used l h e f) = rw e (λ q. omega arith)
  ending-not-seven (counter_stops r h e f) = rw e (λ q. omega arith)
  ending-not-seven (not_in_table t h e f) = rw e (λ q. omega arith)
  ending-not-seven (token_not_locked t h e f) = rw e (λ q. omega arith)
  ending-not-seven (token_differs t h e f) = rw e (λ q. omega arith)
  ending-not-seven (state_stops t a h e f) = rw e (λ q. omega arith)
  ending-not-seven (moved t h g e f) = rw e (λ q. omega arith)

  -- a record out of range
  outside : (leb m.session.state 20 && leb m.session.count 24) ≡ false → (20 < m.session.state) ⊎ (24 < m.session.count)
  outside e =
      by_cases (leb m.session.state 20) (λ s. inr (leb-false _ _ (not-passed (leb m.session.count 24) (λ c. true-not-false (and_both _ _ s c) e))))
      (λ s. inl (leb-false _ _ s))

  not-inside : (20 < m.session.state) ⊎ (24 < m.session.count) → (leb m.session.state 20 && leb m.session.count 24) ≡ true → ⊥
  not-inside h e =
      ⊎_elim (λ q. true-not-false (and_left (leb m.session.state 20) _ e) (lt-leb _ _ q))
      (λ q. true-not-false (and_right (leb m.session.state 20) _ e) (lt-leb _ _ q)) h

  record-refused : (leb m.session.state 20 && leb m.session.count 24) ≡ false
      → Says 0x07 0 (perform (refuse NotReady) m.lent).answer ↔ ((20 < m.session.state) ⊎ (24 < m.session.count))
  unfolding perform
  record-refused e = ((λ q. outside e), λ q. (refl, refl))

  pub record-sevens : ValidInputs map m → m.session.phase ≡ phase.Ready
      → Says 0x07 0 (answer_to prims map (Transition target given) m) ↔ ((20 < m.session.state) ⊎ (24 < m.session.count))
  unfolding obey act performed ready_act command_act transition_act is_ready
  record-sevens r e =
      let to : Act → Type 0 = λ x. Says 0x07 0 (perform x m.lent).answer ↔ ((20 < m.session.state) ⊎ (24 < m.session.count)) in
      rw (step-obeys prims map (Transition target given) m r, answer_to)
      (if-both to (not (is_ready m.session.phase)) _ _ (λ t. absurd (true-not-false (ap is_ready e) (not-true _ t)))
      λ t. if-both to (not (leb m.session.state 20 && leb m.session.count 24)) _ _
      (λ u. record-refused (not-true _ u))
      λ u. ((λ q. absurd (ending-not-seven (ends prims map m target given) q.0)), λ q. absurd (not-inside q (not-false _ u))))

  ending-value : {answer : Answer} {cells : List ℕ} → Ending prims map m target given answer cells → code_of answer ≡ 0x00 → value_of answer ≡ 0
  ending-value (unknown_target h e) = rw e (λ q. refl)
  ending-value (used l h e f) = rw e (λ q. refl)
  ending-value (counter_stops r h e f) = rw e (λ q. absurd (omega arith))
  ending-value (not_in_table t h e f) = rw e (λ q. refl)
  ending-value (token_not_locked t h e f) = rw e (λ q. refl)
  ending-value (token_differs t h e f) = rw e (λ q. refl)
  ending-value (state_stops t a h e f) = rw e (λ q. absurd (omega arith))
  ending-value (moved t h g e f) = rw e (λ q. refl)

  pub done-value : code_of (answer_to prims map (Transition target given) m) ≡ 0x00 → value_of (answer_to prims map (Transition target given) m) ≡ 0
  unfolding early
  done-value q = ⊎_elim (λ a. absurd (true-not-false a.0 (rw q))) (λ a. ending-value a.2 q) (step-ends prims map m target given)
