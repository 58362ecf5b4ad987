-- A transition as its code meets it, refusal by refusal. The idea: each of the paper's tests, once passed, leaves the next act.
use mathlib.Core.Path.{◌≡◌, sym, ap, ◌∙◌}
use mathlib.Core.Bool.{true, false, not, ◌&&◌}
use mathlib.Core.List.{List}
use Rattle.std.specs.Prelude.{None, Result, Ok, Err, ⊤}
use Prim.Native.Nat.{ℕ, suc, ◌≤◌, ◌<◌}
use lib.Dec.{leb, ltb}
use borrow.Author.Tests.{le-leb, lt-leb, lt-ltb, le-ltb}
use Rattle.basics.specs.Choice.{when◌then◌else◌}
use Rattle.basics.proofs.Choice.{if-true, if-false}
use Rattle.words.specs.Programming.{program_answer, program_cells}
use Rattle.words.proofs.Programming.{by_answer, stored_refused}
use Rattle.partitions.specs.Map.{Map}
use Rattle.life_cycle.specs.Words.{counter_words, state_words}
use Rattle.life_cycle.specs.Transitions.{table_entry}
use Rattle.model.specs.declared.Session.{Session}
use Rattle.model.specs.declared.Failure.{Failure}
use Rattle.model.specs.declared.Failure.TheVariants.{NotBlank, NotReady, UnknownTarget, StrokesUsed}
use Rattle.model.specs.Answers.{Answer}
use Rattle.model.specs.declared.Command.{Command}
use Rattle.model.specs.declared.Command.TheVariants.{Transition}
use Rattle.model.specs.declared.Outcome.{Outcome}
use Rattle.model.specs.Lent.{Lent, Machine, with_cells}
use Rattle.model.specs.Acts.{no_effect, to_inert, to_dead, effect_on, Act, say, program, refuse}
use Rattle.model.specs.Commands.{life_cycle_rule, counter_at, state_at, move_act, authorization, authorized_act, transition_act, command_act, Authorization}
use Rattle.chip.specs.Chip.{primitives, machine_of, result_of, result_for}
use Rattle.chip.proofs.Acting.{admitting, comes_to, said, program-done, program-refused, admitted-result}
use Rattle.transition.specs.Permit.{permit_of, as_before, inert, dead, moved_as}
use Rattle.transition.proofs.Tokens.{permitted_act, authorizing}

-- admitted, with a record whose state and count are in range
pub record Known (map : Map) (m : Machine) : Type 0 where
  pub admitted-there : admitting map m ≡ None
  pub good-record : (leb m.session.state 20 && leb m.session.count 24) ≡ true

-- and the target is known and a stroke is left
pub record Spendable (map : Map) (m : Machine) (target : ℕ) : Type 0 where
  pub known : Known map m
  pub target-known : target ≤ 20
  pub stroke-left : m.session.count < 24

module _ (s : Session) where
  now-inert : (l : Lent) (b : Answer) → comes_to (say b to_inert) (machine_of l s) ≡ result_of l (inert s b)
  unfolding effect_on
  now-inert l b = said (machine_of l s) b to_inert

  now-dead : (l : Lent) (cell : ℕ) → comes_to (say (Err (NotBlank cell)) to_dead) (machine_of l s) ≡ result_of l (dead s cell)
  unfolding effect_on
  now-dead l cell = said (machine_of l s) (Err (NotBlank cell)) to_dead

  -- the state words are programmed; the machine m decided
  moving : (map : Map) (m : Machine) (l : Lent) (target : ℕ) → let at = state_at map in let ws = state_words m.lent.constants target in
      comes_to (move_act primitives map m target) (machine_of l s)
      ≡ result_of (with_cells (program_cells life_cycle_rule l.cells at ws) l) (moved_as s (program_answer life_cycle_rule l.cells at ws))
  unfolding move_act
  moving map m l target =
      let at = state_at map in
      let ws = state_words m.lent.constants target in
      let n = machine_of l s in
      by_answer (program_answer life_cycle_rule l.cells at ws)
      (λ e. program-done n life_cycle_rule at ws to_dead (say (Ok 0) to_inert) e ∙ now-inert (with_cells (program_cells life_cycle_rule l.cells at ws) l)
      (Ok 0)
      ∙ rw e)
      (λ i e. program-refused n life_cycle_rule at ws to_dead (say (Ok 0) to_inert) i e ∙ now-dead l i
      ∙ rw (e, stored_refused life_cycle_rule l.cells ws at i e))

module _ (map : Map) (l : Lent) (s : Session) (target given : ℕ) where
  abbrev x : Command
  x = Transition target given

  abbrev m : Machine
  m = machine_of l s

  -- the counter words of one stroke more, and their place
  abbrev stroke : List ℕ
  stroke = counter_words l.constants (suc s.count)

  abbrev at : ℕ
  at = counter_at map

  -- what decides the move
  abbrev authorized : Authorization
  authorized = authorization primitives map s (table_entry s.state target) given

  -- what is left to decide once a stroke is left, and before that once the target is known and once the record is good
  abbrev spend_act : Act
  spend_act = program life_cycle_rule at stroke to_dead (authorized_act primitives map m authorized target)

  abbrev stroke_act : Act
  stroke_act = when not (ltb s.count 24) then say (Err StrokesUsed) to_inert else spend_act

  abbrev target_act : Act
  target_act = when not (leb target 20) then refuse UnknownTarget else stroke_act

  decided : admitting map m ≡ None → (a : Act) → transition_act primitives map m target given ≡ a → result_for map x m ≡ comes_to a m
  unfolding command_act
  decided e a f = admitted-result map x m tt e ∙ ap (λ (a : Act). comes_to a m) f

  pub bad-record : admitting map m ≡ None → (leb s.state 20 && leb s.count 24) ≡ false
      → (o : Outcome) → o ≡ as_before s NotReady → result_of l o ≡ result_for map x m
  unfolding transition_act effect_on
  bad-record e r o f = rw f (sym (decided e (refuse NotReady) (if-true _ _ (ap not r)) ∙ said m (Err NotReady) no_effect))

  module _ (q : Known map m) where
    good : transition_act primitives map m target given ≡ target_act
    unfolding transition_act
    good = if-false _ _ (ap not q.good-record)

    aimed : target ≤ 20 → (a : Act) → stroke_act ≡ a → result_for map x m ≡ comes_to a m
    aimed h a f = decided q.admitted-there a (good ∙ if-false _ _ (ap not (le-leb _ _ h)) ∙ f)

    pub unknown-target : 20 < target → (o : Outcome) → o ≡ as_before s UnknownTarget → result_of l o ≡ result_for map x m
    unfolding effect_on
    unknown-target h o f =
        rw f (sym (decided q.admitted-there (refuse UnknownTarget) (good ∙ if-true _ _ (ap not (lt-leb _ _ h))) ∙ said m (Err UnknownTarget) no_effect))

    pub strokes-used : target ≤ 20 → 24 ≤ s.count → (o : Outcome) → o ≡ inert s (Err StrokesUsed) → result_of l o ≡ result_for map x m
    strokes-used h c o f = rw f (sym (aimed h (say (Err StrokesUsed) to_inert) (if-true _ _ (ap not (le-ltb _ _ c))) ∙ now-inert s l (Err StrokesUsed)))

  module _ (q : Spendable map m target) where
    spending : result_for map x m ≡ comes_to spend_act m
    spending = aimed q.known q.target-known _ (if-false _ _ (ap not (lt-ltb _ _ q.stroke-left)))

    -- the stroke is programmed, or a cell refuses
    module _ (cells : List ℕ) (c : cells ≡ program_cells life_cycle_rule l.cells at stroke) where
      abbrev after : Lent
      after = with_cells cells l

      pub stroke-refused : (cell : ℕ) → program_answer life_cycle_rule l.cells at stroke ≡ Err cell → (o : Outcome) → o ≡ dead s cell
          → result_of after o ≡ result_for map x m
      stroke-refused cell e o f =
          rw (f, c, stored_refused life_cycle_rule l.cells stroke at cell e)
          (sym (spending ∙ program-refused m life_cycle_rule at stroke to_dead _ cell e ∙ now-dead s l cell))

      module _ (e : program_answer life_cycle_rule l.cells at stroke ≡ Ok tt) where
        asked : (p : Result ⊤ Failure) → permit_of after authorized ≡ p
            → result_for map x m ≡ comes_to (permitted_act p (move_act primitives map m target)) (machine_of after s)
        asked p f =
            rw (← f, c)
            (spending
            ∙ program-done m life_cycle_rule at stroke to_dead _ e
            ∙ authorizing map m (machine_of (with_cells (program_cells life_cycle_rule l.cells at stroke) l) s) target authorized)

        pub not-permitted : (b : Failure) → permit_of after authorized ≡ Err b → (o : Outcome) → o ≡ inert s (Err b) → result_of after o ≡ result_for map x m
        not-permitted b f o g = rw g (sym (asked (Err b) f ∙ now-inert s after (Err b)))

        pub moved : permit_of after authorized ≡ Ok tt → (end : List ℕ) (o : Outcome)
            → o ≡ moved_as s (program_answer life_cycle_rule cells (state_at map) (state_words l.constants target))
            → end ≡ program_cells life_cycle_rule cells (state_at map) (state_words l.constants target) → result_of (with_cells end l) o ≡ result_for map x m
        moved f end o g h = rw (g, h) (sym (asked (Ok tt) f ∙ moving s map m after target))
