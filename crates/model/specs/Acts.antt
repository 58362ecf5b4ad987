-- A command is first decided, as an act, and then performed on what is lent: it says an answer, programs words, or compares a token.
use Rattle.std.specs.Prelude.{ℕ, Bool, List, [], ◌∷◌, Err, Result, Ok, ⊤}
use Rattle.basics.specs.Choice.{when◌then◌else◌}
use Rattle.words.specs.declared.Rule.{Rule}
use Rattle.words.specs.Programming.{program_answer, program_cells}
use Rattle.model.specs.declared.Reason.TheVariants as reason
use Rattle.model.specs.declared.Phase.TheVariants.{Inert, Dead}
use Rattle.model.specs.declared.Session.{Session}
use Rattle.model.specs.declared.Failure.{Failure}
use Rattle.model.specs.declared.Failure.TheVariants.{NotBlank}
use Rattle.model.specs.Answers.{Answer}
use Rattle.model.specs.Session.{in_phase, with_lock}
use Rattle.model.specs.Lent.{Lent, with_cells}

-- what becomes of the session record: it stays, a partition is read-locked, the phase becomes Inert or Dead 4
pub data Effect : Type 0 where
  no_effect : Effect
  lock : ℕ → Effect
  to_inert : Effect
  to_dead : Effect

unfoldable pub effect_on : Effect → Session → Session
effect_on no_effect s = s
effect_on (lock number) s = with_lock number s
effect_on to_inert s = in_phase Inert s
effect_on to_dead s = in_phase (Dead reason.BitCleared) s

-- `program` has the rule of refusal, the first cell, the words, the effect where they are refused, and what follows where they are done;
-- `compare` has a test of what is lent, what follows where it passes and where it fails
pub data Act : Type 0 where
  say : Answer → Effect → Act
  program : Rule → ℕ → List ℕ → Effect → Act → Act
  compare : (Lent → Bool) → Act → Act → Act

-- "A refusal leaves cells, copy and record as they were"
abbrev pub refuse : Failure → Act
refuse failure = say (Err failure) no_effect

-- what performing an act comes to, with the results of its token comparisons
pub record Performed : Type 0 where
  pub cells : List ℕ
  pub answer : Answer
  pub effect : Effect
  pub compared : List Bool

-- done words lead on, a refused cell ends the act
unfoldable pub after_program : Result ⊤ ℕ → Performed → (ℕ → Performed) → Performed
after_program (Ok done) next refused = next
after_program (Err cell) next refused = refused cell

-- a comparison's result stands before those of what follows
unfoldable pub with_comparison : Bool → Performed → Performed
with_comparison result r = record { cells = r.cells; answer = r.answer; effect = r.effect; compared = result ∷ r.compared }

-- words that are refused change no cell
unfoldable pub perform : Act → Lent → Performed
perform (say answer effect) l = record { cells = l.cells; answer = answer; effect = effect; compared = [] }
perform (program rule at words effect next) l =
    after_program (program_answer rule l.cells at words) (perform next (with_cells (program_cells rule l.cells at words) l))
    (λ cell. record { cells = l.cells; answer = Err (NotBlank cell); effect = effect; compared = [] })
perform (compare test same other) l = with_comparison (test l) (when test l then perform same l else perform other l)
