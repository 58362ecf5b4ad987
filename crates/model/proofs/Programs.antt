-- What an act programs in all. The idea: it programs its words in pieces that adjoin, the lowest first, so that it answers as if they were programmed at once.
use Rattle.std.specs.Prelude.{Ok, Err}
use mathlib.Core.Path.{◌≡◌, refl, sym, ◌∙◌}
use mathlib.Core.Bool.{Bool, true}
use mathlib.Core.List.{List, [], ◌++◌, append-nil}
use Prim.Native.Nat.{ℕ, ◌+◌}
use native.Mathlib.Omega.{arith}
use lib.Dec.{ltb}
use lib.ListN.{length}
use borrow.Author.Tests.{ltb-true}
use Rattle.basics.proofs.Choice.{if-both}
use Rattle.words.specs.declared.Rule.{Rule}
use Rattle.words.specs.Programming.{program_answer, program_cells}
use Rattle.words.proofs.Programming.{answer-same, append-stop, append-next, program-elsewhere}
use Rattle.model.specs.Answers.{Answer, code_of, value_of}
use Rattle.model.specs.Lent.{Lent, with_cells}
use Rattle.model.specs.Acts.{Effect, Act, say, program, compare, Performed, with_comparison, perform}
use Rattle.model.proofs.Acts.{after_both}

-- by the rule, the act programs the words from a place on: it refuses with a code above 4, or piece by piece it comes to the end and answers 0
pub data Programs (rule : Rule) : ℕ → List ℕ → Act → Type 0 where
  refuses : {at : ℕ} {words : List ℕ} {answer : Answer} {effect : Effect} → ltb 4 (code_of answer) ≡ true → Programs rule at words (say answer effect)
  ends : {at value : ℕ} {effect : Effect} → Programs rule at [] (say (Ok value) effect)
  burns : {at next-at : ℕ} {words piece rest : List ℕ} {effect : Effect} {next : Act} → words ≡ piece ++ rest → next-at ≡ at + length piece
      → Programs rule next-at rest next
      → Programs rule at words (program rule at piece effect next)
  compares : {at : ℕ} {words : List ℕ} {test : Lent → Bool} {same other : Act} → Programs rule at words same → Programs rule at words other
      → Programs rule at words (compare test same other)

-- the last piece, after which 0 is answered
pub last-piece : {rule : Rule} {at : ℕ} {words : List ℕ} {effect end : Effect} {value : ℕ}
    → Programs rule at words (program rule at words effect (say (Ok value) end))
last-piece {words = words} = burns (sym (append-nil words)) refl ends

-- what its answer means: 0, that every word was taken; 4, which was refused
abbrev pub AnswerMeans : Rule → List ℕ → ℕ → List ℕ → Answer → Type 0
AnswerMeans rule cells at words answer =
    (code_of answer ≡ 0x00 → program_answer rule cells at words ≡ Ok tt)
    × (code_of answer ≡ 0x04 → program_answer rule cells at words ≡ Err (value_of answer))

-- a code above 4 means neither
pub tells-nothing : (rule : Rule) (cells : List ℕ) (at : ℕ) (words : List ℕ) (answer : Answer) → ltb 4 (code_of answer) ≡ true
    → AnswerMeans rule cells at words answer
tells-nothing rule cells at words answer e = let above = ltb-true 4 (code_of answer) e in ((λ z. absurd (omega arith)), λ f. absurd (omega arith))

-- once a piece is done, the rest is asked of words that it did not change
goes_on : (rule : Rule) (cells piece rest : List ℕ) (at next-at : ℕ) → next-at ≡ at + length piece → program_answer rule cells at piece ≡ Ok tt
    → program_answer rule cells at (piece ++ rest) ≡ program_answer rule (program_cells rule cells at piece) next-at rest
goes_on rule cells piece rest at next-at place e =
    rw place (append-next rule piece rest cells at e
    ∙ sym (answer-same rule rest _ cells (at + length piece) (λ j l u. program-elsewhere rule cells piece at j (λ lo hi. omega arith))))

pub perform-programs : {rule : Rule} {at : ℕ} {words : List ℕ} {x : Act} → Programs rule at words x → (l : Lent)
    → AnswerMeans rule l.cells at words (perform x l).answer
unfolding perform with_comparison program_answer
perform-programs {rule} {at} {words} (refuses {answer = answer} e) l = tells-nothing rule l.cells at words answer e
perform-programs ends l = ((λ z. refl), λ f. absurd (omega arith))
perform-programs {rule} {at} {words} (burns {next-at = next-at} {piece = piece} {rest = rest} whole place next) l =
    let t = perform-programs next (with_cells (program_cells rule l.cells at piece) l) in
    rw whole (after_both (λ (r : Performed). AnswerMeans rule l.cells at (piece ++ rest) r.answer) (program_answer rule l.cells at piece) _ _
    (λ e. let q = goes_on rule l.cells piece rest at next-at place e in ((λ z. q ∙ t.0 z), λ f. q ∙ t.1 f))
    (λ cell e. ((λ z. absurd (omega arith)), λ f. append-stop rule piece rest l.cells at cell e)))
perform-programs {rule} {at} {words} (compares same other) l =
    if-both (λ (r : Performed). AnswerMeans rule l.cells at words r.answer) _ _ _ (λ e. perform-programs same l) (λ e. perform-programs other l)
