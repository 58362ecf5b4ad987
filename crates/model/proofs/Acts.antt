-- Whatever holds of every act, with no case on commands. The idea: an act is a small tree, so each law is an induction on it.
use Rattle.std.specs.Prelude.{Ok, Err, Result, ⊤}
use mathlib.Core.Path.{◌≡◌, refl, ap, ◌∙◌}
use mathlib.Core.Bool.{Bool, false}
use mathlib.Core.List.{List}
use Prim.Native.Nat.{ℕ, ◌+◌, ◌≤◌, ◌<◌}
use lib.Dec.{eqb}
use lib.ListN.{length, get_or}
use borrow.Author.Tests.{eqb-false}
use Rattle.basics.proofs.Choice.{if-both}
use Rattle.words.specs.declared.Rule.{Rule}
use Rattle.words.specs.Programming.{program_answer, program_cells, Kept}
use Rattle.words.proofs.Programming.{kept_refl, kept_trans, program-kept, program-length, program-elsewhere}
use Rattle.model.specs.declared.Failure.TheVariants.{NotBlank}
use Rattle.model.specs.Answers.{Answer, code_of}
use Rattle.model.specs.Lent.{Lent, with_cells}
use Rattle.model.specs.Acts.{Effect, Act, say, program, compare, Performed, after_program, with_comparison, perform}

-- what holds of a programming that is done and of one that is refused
pub after_both {ℓ} : (Q : Performed → Type ℓ) (r : Result ⊤ ℕ) (next : Performed) (refused : ℕ → Performed)
    → (r ≡ Ok tt → Q next) → ((cell : ℕ) → r ≡ Err cell → Q (refused cell)) → Q (after_program r next refused)
unfolding after_program
after_both Q (Ok done) next refused f g = f refl
after_both Q (Err cell) next refused f g = g cell refl

pub after-done : {r : Result ⊤ ℕ} (next : Performed) (refused : ℕ → Performed) → r ≡ Ok tt → after_program r next refused ≡ next
unfolding after_program
after-done next refused e = rw e

-- ---- bits, lengths

pub perform_kept : (x : Act) (l : Lent) → Kept l.cells (perform x l).cells
unfolding perform with_comparison
perform_kept (say answer effect) l = kept_refl
perform_kept (program rule at words effect next) l =
    after_both (λ (r : Performed). Kept l.cells r.cells) (program_answer rule l.cells at words) _ _
    (λ e. kept_trans (program-kept rule l.cells words at) (perform_kept next (with_cells (program_cells rule l.cells at words) l))) (λ cell e. kept_refl)
perform_kept (compare test same other) l =
    if-both (λ (r : Performed). Kept l.cells r.cells) _ _ _ (λ e. perform_kept same l) (λ e. perform_kept other l)

pub perform-length : (x : Act) (l : Lent) → length (perform x l).cells ≡ length l.cells
unfolding perform with_comparison
perform-length (say answer effect) l = refl
perform-length (program rule at words effect next) l =
    after_both (λ (r : Performed). length r.cells ≡ length l.cells) (program_answer rule l.cells at words) _ _
    (λ e. perform-length next (with_cells (program_cells rule l.cells at words) l) ∙ program-length rule l.cells words at) (λ cell e. refl)
perform-length (compare test same other) l =
    if-both (λ (r : Performed). length r.cells ≡ length l.cells) _ _ _ (λ e. perform-length same l) (λ e. perform-length other l)

-- ---- the frame

-- every piece that the act may program has P
pub data Within (P : ℕ → List ℕ → Type 0) : Act → Type 0 where
  says : {answer : Answer} {effect : Effect} → Within P (say answer effect)
  programs : {rule : Rule} {at : ℕ} {words : List ℕ} {effect : Effect} {next : Act} → P at words → Within P next → Within P (program rule at words effect next)
  compares : {test : Lent → Bool} {same other : Act} → Within P same → Within P other → Within P (compare test same other)

pub within-map : {P Q : ℕ → List ℕ → Type 0} {x : Act} → ((at : ℕ) (words : List ℕ) → P at words → Q at words) → Within P x → Within Q x
within-map f says = says
within-map f (programs {at = at} {words = words} h next) = programs (f at words h) (within-map f next)
within-map f (compares same other) = compares (within-map f same) (within-map f other)

-- every word of the piece has P
abbrev pub Pieces : (ℕ → Type 0) → ℕ → List ℕ → Type 0
Pieces P at words = (j : ℕ) → at ≤ j → j < at + length words → P j

pub perform-frame : {P : ℕ → Type 0} {x : Act} → Within (Pieces P) x → (l : Lent) (j : ℕ) → (P j → ⊥) → get_or (perform x l).cells j 0 ≡ get_or l.cells j 0
unfolding perform with_comparison
perform-frame says l j h = refl
perform-frame (programs {rule = rule} {at = at} {words = words} inside next) l j h =
    after_both (λ (r : Performed). get_or r.cells j 0 ≡ get_or l.cells j 0) (program_answer rule l.cells at words) _ _
    (λ e. perform-frame next (with_cells (program_cells rule l.cells at words) l) j h
    ∙ program-elsewhere rule l.cells words at j (λ lo hi. h (inside j lo hi)))
    (λ cell e. refl)
perform-frame (compares {test = test} same other) l j h =
    if-both (λ (r : Performed). get_or r.cells j 0 ≡ get_or l.cells j 0) _ _ _ (λ e. perform-frame same l j h) (λ e. perform-frame other l j h)

-- ---- the answers that an act may give, with the effects that go with them

pub data Gives (T : Answer → Effect → Type 0) : Act → Type 0 where
  says : {answer : Answer} {effect : Effect} → T answer effect → Gives T (say answer effect)
  programs : {rule : Rule} {at : ℕ} {words : List ℕ} {effect : Effect} {next : Act} → ((cell : ℕ) → T (Err (NotBlank cell)) effect) → Gives T next
      → Gives T (program rule at words effect next)
  compares : {test : Lent → Bool} {same other : Act} → Gives T same → Gives T other → Gives T (compare test same other)

pub perform-gives : {T : Answer → Effect → Type 0} {x : Act} → Gives T x → (l : Lent) → T (perform x l).answer (perform x l).effect
unfolding perform with_comparison
perform-gives (Gives.says h) l = h
perform-gives {T} (Gives.programs {rule = rule} {at = at} {words = words} refused next) l =
    after_both (λ (r : Performed). T r.answer r.effect) (program_answer rule l.cells at words) _ _
    (λ e. perform-gives next (with_cells (program_cells rule l.cells at words) l)) (λ cell e. refused _)
perform-gives {T} (Gives.compares {test = test} same other) l =
    if-both (λ (r : Performed). T r.answer r.effect) _ _ _ (λ e. perform-gives same l) (λ e. perform-gives other l)

-- a refusal is not an answer of 0
pub not_done : {answer : Answer} {value : ℕ} → eqb (code_of answer) 0x00 ≡ false → answer ≡ Ok value → ⊥
not_done t e = eqb-false _ _ t (ap code_of e)
