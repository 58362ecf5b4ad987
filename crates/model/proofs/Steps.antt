-- One command and lists of commands, whatever the command. The idea: a step is a refusal that changes nothing, a power-up or a performed act.
use Rattle.std.specs.Prelude.{Err, Option, Some, None}
use Rattle.std.proofs.lemmas.Option.{none-some}
use mathlib.Core.Path.{◌≡◌, refl, sym, ◌∙◌, ap}
use mathlib.Core.Bool.{true, not, false}
use mathlib.Core.List.{List, [], ◌∷◌, ◌++◌}
use Prim.Native.Nat.{ℕ, ◌/◌}
use lib.Dec.{eqb}
use lib.ListN.{length}
use borrow.Author.Tests.{eqb-true, not-false, not-true}
use Rattle.basics.proofs.Choice.{if-both, and-three, if-true, true-not-false, by-option, by_cases, if-false}
use Rattle.basics.proofs.Range.{length-listed}
use Rattle.words.specs.Programming.{Kept}
use Rattle.words.proofs.Programming.{kept_refl, kept_trans}
use Rattle.partitions.specs.Map.{Map, limit}
use Rattle.constants.specs.Constants.{constant_count, valid_constants}
use Rattle.model.specs.declared.Failure.TheVariants.{WrongLength, InvalidConstants, NotReady}
use Rattle.model.specs.declared.Command.{Command}
use Rattle.model.specs.declared.Command.TheVariants.{PowerUp}
use Rattle.model.specs.Answers.{code_of}
use Rattle.model.specs.Lent.{Lent, Machine, Primitives, with_cells, with_copy, right_lengths, right_sizes, sizes_of}
use Rattle.model.specs.Acts.{Performed, perform, effect_on, no_effect, refuse}
use Rattle.model.specs.Commands.{ready_act}
use Rattle.model.specs.PowerUp.{PowerUpEnd, fails, succeeds, powered_copy, power_up_end}
use Rattle.model.specs.Step.{Step, unchanged, performed, act, power_up, obey, step, after, machine_after, judgement}
use Rattle.model.specs.Claims.Terms.{ValidInputs}
use Rattle.model.specs.Claims.Refusals.{judgement_code}
use Rattle.model.specs.Session.{is_ready}
use Rattle.model.specs.declared.Sizes.{Sizes}
use Rattle.model.specs.declared.Failure.{Failure}
use Rattle.model.proofs.Classes.{by-class}
use Rattle.model.proofs.Acts.{perform_kept, perform-length}
use Rattle.model.proofs.WordSizes.{perform-small, act-small}

-- what an act came to that left the cells and has no effect
pub same-machine : (m : Machine) (r : Performed) → r.cells ≡ m.lent.cells → r.effect ≡ no_effect
    → (performed r m).result.machine ≡ m
unfolding performed effect_on
same-machine m r e f = rw (e, f) refl

-- nothing is refused where lengths are right and constants valid, and only there
pub judgement-right : (map : Map) (sizes : Sizes) (k : List ℕ) → judgement map sizes k ≡ None
    → (right_sizes map sizes (length k) ≡ true) × (valid_constants k ≡ true)
unfolding judgement
judgement-right map sizes k e =
    by_cases (right_sizes map sizes (length k))
    (λ t. by_cases (valid_constants k) (λ v. (t, v)) (λ v. absurd (none-some _ (sym e ∙ if-false _ _ (ap not t) ∙ if-true _ _ (ap not v)))))
    (λ t. absurd (none-some _ (sym e ∙ if-true _ _ (ap not t))))

module _ (prims : Primitives) (map : Map) where
  pub after-append : (xs ys : List Command) (m : Machine) → after prims map (xs ++ ys) m ≡ after prims map ys (after prims map xs m)
  unfolding after
  after-append [] ys m = refl
  after-append (x ∷ xs) ys m = after-append xs ys (machine_after prims map x m)

  -- what the act of a command comes to
  abbrev pub outcome : Command → Machine → Performed
  outcome x m = perform (ready_act prims map m x) m.lent

  -- the machine after an act, and after a power-up
  abbrev pub after_act : Command → Machine → Machine
  after_act x m = (act prims map x m).result.machine

  abbrev pub powered_up : Machine → Machine
  powered_up m = (power_up prims map m).result.machine

  -- a command is power-up or an act
  by-obeying : {X : Type 0} (x : Command) → (x ≡ PowerUp → X) → (((m : Machine) → obey prims map x m ≡ act prims map x m) → X) → X
  unfolding obey
  by-obeying {X} =
      by-class (λ (x : Command). (x ≡ PowerUp → X) → (((m : Machine) → obey prims map x m ≡ act prims map x m) → X) → X)
      (λ f g. f refl) (λ target given f g. g (λ m. refl)) (λ x e f g. g (λ m. rw (e, obey) refl))

  pub obeys-act : (x : Command) (m : Machine) → (x ≡ PowerUp → ⊥) → obey prims map x m ≡ act prims map x m
  obeys-act x m n = by-obeying x (λ e. absurd (n e)) (λ e. e m)

  pub obey-both : (Q : Step → Step → Type 0) (x : Command) (m n : Machine)
      → Q (power_up prims map m) (power_up prims map n) → Q (act prims map x m) (act prims map x n) → Q (obey prims map x m) (obey prims map x n)
  obey-both Q x m n h f = by-obeying x (λ e. rw e (unfold obey in h)) (λ e. rw (e m, e n) f)

  -- ---- what is lent is judged first

  -- refused for its lengths or its constants, or the command is obeyed
  pub step-judged : (Q : Step → Type 0) (x : Command) (m : Machine) → (right_lengths map m.lent ≡ false → Q (unchanged WrongLength m))
      → (right_lengths map m.lent ≡ true → valid_constants m.lent.constants ≡ false → Q (unchanged InvalidConstants m))
      → (right_lengths map m.lent ≡ true → valid_constants m.lent.constants ≡ true → Q (obey prims map x m)) → Q (step prims map x m)
  unfolding step judgement
  step-judged Q x m u v h =
      let to : Option Failure → Type 0 = λ o. Q (elim o [ Some failure ↦ unchanged failure m | None ↦ obey prims map x m ]) in
      if-both to (not (right_lengths map m.lent)) _ _ (λ e. u (not-true _ e))
      (λ e. if-both to (not (valid_constants m.lent.constants)) _ _ (λ f. v (not-false _ e) (not-true _ f)) (λ f. h (not-false _ e) (not-false _ f)))

  pub accepted-step : (x : Command) (m : Machine) → judgement map (sizes_of m.lent) m.lent.constants ≡ None → step prims map x m ≡ obey prims map x m
  unfolding step
  accepted-step x m e = rw (e, step)

  pub refused-step : (x : Command) (m : Machine) (failure : Failure) → judgement map (sizes_of m.lent) m.lent.constants ≡ Some failure
      → step prims map x m ≡ unchanged failure m
  unfolding step
  refused-step x m failure e = rw (e, step)

  -- two machines that are lent what is judged alike
  pub step_twice : (Q : Step → Step → Type 0) (x : Command) (m n : Machine)
      → judgement map (sizes_of n.lent) n.lent.constants ≡ judgement map (sizes_of m.lent) m.lent.constants
      → ((failure : Failure) → Q (unchanged failure m) (unchanged failure n)) → Q (obey prims map x m) (obey prims map x n)
      → Q (step prims map x m) (step prims map x n)
  step_twice Q x m n e u h =
      by-option (judgement map (sizes_of m.lent) m.lent.constants) (λ f. rw (accepted-step x m f, accepted-step x n (e ∙ f)) h)
      (λ failure f. rw (refused-step x m failure f, refused-step x n failure (e ∙ f)) (u failure))

  -- what holds where what is lent is refused, with 0x10 or 0x12, and of the command obeyed
  pub step_both : (Q : Step → Type 0) (x : Command) (m : Machine)
      → ((failure : Failure) → judgement_code (code_of (Err failure)) ≡ true → Q (unchanged failure m)) → Q (obey prims map x m) → Q (step prims map x m)
  step_both Q x m u h = step-judged Q x m (λ e. u WrongLength refl) (λ e v. u InvalidConstants refl) (λ e v. h)

  -- what holds there, of a power-up and of an act holds of every command
  pub step-all : (Q : Step → Type 0) (x : Command) (m : Machine)
      → ((failure : Failure) → judgement_code (code_of (Err failure)) ≡ true → Q (unchanged failure m)) → Q (power_up prims map m) → Q (act prims map x m)
      → Q (step prims map x m)
  step-all Q x m u h f = step_both Q x m u (obey-both (λ s _. Q s) x m m h f)

  -- with right lengths and valid constants the command is obeyed
  pub judged-obeys : (x : Command) (m : Machine) → right_lengths map m.lent ≡ true → valid_constants m.lent.constants ≡ true
      → step prims map x m ≡ obey prims map x m
  judged-obeys x m e v =
      step-judged (λ (s : Step). s ≡ obey prims map x m) x m (λ f. absurd (true-not-false e f)) (λ e f. absurd (true-not-false v f)) (λ e v. refl)

  pub step-obeys : (x : Command) (m : Machine) → ValidInputs map m → step prims map x m ≡ obey prims map x m
  step-obeys x m r = judged-obeys x m r.lengths r.valid

  pub step-up : (m : Machine) → ValidInputs map m → step prims map PowerUp m ≡ power_up prims map m
  unfolding obey
  step-up m r = step-obeys PowerUp m r

  -- ---- a phase that is not Ready: the act refuses, and nothing changes

  pub not-ready-act : (x : Command) (m : Machine) → is_ready m.session.phase ≡ false → ready_act prims map m x ≡ refuse NotReady
  unfolding ready_act
  not-ready-act x m e = if-true _ _ (ap not e)

  pub act-not-ready : (x : Command) (m : Machine) → is_ready m.session.phase ≡ false → after_act x m ≡ m
  unfolding act perform
  act-not-ready x m e =
      rw (not-ready-act x m e, after_act) (same-machine m (record { cells = m.lent.cells; answer = Err NotReady; effect = no_effect; compared = [] }) refl refl)

  -- ---- bits stay

  step_kept : (x : Command) (m : Machine) → Kept m.lent.cells (machine_after prims map x m).lent.cells
  unfolding act performed power_up unchanged
  step_kept x m =
      step-all (λ (s : Step). Kept m.lent.cells s.result.machine.lent.cells) x m (λ a e. kept_refl) kept_refl
      (perform_kept (ready_act prims map m x) m.lent)

  pub after_kept : (l : List Command) (m : Machine) → Kept m.lent.cells (after prims map l m).lent.cells
  unfolding after
  after_kept [] m = kept_refl
  after_kept (x ∷ l) m = kept_trans (step_kept x m) (after_kept l (machine_after prims map x m))

  pub bits-stay : (m : Machine) (l₁ l₂ : List Command) → Kept (after prims map l₁ m).lent.cells (after prims map (l₁ ++ l₂) m).lent.cells
  bits-stay m l₁ l₂ = rw after-append (after_kept l₂ (after prims map l₁ m))

  -- ---- lengths and constants stay right

  pub lengths-of : (l : Lent) → right_lengths map l ≡ true
      → (length l.cells ≡ limit map / 2) × (length l.copy ≡ limit map / 2) × (length l.constants ≡ constant_count)
  unfolding right_sizes
  lengths-of l e =
      let s = and-three (eqb (length l.cells) (limit map / 2)) (eqb (length l.copy) (limit map / 2)) _ e in
      (eqb-true _ _ s.0, eqb-true _ _ s.1, eqb-true _ _ s.2)

  pub cells-length : (m : Machine) → ValidInputs map m → length m.lent.cells ≡ limit map / 2
  cells-length m r = (lengths-of m.lent r.lengths).0

  -- what is lent with other cells, or another copy, of the same length
  cells-again : (l : Lent) (c : List ℕ) → right_lengths map l ≡ true → length c ≡ length l.cells → right_lengths map (with_cells c l) ≡ true
  unfolding right_sizes
  cells-again l c r e = rw e r

  copy-again : (l : Lent) (k : List ℕ) → right_lengths map l ≡ true → length k ≡ limit map / 2 → right_lengths map (with_copy k l) ≡ true
  unfolding right_sizes
  copy-again l k r e = rw (e ∙ sym (lengths-of l r).1) r

  powered-length : (w : PowerUpEnd) (l : Lent) → length (powered_copy prims map w l) ≡ limit map / 2
  unfolding powered_copy
  powered-length (fails reason failure) l = length-listed _ 0 _
  powered-length (succeeds state count) l = length-listed _ 0 _

  up-lengths : (m : Machine) → right_lengths map m.lent ≡ true → right_lengths map (powered_up m).lent ≡ true
  unfolding power_up
  up-lengths m e =
      copy-again m.lent (powered_copy prims map (power_up_end prims map m.lent) m.lent) e (powered-length (power_up_end prims map m.lent) m.lent)

  act-lengths : (x : Command) (m : Machine) → right_lengths map m.lent ≡ true → right_lengths map (after_act x m).lent ≡ true
  unfolding act performed
  act-lengths x m e = cells-again m.lent (outcome x m).cells e (perform-length (ready_act prims map m x) m.lent)

  pub obey-lengths : (x : Command) (m : Machine) → right_lengths map m.lent ≡ true → right_lengths map (obey prims map x m).result.machine.lent ≡ true
  obey-lengths x m e = obey-both (λ s _. right_lengths map s.result.machine.lent ≡ true) x m m (up-lengths m e) (act-lengths x m e)

  pub up-inputs : (m : Machine) → ValidInputs map m → ValidInputs map (powered_up m)
  unfolding power_up
  up-inputs m r = record { lengths = up-lengths m r.lengths; valid = r.valid; words = r.words; fuses = r.fuses }

  pub act-inputs : (x : Command) (m : Machine) → ValidInputs map m → ValidInputs map (after_act x m)
  unfolding act performed
  act-inputs x m r = record {
    lengths = act-lengths x m r.lengths;
    valid = r.valid;
    words = r.words;
    fuses = (perform-small (act-small prims map m x (record { small = r.words })) m.lent (record { small = r.fuses })).small;
  }

  pub step-inputs : (x : Command) (m : Machine) → ValidInputs map m → ValidInputs map (machine_after prims map x m)
  unfolding unchanged
  step-inputs x m r = step-all (λ (s : Step). ValidInputs map s.result.machine) x m (λ a e. r) (up-inputs m r) (act-inputs x m r)

  pub after-inputs : (l : List Command) (m : Machine) → ValidInputs map m → ValidInputs map (after prims map l m)
  unfolding after
  after-inputs [] m r = r
  after-inputs (x ∷ l) m r = after-inputs l (machine_after prims map x m) (step-inputs x m r)

  -- nobody writes the constants
  pub obey-constants : (x : Command) (m : Machine) → (obey prims map x m).result.machine.lent.constants ≡ m.lent.constants
  unfolding act performed power_up
  obey-constants x m = obey-both (λ s _. s.result.machine.lent.constants ≡ m.lent.constants) x m m refl refl

  pub step-constants : (x : Command) (m : Machine) → (machine_after prims map x m).lent.constants ≡ m.lent.constants
  unfolding act performed power_up unchanged
  step-constants x m = step-all (λ (s : Step). s.result.machine.lent.constants ≡ m.lent.constants) x m (λ a e. refl) refl refl

  pub after-constants : (l : List Command) (m : Machine) → (after prims map l m).lent.constants ≡ m.lent.constants
  unfolding after
  after-constants [] m = refl
  after-constants (x ∷ l) m = after-constants l (machine_after prims map x m) ∙ step-constants x m
