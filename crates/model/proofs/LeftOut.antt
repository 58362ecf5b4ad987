-- Commands that can be left out of a list. The idea: the acts of a read and of a front read end in an answer alone, and a refused command changes nothing; so
-- the machine before such a command is the machine after it.
use mathlib.Core.Path.{◌≡◌, refl, sym, ap, ◌∙◌}
use mathlib.Core.List.{List, [], ◌∷◌, ◌++◌}
use Prim.Native.Nat.{ℕ}
use Rattle.partitions.specs.Map.{Map}
use Rattle.model.specs.declared.Command.{Command}
use Rattle.model.specs.declared.Command.TheVariants.{Read, FrontRead}
use Rattle.model.specs.Answers.{Answer}
use Rattle.model.specs.Lent.{Machine, Primitives}
use Rattle.model.specs.Acts.{no_effect, Act, say, perform}
use Rattle.model.specs.Step.{Step, unchanged, performed, act, after, answers, machine_after, answer_to}
use Rattle.model.specs.Claims.Refusals.{Idle, reads, front_reads, refused, unlent}
use Rattle.model.specs.Claims.Terms.{quiet}
use Rattle.model.proofs.Steps.{step_both, after-append, same-machine, obeys-act, after_act}
use Rattle.model.proofs.Refusals.{commands-refuse, power-ups-refuse}
use Rattle.model.proofs.Forms.{Form, act-form}
use Rattle.model.proofs.Classes.{no-power-up, quiet-not-power-up}

module _ (prims : Primitives) (map : Map) (m : Machine) where
  -- what a read or a front read comes to
  abbrev Same : Act → Type 0
  Same act = (performed (perform act m.lent) m).result.machine ≡ m

  says_same : (answer : Answer) → Same (say answer no_effect)
  unfolding perform
  says_same answer = same-machine m (record { cells = m.lent.cells; answer = answer; effect = no_effect; compared = [] }) refl refl

  answers-only : (x : Command) → quiet x → after_act prims map x m ≡ m → machine_after prims map x m ≡ m
  unfolding unchanged
  answers-only x q h =
      step_both prims map (λ (s : Step). s.result.machine ≡ m) x m (λ answer e. refl)
      (rw (obeys-act prims map x m (no-power-up x (quiet-not-power-up x q))) h)

  pub read-acts : (a : ℕ) → after_act prims map (Read a) m ≡ m
  unfolding act
  read-acts a = by_form (act-form prims map m (Read a))
    where
      by_form : {act : Act} → Form prims map m (Read a) act → Same act
      by_form (Form.refuses r) = says_same _
      by_form Form.reads = says_same _

  front-acts : (a : ℕ) → after_act prims map (FrontRead a) m ≡ m
  unfolding act
  front-acts a = by_form (act-form prims map m (FrontRead a))
    where
      by_form : {act : Act} → Form prims map m (FrontRead a) act → Same act
      by_form (Form.refuses r) = says_same _
      by_form Form.front_reads = says_same _

  pub idle-same : (x : Command) → Idle prims map m x → machine_after prims map x m ≡ m
  idle-same x (reads {a}) = answers-only (Read a) tt (read-acts a)
  idle-same x (front_reads {a}) = answers-only (FrontRead a) tt (front-acts a)
  idle-same x (refused q h) = commands-refuse prims map m x q h
  idle-same x (unlent j) = (power-ups-refuse prims map m).1 j

module _ (prims : Primitives) (map : Map) where
  -- answers of a list in two pieces
  answers-append : (k l : List Command) (m : Machine) → answers prims map (k ++ l) m ≡ answers prims map k m ++ answers prims map l (after prims map k m)
  unfolding answers after
  answers-append [] l m = refl
  answers-append (x ∷ k) l m = ap (λ (k : List Answer). answer_to prims map x m ∷ k) (answers-append k l (machine_after prims map x m))

  pub left-out : (m : Machine) (l₁ l₂ : List Command) (x : Command)
      → let m₁ = after prims map l₁ m in
      Idle prims map m₁ x
      → (after prims map (l₁ ++ x ∷ l₂) m ≡ after prims map (l₁ ++ l₂) m)
      × (answers prims map (l₁ ++ x ∷ l₂) m ≡ answers prims map l₁ m ++ answer_to prims map x m₁ ∷ answers prims map l₂ m₁)
      × (answers prims map (l₁ ++ l₂) m ≡ answers prims map l₁ m ++ answers prims map l₂ m₁)
  unfolding after answers
  left-out m l₁ l₂ x i =
      let m₁ = after prims map l₁ m in
      let same = idle-same prims map m₁ x i in (
        after-append prims map l₁ (x ∷ l₂) m ∙ ap (after prims map l₂) same ∙ sym (after-append prims map l₁ l₂ m),
        answers-append l₁ (x ∷ l₂) m ∙ ap (λ (k : Machine). answers prims map l₁ m ++ answer_to prims map x m₁ ∷ answers prims map l₂ k) same,
        answers-append l₁ l₂ m,
      )
