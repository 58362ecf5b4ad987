-- Lists of commands with what is lent judged once, before the first: computed rows are cheaper so. The idea: lengths and constants that are right stay right,
-- so that every command is obeyed.
use mathlib.Core.Path.{◌≡◌, refl, ap, ◌∙◌}
use mathlib.Core.Bool.{true}
use mathlib.Core.List.{List, [], ◌∷◌}
use Rattle.partitions.specs.Map.{Map}
use Rattle.constants.specs.Constants.{valid_constants}
use Rattle.model.specs.declared.Command.{Command}
use Rattle.model.specs.Answers.{Answer}
use Rattle.model.specs.Lent.{Machine, Primitives, right_lengths}
use Rattle.model.specs.Step.{Step, obey, after, answers}
use Rattle.model.proofs.Steps.{judged-obeys, obey-lengths, obey-constants}

module _ (prims : Primitives) (map : Map) where
  unfoldable pub after_judged : List Command → Machine → Machine
  after_judged [] m = m
  after_judged (x ∷ l) m = after_judged l (obey prims map x m).result.machine

  unfoldable pub answers_judged : List Command → Machine → List Answer
  answers_judged [] m = []
  answers_judged (x ∷ l) m = (obey prims map x m).result.answer ∷ answers_judged l (obey prims map x m).result.machine

  pub run-judged : (l : List Command) (m : Machine) → right_lengths map m.lent ≡ true → valid_constants m.lent.constants ≡ true
      → (answers prims map l m ≡ answers_judged l m) × (after prims map l m ≡ after_judged l m)
  unfolding after answers after_judged answers_judged
  run-judged [] m e v = (refl, refl)
  run-judged (x ∷ l) m e v =
      let o = (obey prims map x m).result in
      let q = judged-obeys prims map x m e v in
      let r = run-judged l o.machine (obey-lengths prims map x m e) (rw (obey-constants prims map x m) v) in (
        ap (λ (s : Step). s.result.answer ∷ answers prims map l s.result.machine) q ∙ ap (λ (k : List Answer). o.answer ∷ k) r.0,
        ap (λ (s : Step). after prims map l s.result.machine) q ∙ r.1,
      )
