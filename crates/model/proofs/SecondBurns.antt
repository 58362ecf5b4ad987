-- Nothing is burnt twice. The idea: what direct access programs is a whole granule that was blank; so a word that is not zero was not in it, and two
-- granules that share a word are one.
use Rattle.std.specs.Prelude.{Ok}
use mathlib.Core.Path.{◌≡◌, refl, sym, ap, ◌∙◌}
use mathlib.Core.Bool.{true}
use mathlib.Core.List.{List, [], ◌∷◌, ◌++◌}
use Prim.Native.Nat.{ℕ, ◌+◌, ◌≤◌, ◌<◌}
use native.Mathlib.Omega.{arith}
use lib.ListN.{length, get_or}
use Rattle.words.specs.declared.Rule.{Rule}
use Rattle.words.specs.declared.Rule.TheVariants.{BlankOnly}
use Rattle.words.specs.Words.{number_of, part_at}
use Rattle.words.specs.Programming.{program_answer}
use Rattle.words.proofs.Parts.{blank_part, part_same}
use Rattle.words.proofs.Programming.{program-elsewhere, done-blank}
use Rattle.partitions.specs.Map.{Map, rights_of, partition_at, limit, first_word, word_count}
use Rattle.partitions.specs.Fitness.{fit}
use Rattle.partitions.proofs.Map.{partition-at}
use Rattle.partitions.proofs.Granules.{OneGranule, shared-word}
use Rattle.model.specs.declared.Command.{Command}
use Rattle.model.specs.Answers.{code_of}
use Rattle.model.specs.Lent.{Machine, Primitives}
use Rattle.model.specs.Commands.{direct_rule, granule}
use Rattle.model.specs.Step.{Step, unchanged, performed, act, power_up, after, machine_after, answer_to}
use Rattle.model.specs.Claims.Burns.{Targets, writing, digesting}
use Rattle.model.specs.Acts.{Performed}
use Rattle.model.proofs.Targets.{rule-side, write-burnt, Target, Burnt, digest-burnt, write-target, digest-target, left, burnt}
use Rattle.model.proofs.Frame.{programs-none-granule, programs-nowhere}
use Rattle.model.proofs.Steps.{after-append, outcome, step-all}
use Rattle.model.proofs.NamedWords.{target-tells}
use Rattle.model.proofs.Classes.{by-writing}

-- a granule has one rule
one-rule : (map : Map) {a b : ℕ} → OneGranule map a b → direct_rule (partition_at map a) a ≡ direct_rule (partition_at map b) b
one-rule map {a} {b} g =
    let e : partition_at map a ≡ partition_at map b = partition-at map a g.number ∙ sym (partition-at map b refl) in
    rw e (rule-side (partition_at map b) a b (rw e at g.side))

module _ (prims : Primitives) (map : Map) (F : fit map ≡ true) where
  -- ---- one write or digest command

  module _ (m : Machine) where
    abbrev cells : List ℕ
    cells = m.lent.cells

    -- a word stays that is not zero, where what is programmed is programmed by the new rule
    blank-stays : {W : Type 0} {rule : Rule} {at value : ℕ} {words : List ℕ} {r : Performed} → Burnt W cells rule at words value r → rule ≡ BlankOnly
        → (j : ℕ) → (get_or cells j 0 ≡ 0 → ⊥) → get_or r.cells j 0 ≡ get_or cells j 0
    blank-stays (left e) new j h = rw e
    blank-stays (burnt w k f _) new j h = rw f (program-elsewhere _ cells _ _ j (λ lo hi. h (done-blank _ cells _ j (rw new at k) lo hi)))

    word-stays : {x : Command} {at : ℕ} {words : List ℕ} → Targets prims map m x BlankOnly at words
        → (j : ℕ) → (get_or cells j 0 ≡ 0 → ⊥) → get_or (outcome prims map x m).cells j 0 ≡ get_or cells j 0
    word-stays (writing {a} {value} e) = blank-stays (write-burnt prims map m a value) e
    word-stays (digesting {a}) = blank-stays (digest-burnt prims map m a) refl

    -- and so does each word of a granule that is not blank: were one of them programmed, the granule would be the target
    module _ (a : ℕ) (below : a < limit map) (new : direct_rule (partition_at map a) a ≡ BlankOnly) (h : granule (partition_at map a) cells a ≡ 0 → ⊥)
        (j : ℕ) (lo : first_word (partition_at map a) a ≤ j) (hi : j < first_word (partition_at map a) a + word_count (partition_at map a) a) where
      blank : {rule : Rule} {at : ℕ} (words : List ℕ) → Target map rule at (length words) → program_answer rule cells at words ≡ Ok tt
          → at ≤ j → j < at + length words → granule (partition_at map a) cells a ≡ 0
      unfolding granule
      blank words t k lo' hi' =
          let one = shared-word map F below t.below lo hi (rw (← t.first) lo') (rw (← t.first, ← t.count) hi') in
          let same = t.by-rule ∙ sym (one-rule map one) ∙ new in
          blank_part cells _ _ (λ i l u. done-blank _ cells _ i (rw same at k) (omega (arith, one.first, t.first))
          (omega (arith, one.first, one.count, t.first, t.count)))

      granule-stays : {W : Type 0} {rule : Rule} {at value : ℕ} {words : List ℕ} {r : Performed} → (W → Target map rule at (length words))
          → Burnt W cells rule at words value r → get_or r.cells j 0 ≡ get_or cells j 0
      granule-stays target (left e) = rw e
      granule-stays target (burnt w k f _) = rw f (program-elsewhere _ cells _ _ j (λ lo' hi'. h (blank _ (target w) k lo' hi')))

  -- ---- in a list

  pub found-blank : (m : Machine) (l : List Command) (x : Command) (at : ℕ) (words : List ℕ)
      → let m₁ = after prims map l m in
      Targets prims map m₁ x BlankOnly at words
      → code_of (answer_to prims map x m₁) ≡ 0x00 → (j : ℕ) → at ≤ j → j < at + length words → get_or m₁.lent.cells j 0 ≡ 0
  found-blank m l x at words target e j = done-blank words _ at j ((target-tells prims map (after prims map l m) target).0 e)

  pub no-second-burn : (m : Machine) (l : List Command) (x : Command) (at : ℕ) (words : List ℕ)
      → let m₁ = after prims map l m in
      Targets prims map m₁ x BlankOnly at words
      → (j : ℕ) → (get_or m₁.lent.cells j 0 ≡ 0 → ⊥) → get_or (machine_after prims map x m₁).lent.cells j 0 ≡ get_or m₁.lent.cells j 0
  unfolding act performed power_up unchanged
  no-second-burn m l x at words target j h =
      let m₁ = after prims map l m in
      step-all prims map (λ (s : Step). get_or s.result.machine.lent.cells j 0 ≡ get_or m₁.lent.cells j 0) x m₁ (λ answer e. refl) refl
      (word-stays m₁ target j h)

  module _ (a : ℕ) (below : a < limit map) (direct : (rights_of (partition_at map a).kind).direct ≡ true)
      (new : direct_rule (partition_at map a) a ≡ BlankOnly) where
    abbrev first : ℕ
    first = first_word (partition_at map a) a

    abbrev count : ℕ
    count = word_count (partition_at map a) a

    abbrev Held : List ℕ → Type 0
    Held c = granule (partition_at map a) c a ≡ 0 → ⊥

    word_held : (m : Machine) → Held m.lent.cells → (x : Command) (j : ℕ) → first ≤ j → j < first + count
        → get_or (outcome prims map x m).cells j 0 ≡ get_or m.lent.cells j 0
    word_held m h =
        by-writing (λ (x : Command). (j : ℕ) → first ≤ j → j < first + count → get_or (outcome prims map x m).cells j 0 ≡ get_or m.lent.cells j 0)
        (λ b value j lo hi. granule-stays m a below new h j lo hi (write-target prims map F m b value) (write-burnt prims map m b value))
        (λ b j lo hi. granule-stays m a below new h j lo hi (digest-target prims map F m b) (digest-burnt prims map m b))
        (λ x n j lo hi. programs-none-granule prims map F m x below direct j lo hi (programs-nowhere map x n j))

    step-held : (x : Command) (m : Machine) → Held m.lent.cells
        → part_at (machine_after prims map x m).lent.cells first count ≡ part_at m.lent.cells first count
    unfolding act performed power_up unchanged
    step-held x m h =
        step-all prims map (λ (s : Step). part_at s.result.machine.lent.cells first count ≡ part_at m.lent.cells first count) x m
        (λ answer e. refl) refl
        (part_same _ m.lent.cells first count (word_held m h x))

    still : (c d : List ℕ) → part_at d first count ≡ part_at c first count → Held c → Held d
    unfolding granule
    still c d e h z = h (ap number_of (sym e) ∙ z)

    pub after-held : (l : List Command) (m : Machine) → Held m.lent.cells
        → part_at (after prims map l m).lent.cells first count ≡ part_at m.lent.cells first count
    unfolding after
    after-held [] m h = refl
    after-held (x ∷ l) m h =
        let e = step-held x m h in
        after-held l (machine_after prims map x m) (still m.lent.cells _ e h) ∙ e

  pub granule-final : (m : Machine) (a : ℕ) → a < limit map → (rights_of (partition_at map a).kind).direct ≡ true → direct_rule (partition_at map a) a
      ≡ BlankOnly
      → (l₁ l₂ : List Command)
      → let p = partition_at map a in
      (granule p (after prims map l₁ m).lent.cells a ≡ 0 → ⊥)
      → part_at (after prims map (l₁ ++ l₂) m).lent.cells (first_word p a) (word_count p a)
      ≡ part_at (after prims map l₁ m).lent.cells (first_word p a) (word_count p a)
  granule-final m a below direct new l₁ l₂ h = rw after-append (after-held a below direct new l₂ (after prims map l₁ m) h)
