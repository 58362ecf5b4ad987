-- Which cells a transition leaves, by its code. The idea: each end has its cells; counter words and state words adjoin, so that a move programs one run of
-- words.
use Rattle.std.specs.Prelude.{Ok}
use mathlib.Core.Path.{◌≡◌, refl, sym, ap, ◌∙◌}
use mathlib.Core.Bool.{true}
use mathlib.Core.List.{List, [], ◌∷◌, ◌++◌}
use mathlib.Core.Logic.{⊎_elim}
use Prim.Native.Nat.{ℕ, suc, ◌+◌, ◌≤◌, ◌<◌}
use native.Mathlib.Omega.{arith}
use lib.ListN.{length, length-append}
use lib.Seq.{sets}
use Rattle.basics.proofs.Choice.{true-not-false}
use Rattle.words.specs.declared.Rule.{Rule}
use Rattle.words.specs.Programming.{program_answer, program_cells}
use Rattle.words.proofs.Programming.{program-elsewhere, program-takes, stored-done, answer-same, append-next}
use Rattle.partitions.specs.Map.{Map, number_of_kind}
use Rattle.partitions.specs.Fitness.{fit}
use Rattle.partitions.proofs.Map.{life-cycle-last, life-cycle-partition, partition-fit}
use Rattle.life_cycle.proofs.Encoding.{counter-length, state-length}
use Rattle.model.specs.declared.Command.TheVariants.{Transition}
use Rattle.model.specs.Answers.{Answer, code_of, value_of}
use Rattle.model.specs.Lent.{Machine, Primitives, right_lengths}
use Rattle.model.specs.Commands.{life_cycle_rule, counter_at, state_at}
use Rattle.model.specs.Step.{machine_after, answer_to}
use Rattle.model.specs.Claims.Refusals.{early}
use Rattle.model.specs.Claims.Transitions.{stroke_only, stroke_words, move_words, Stopped, counter, state}
use Rattle.model.specs.Claims.Terms.{Put}
use Rattle.model.proofs.Steps.{lengths-of}
use Rattle.model.proofs.TransitionEnds.{Ending, unknown_target, used, counter_stops, not_in_table, token_not_locked, token_differs, state_stops, moved, stroke}
use Rattle.model.proofs.TransitionEnds.{stroke-cells, move, Taken, early-no-stroke, step-ends}
use Rattle.partitions.specs.declared.Kind.TheVariants as kind

-- ---- words programmed in two pieces that adjoin

sets-append : (xs ys c : List ℕ) (at : ℕ) → sets (sets c at xs) (at + length xs) ys ≡ sets c at (xs ++ ys)
sets-append [] ys c at = let e : at + 0 ≡ at = omega arith in rw e
sets-append (x ∷ xs) ys c at = let e : at + suc (length xs) ≡ suc at + length xs = omega arith in rw e (sets-append xs ys _ (suc at))

pub put-words : (rule : Rule) (at : ℕ) (words c : List ℕ) → at + length words ≤ length c → program_answer rule c at words ≡ Ok tt
    → Put rule at words c (program_cells rule c at words)
put-words rule at words c inside e = record {
  taken = e;
  holds = program-takes rule c words at inside e;
  others = program-elsewhere rule c words at;
}

-- the second piece is asked of cells that the first did not change
both-taken : (rule : Rule) (xs ys c : List ℕ) (at : ℕ) → program_answer rule c at xs ≡ Ok tt
    → program_answer rule (program_cells rule c at xs) (at + length xs) ys ≡ Ok tt
    → (program_answer rule c at (xs ++ ys) ≡ Ok tt)
    × (program_cells rule (program_cells rule c at xs) (at + length xs) ys ≡ program_cells rule c at (xs ++ ys))
both-taken rule xs ys c at e f =
    let g : program_answer rule c at (xs ++ ys) ≡ Ok tt =
    append-next rule xs ys c at e ∙ sym (answer-same rule ys _ c (at + length xs) (λ j l u. program-elsewhere rule c xs at j (λ lo hi. omega arith))) ∙ f in (
      g,
      stored-done rule _ ys (at + length xs) f ∙ ap (λ (d : List ℕ). sets d (at + length xs) ys) (stored-done rule c xs at e)
          ∙ sets-append xs ys c at ∙ sym (stored-done rule c (xs ++ ys) at g),
    )

-- ---- what the code says of the cells

module _ (prims : Primitives) (map : Map) (m : Machine) (target given : ℕ) where
  pub record CellsByCode (answer : Answer) (cells : List ℕ) : Type 0 where
    pub used : code_of answer ≡ 0x20 → cells ≡ m.lent.cells
    pub spent : stroke_only (code_of answer) ≡ true → Put life_cycle_rule (counter_at map) (stroke_words prims map m) m.lent.cells cells
    pub moved : code_of answer ≡ 0x00 → Put life_cycle_rule (counter_at map) (move_words prims map m target) m.lent.cells cells
    pub stopped : code_of answer ≡ 0x04 → Stopped prims map m target (value_of answer) cells

  early-told : (answer : Answer) (cells : List ℕ) → early (code_of answer) ≡ true → CellsByCode answer cells
  unfolding early stroke_only
  early-told answer cells e = record {
    used = λ q. absurd (true-not-false e (rw q));
    spent = λ q. absurd (early-no-stroke (code_of answer) e q);
    moved = λ q. absurd (true-not-false e (rw q));
    stopped = λ q. absurd (true-not-false e (rw q));
  }

module _ (prims : Primitives) (map : Map) (F : fit map ≡ true) (m : Machine) (lengths : right_lengths map m.lent ≡ true) where
  life-space : counter_at map + 44 ≤ length m.lent.cells
  unfolding counter_at
  life-space =
      let n = number_of_kind map kind.LifeCycle in
      let known : n < length map = omega (arith, life-cycle-last map F) in
      let p = life-cycle-partition map F in
      let f = partition-fit map F known in
      omega (arith, (lengths-of prims map m.lent lengths).0, p.words, p.last)

  module _ (target given : ℕ) where
    put-stroke : Taken prims map m target given
        → Put life_cycle_rule (counter_at map) (stroke prims map m target given) m.lent.cells (stroke-cells prims map m target given)
    put-stroke t = put-words life_cycle_rule (counter_at map) (stroke prims map m target given) m.lent.cells
        (omega (arith, life-space, counter-length m.lent.constants (suc m.session.count))) t.1

    put-move : Taken prims map m target given
        → program_answer life_cycle_rule (stroke-cells prims map m target given) (state_at map) (move prims map m target given) ≡ Ok tt
        → Put life_cycle_rule (counter_at map) (move_words prims map m target) m.lent.cells
        (program_cells life_cycle_rule (stroke-cells prims map m target given) (state_at map) (move prims map m target given))
    unfolding state_at
    put-move t e =
        let a = stroke prims map m target given in
        let b = move prims map m target given in
        let short : length a ≡ 24 = counter-length m.lent.constants (suc m.session.count) in
        let at : counter_at map + 24 ≡ counter_at map + length a = omega arith in
        let g = both-taken life_cycle_rule a b m.lent.cells (counter_at map) t.1 (rw at at e) in
        let space : counter_at map + length (a ++ b) ≤ length m.lent.cells = rw length-append
        (omega (arith, life-space, short, state-length m.lent.constants target)) in
        rw (at, g.1) (put-words life_cycle_rule (counter_at map) (a ++ b) m.lent.cells space g.0)

    told : {answer : Answer} {cells : List ℕ} → Ending prims map m target given answer cells → CellsByCode prims map m target given answer cells
    unfolding stroke_only
    told (unknown_target h e) = rw e (record {
      used = λ q. absurd (omega arith);
      spent = λ q. absurd (true-not-false q refl);
      moved = λ q. absurd (omega arith);
      stopped = λ q. absurd (omega arith);
    })
    told (used l h e f) = rw (e, f) (record {
      used = λ q. refl;
      spent = λ q. absurd (true-not-false q refl);
      moved = λ q. absurd (omega arith);
      stopped = λ q. absurd (omega arith);
    })
    told (counter_stops r h e f) = rw (e, f) (record {
      used = λ q. absurd (omega arith);
      spent = λ q. absurd (true-not-false q refl);
      moved = λ q. absurd (omega arith);
      stopped = λ q. counter h refl;
    })
    told (not_in_table t h e f) = rw (e, f) (record {
      used = λ q. absurd (omega arith);
      spent = λ q. put-stroke t;
      moved = λ q. absurd (omega arith);
      stopped = λ q. absurd (omega arith);
    })
    told (token_not_locked t h e f) = rw (e, f) (record {
      used = λ q. absurd (omega arith);
      spent = λ q. put-stroke t;
      moved = λ q. absurd (omega arith);
      stopped = λ q. absurd (omega arith);
    })
    told (token_differs t h e f) = rw (e, f) (record {
      used = λ q. absurd (omega arith);
      spent = λ q. put-stroke t;
      moved = λ q. absurd (omega arith);
      stopped = λ q. absurd (omega arith);
    })
    told (state_stops t a h e f) = rw (e, f) (record {
      used = λ q. absurd (omega arith);
      spent = λ q. absurd (true-not-false q refl);
      moved = λ q. absurd (omega arith);
      stopped = λ q. state (put-stroke t) h;
    })
    told (moved t h g e f) = rw (e, f) (record {
      used = λ q. absurd (omega arith);
      spent = λ q. absurd (true-not-false q refl);
      moved = λ q. put-move t g;
      stopped = λ q. absurd (omega arith);
    })

module _ (prims : Primitives) (map : Map) (m : Machine) (target given : ℕ) where
  pub step-told : fit map ≡ true → CellsByCode prims map m target given (answer_to prims map (Transition target given) m)
      (machine_after prims map (Transition target given) m).lent.cells
  step-told F =
      ⊎_elim (λ a. early-told prims map m target given _ _ a.0) (λ a. told prims map F m a.0 target given a.2)
      (step-ends prims map m target given)
