-- Cells stay words of 16 bits. The idea: whatever a command programs is made of words of 16 bits.
use mathlib.Core.Bool.{Bool}
use mathlib.Core.List.{List, [], ◌∷◌}
use Prim.Native.Nat.{ℕ, zero, suc, ◌+◌, ◌/◌, ◌<◌}
use native.Mathlib.Omega.{arith}
use lib.Dec.{eqb, ltb}
use lib.ListN.{length, get_or, set}
use lib.Seq.{sets, set_out, get_or-set_same, get_or-set_other}
use borrow.Author.Tests.{eqb-true, eqb-false, ltb-true, ltb-false}
use Rattle.basics.specs.Choice.{when◌then◌else◌}
use Rattle.basics.proofs.Choice.{by_cases, if-both}
use Rattle.words.specs.declared.Rule.{Rule}
use Rattle.words.specs.Words.{words_of}
use Rattle.words.specs.Programming.{program_answer, program_cells}
use Rattle.words.proofs.Words.{Words}
use Rattle.words.proofs.Parts.{listed-words}
use Rattle.words.proofs.Programming.{by_answer, stored-done, stored_refused}
use Rattle.partitions.specs.Map.{Map}
use Rattle.life_cycle.specs.Words.{counter_word, counter_words, state_word, state_words}
use Rattle.model.specs.declared.Command.{Command}
use Rattle.model.specs.Lent.{Machine, Primitives, Lent, with_cells}
use Rattle.model.specs.Acts.{Act, Performed, with_comparison, perform}
use Rattle.model.specs.Commands.{ready_act}
use Rattle.model.proofs.Acts.{after_both, Within}
use Rattle.model.proofs.Leaves.{act-within}

set-small : (c : List ℕ) (at v : ℕ) → v < 65536 → Words c → Words (set c at v)
set-small c at v h w = record { small = word }
  where
    word : (i : ℕ) → get_or (set c at v) i 0 < 65536
    word i =
        by_cases (eqb i at)
        (λ t. rw (eqb-true i at t) (by_cases (ltb at (length c)) (λ u. rw (get_or-set_same c at v 0 (ltb-true _ _ u)) h)
        (λ u. rw (set_out c at v (ltb-false _ _ u)) (w.small at))))
        (λ t. rw (get_or-set_other c at i v 0 (eqb-false i at t)) (w.small i))

sets-small : (vs c : List ℕ) (at : ℕ) → Words vs → Words c → Words (sets c at vs)
sets-small [] c at v w = w
sets-small (x ∷ vs) c at v w = sets-small vs (set c at x) (suc at) (record { small = λ i. v.small (suc i) }) (set-small c at x (v.small 0) w)

program-small : (rule : Rule) (c vs : List ℕ) (at : ℕ) → Words vs → Words c → Words (program_cells rule c at vs)
program-small rule c vs at v w =
    by_answer (program_answer rule c at vs) (λ e. rw (stored-done rule c vs at e) (sets-small vs c at v w)) (λ i e. rw (stored_refused rule c vs at i e) w)

-- ---- what is programmed

word_small : (n x i : ℕ) → get_or (words_of n x) i 0 < 65536
unfolding words_of
word_small zero x i = omega arith
word_small (suc n) x zero = omega arith
word_small (suc n) x (suc i) = word_small n (x / 65536) i

words_small : (n x : ℕ) → Words (words_of n x)
words_small n x = record { small = word_small n x }

module _ (k : List ℕ) (K : Words k) where
  small-choice : (b c : Bool) (i j : ℕ) → (when b then 0 else when c then get_or k i 0 else get_or k j 0) < 65536
  small-choice b c i j =
      if-both (λ (v : ℕ). v < 65536) _ _ _ (λ t. omega arith) λ t. if-both (λ (v : ℕ). v < 65536) _ _ _ (λ t. K.small i) (λ t. K.small j)

  counter-small : (n : ℕ) → Words (counter_words k n)
  unfolding counter_words counter_word
  counter-small n = listed-words (λ i. small-choice _ _ (60 + i) (36 + i)) 0 24

  state-small : (s : ℕ) → Words (state_words k s)
  unfolding state_words state_word
  state-small s = listed-words (λ i. small-choice _ _ (104 + i) (84 + i)) 0 20

-- what the act programs is made of such words
abbrev pub Small : Act → Type 0
Small = Within (λ at words. Words words)

pub perform-small : {x : Act} → Small x → (l : Lent) → Words l.cells → Words (perform x l).cells
unfolding perform with_comparison
perform-small Within.says l w = w
perform-small (Within.programs {rule = rule} {at = at} {words = words} v next) l w =
    after_both (λ (r : Performed). Words r.cells) (program_answer rule l.cells at words) _ _
    (λ e. perform-small next (with_cells (program_cells rule l.cells at words) l) (program-small rule l.cells words at v w)) (λ cell e. w)
perform-small (Within.compares {test = test} same other) l w =
    if-both (λ (r : Performed). Words r.cells) _ _ _ (λ e. perform-small same l w) (λ e. perform-small other l w)

pub act-small : (prims : Primitives) (map : Map) (m : Machine) (x : Command) → Words m.lent.constants → Small (ready_act prims map m x)
act-small prims map m x K = act-within prims map m (record {
  write = λ a value e w. words_small _ _;
  digest = λ a e w. words_small _ _;
  counter = λ target given e t. counter-small m.lent.constants K _;
  state = λ target given e t. state-small m.lent.constants K target;
})
