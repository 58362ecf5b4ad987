-- Which word a 4 names. The idea: a 4 comes of programming a target alone, and programming names the lowest word that refuses; a locked partition is refused
-- before its words are asked.
use Rattle.std.specs.Prelude.{Err}
use mathlib.Core.Path.{◌≡◌, refl, sym, ap, ◌∙◌}
use mathlib.Core.Bool.{true, not}
use mathlib.Core.List.{List, [], ◌++◌}
use Prim.Native.Nat.{ℕ, suc, ◌+◌, ◌/◌}
use native.Mathlib.Omega.{arith}
use lib.Dec.{eqb, ltb, leb}
use lib.ListN.{length}
use borrow.Author.Tests.{eqb-true, eqb-false}
use Rattle.basics.proofs.Choice.{by_cases, true-not-false, if-true, if-false, or_right}
use Rattle.words.specs.declared.Rule.{Rule}
use Rattle.words.specs.declared.Rule.TheVariants.{BlankOnly}
use Rattle.words.specs.Words.{words_of}
use Rattle.words.specs.Programming.{program_answer}
use Rattle.words.proofs.Programming.{refused-not-done, refused-lowest}
use Rattle.partitions.specs.Map.{Map, number_at, partition_at, first_word, limit}
use Rattle.life_cycle.specs.Words.{counter_words, state_words}
use Rattle.life_cycle.specs.Transitions.{table_entry}
use Rattle.life_cycle.proofs.Encoding.{counter-length}
use Rattle.model.specs.declared.Failure.TheVariants.{Denied}
use Rattle.model.specs.declared.Command.{Command}
use Rattle.model.specs.declared.Command.TheVariants.{Write, Digest, Transition, PowerUp}
use Rattle.model.specs.Answers.{Answer, code_of, value_of}
use Rattle.model.specs.Session.{is_ready, sensed_locked}
use Rattle.model.specs.Lent.{Machine, Primitives}
use Rattle.model.specs.Acts.{Act, refuse, perform}
use Rattle.model.specs.Commands.{life_cycle_rule, counter_at, state_at, write_act, digest_act, move_act, command_act, ready_act, direct_rule}
use Rattle.model.specs.Commands.{digest_rule, class_of}
use Rattle.model.specs.Commands.{access}
use Rattle.model.specs.PowerUp.{power_up_end}
use Rattle.model.specs.Step.{Step, unchanged, performed, act, power_up, obey, after, answer_to}
use Rattle.model.specs.Claims.Terms.{ValidInputs, Says, writes_at, digests_at, quiet, writes_nothing, writing_of, stored_words}
use Rattle.model.specs.Claims.Refusals.{judgement_code}
use Rattle.model.specs.Claims.Burns.{Targets, writing, digesting, moving, Named}
use Rattle.model.proofs.Programs.{Programs, refuses, ends, burns, compares, last-piece, AnswerMeans, tells-nothing, perform-programs}
use Rattle.model.proofs.Steps.{step_both, step-obeys, after-inputs, obeys-act}
use Rattle.model.proofs.Transitions.{EndCases, entry-all}
use Rattle.model.proofs.PowerUpEnd.{powered-answer}
use Rattle.model.proofs.Forms.{Form, act-form, computed, refuses-above}
use Rattle.model.proofs.Classes.{by-writing, by-class, access-quiet, no-power-up, quiet-not-power-up}
use Rattle.model.proofs.Guards.{write-locked, digest-locked}

-- the codes 0x10 and 0x12 are above 4
judged-above : (code : ℕ) → judgement_code code ≡ true → ltb 4 code ≡ true
judged-above code e = by_cases (eqb code 0x10) (λ t. rw (eqb-true code 0x10 t)) (λ t. rw (eqb-true code 0x12 (rw t at e)))

module _ (prims : Primitives) (map : Map) (m : Machine) where
  abbrev cells : List ℕ
  cells = m.lent.cells

  abbrev k : List ℕ
  k = m.lent.constants

  abbrev counter : List ℕ
  counter = counter_words k (suc m.session.count)

  -- ---- a transition programs the counter words of one stroke more, then the state words, which adjoin them

  adjoins : state_at map ≡ counter_at map + length counter
  unfolding state_at
  adjoins = omega (arith, counter-length k (suc m.session.count))

  state-programs : (target : ℕ) → EndCases prims map m target (Programs life_cycle_rule (state_at map) (state_words k target))
  unfolding move_act
  state-programs target = record {
    moved = last-piece;
    forbidden = refuses refl;
    token_unlocked = refuses refl;
    differs = refuses refl;
    compared = λ test same other. compares;
  }

  transition-programs : (target given : ℕ)
      → Programs life_cycle_rule (counter_at map) (counter ++ state_words k target) (ready_act prims map m (Transition target given))
  transition-programs target given = by_form (act-form prims map m (Transition target given))
    where
      by_form : {act : Act} → Form prims map m (Transition target given) act
          → Programs life_cycle_rule (counter_at map) (counter_words m.lent.constants (suc m.session.count) ++ state_words m.lent.constants target) act
      by_form (Form.refuses r) = refuses (refuses-above r)
      by_form (Form.used t n) = refuses refl
      by_form (Form.spends t n) = burns refl adjoins (entry-all prims map m target _ (state-programs target) (table_entry m.session.state target) _)

  -- ---- a command with a target

  write-programs : (a value : ℕ) → Programs (direct_rule (partition_at map a) a) (first_word (partition_at map a) a) (stored_words prims map k a value)
      (ready_act prims map m (Write a value))
  write-programs a value = by_form (act-form prims map m (Write a value))
    where
      by_form : {act : Act} → Form prims map m (Write a value) act
          → Programs (direct_rule (partition_at map a) a) (first_word (partition_at map a) a) (stored_words prims map m.lent.constants a value) act
      by_form (Form.refuses r) = refuses (refuses-above r)
      by_form (Form.writes w) = last-piece

  digest-programs : (a : ℕ) → Programs digest_rule ((partition_at map a).digest / 2) (words_of 4 (computed prims map m a)) (ready_act prims map m (Digest a))
  digest-programs a = by_form (act-form prims map m (Digest a))
    where
      by_form : {act : Act} → Form prims map m (Digest a) act → Programs digest_rule ((partition_at map a).digest / 2) (words_of 4 (computed prims map m a)) act
      by_form (Form.refuses r) = refuses (refuses-above r)
      by_form (Form.digests w) = last-piece

  target-programs : {x : Command} {rule : Rule} {at : ℕ} {words : List ℕ} → Targets prims map m x rule at words
      → Programs rule at words (ready_act prims map m x)
  target-programs (writing {a} {value} e) = rw (← e) (write-programs a value)
  target-programs (digesting {a}) = digest-programs a
  target-programs (moving {target} {given}) = transition-programs target given

  act-tells : {rule : Rule} {at : ℕ} {words : List ℕ} (x : Command) → obey prims map x m ≡ act prims map x m → Programs rule at words (ready_act prims map m x)
      → AnswerMeans rule cells at words (answer_to prims map x m)
  unfolding unchanged act performed
  act-tells {rule} {at} {words} x e p =
      step_both prims map (λ (s : Step). AnswerMeans rule cells at words s.result.answer) x m
      (λ failure j. tells-nothing rule cells at words (Err failure) (judged-above (code_of (Err failure)) j)) (rw e (perform-programs p m.lent))

  target-acts : {x : Command} {rule : Rule} {at : ℕ} {words : List ℕ} → Targets prims map m x rule at words → obey prims map x m ≡ act prims map x m
  unfolding obey
  target-acts (writing e) = refl
  target-acts digesting = refl
  target-acts moving = refl

  pub target-tells : {x : Command} {rule : Rule} {at : ℕ} {words : List ℕ} → Targets prims map m x rule at words
      → AnswerMeans rule cells at words (answer_to prims map x m)
  target-tells {x} target = act-tells x (target-acts target) (target-programs target)

  target-named : {x : Command} {rule : Rule} {at : ℕ} {words : List ℕ} → Targets prims map m x rule at words → code_of (answer_to prims map x m) ≡ 0x04
      → Named prims map m x (value_of (answer_to prims map x m))
  target-named {rule = rule} {at = at} {words = words} target e =
      record { rule = rule; at = at; words = words; target = target; lowest = refused-lowest rule words cells at _ ((target-tells target).1 e) }

  -- ---- every other command programs nothing, and never answers 4

  writes-something : (a value : ℕ) → writes_at a value ≡ writes_nothing → ⊥
  writes-something a value e = cc

  digests-something : (a : ℕ) → digests_at a ≡ writes_nothing → ⊥
  digests-something a e = cc

  idle-form : {x : Command} {act : Act} → quiet x → writing_of x ≡ writes_nothing → Form prims map m x act → Programs BlankOnly 0 [] act
  idle-form q e (Form.refuses r) = refuses (refuses-above r)
  idle-form q e Form.reads = ends
  idle-form q e Form.front_reads = ends
  idle-form q e Form.locks = ends
  idle-form q e (Form.writes {a} {value} w) = absurd (writes-something a value e)
  idle-form q e (Form.digests {a} w) = absurd (digests-something a e)
  idle-form q e (Form.used t n) = absurd q
  idle-form q e (Form.spends t n) = absurd q

  idle : (x : Command) → class_of x ≡ access → writing_of x ≡ writes_nothing → code_of (answer_to prims map x m) ≡ 0x04 → ⊥
  unfolding program_answer
  idle x c e f =
      let q = access-quiet x c in
      refused-not-done (sym ((act-tells x (obeys-act prims map x m (no-power-up x (quiet-not-power-up x q))) (idle-form q e (act-form prims map m x))).1 f))

  up-idle : code_of (answer_to prims map PowerUp m) ≡ 0x04 → ⊥
  unfolding unchanged obey power_up power_up_end
  up-idle =
      step_both prims map (λ (s : Step). code_of s.result.answer ≡ 0x04 → ⊥) PowerUp m (λ answer j f. true-not-false j (rw f))
      (powered-answer (λ (answer : Answer). code_of answer ≡ 0x04 → ⊥) _ _ (λ value. eqb-false _ _ refl) (λ number. eqb-false _ _ refl)
      (λ value. eqb-false _ _ refl))

  abbrev Names : Command → Type 0
  Names x = code_of (answer_to prims map x m) ≡ 0x04 → Named prims map m x (value_of (answer_to prims map x m))

  named : (x : Command) → Names x
  named =
      by-writing Names (λ a value. target-named (writing refl)) (λ a. target-named digesting)
      (by-class (λ (x : Command). writing_of x ≡ writes_nothing → Names x) (λ e f. absurd (up-idle f)) (λ target given e. target-named moving)
      (λ x c e f. absurd (idle x c e f)))

  -- ---- a locked partition

  says-denied : (x : Command) → ValidInputs map m → obey prims map x m ≡ act prims map x m → ready_act prims map m x ≡ refuse Denied
      → Says 0x05 0 (answer_to prims map x m)
  unfolding act performed perform
  says-denied x r e d = rw (step-obeys prims map x m r, answer_to, e, d) (refl, refl)

  says-locked : ValidInputs map m → (a value : ℕ) → is_ready m.session.phase ≡ true → sensed_locked m.session (number_at map a) ≡ true
      → Says 0x05 0 (answer_to prims map (Write a value) m) × Says 0x05 0 (answer_to prims map (Digest a) m)
  unfolding obey ready_act command_act write_act digest_act
  says-locked right a value r s =
      let p = partition_at map a in (
        says-denied (Write a value) right refl (if-false _ _ (ap not r) ∙ if-true _ _ (or_right (leb (limit map) a) _ (write-locked p a s))),
        says-denied (Digest a) right refl (if-false _ _ (ap not r) ∙ if-true _ _ (or_right (leb (limit map) a) _ (digest-locked p a s))),
      )

-- ---- in a list

pub refused-named : (prims : Primitives) (map : Map) (m : Machine) (l : List Command) (x : Command)
    → let m₁ = after prims map l m in
    code_of (answer_to prims map x m₁) ≡ 0x04 → Named prims map m₁ x (value_of (answer_to prims map x m₁))
refused-named prims map m l x = named prims map (after prims map l m) x

pub locked-denied : (prims : Primitives) (map : Map) (m : Machine) → ValidInputs map m → (l : List Command) (a value : ℕ)
    → let m₁ = after prims map l m in
    is_ready m₁.session.phase ≡ true → sensed_locked m₁.session (number_at map a) ≡ true
    → Says 0x05 0 (answer_to prims map (Write a value) m₁) × Says 0x05 0 (answer_to prims map (Digest a) m₁)
locked-denied prims map m r l = says-locked prims map (after prims map l m) (after-inputs prims map l m r)
