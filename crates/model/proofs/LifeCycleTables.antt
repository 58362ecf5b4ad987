-- The tables of the life cycle in literal numbers. The idea: each is computed; a fact of all states and targets is a computed test.
use Rattle.std.specs.Prelude.{Option, Some, None}
use Rattle.std.proofs.lemmas.Option.{same_Some}
use mathlib.Core.Path.{◌≡◌, refl, sym, ap, subst, ◌∙◌}
use mathlib.Core.Bool.{Bool, true, false, not}
use mathlib.Core.List.{List}
use mathlib.Core.Logic.{◌⊎◌, inl, inr, ⊎_elim}
use Prim.Native.Nat.{ℕ, ◌+◌, ◌*◌, ◌≤◌, ◌<◌}
use native.Mathlib.Omega.{arith}
use lib.Dec.{eqb, ltb}
use lib.ListN.{get_or}
use borrow.Author.Tests.{ne_eqb}
use Rattle.basics.specs.Choice.{when◌then◌else◌}
use Rattle.basics.specs.Digits.{bit}
use Rattle.basics.specs.Range.{all_below, listed}
use Rattle.basics.proofs.Choice.{true-not-false, to-T, if-false}
use Rattle.basics.proofs.Range.{all-at}
use Rattle.partitions.specs.Map.{Map}
use Rattle.life_cycle.specs.declared.Token.{Token}
use Rattle.life_cycle.specs.Words.{counter_word, counter_words, has_b, state_word, state_words}
use Rattle.life_cycle.specs.Transitions.{is_test, is_unlocked, is_locked, test_index, table_entry}
use Rattle.life_cycle.proofs.Encoding.{counter-at, state-at}
use Rattle.life_cycle.proofs.Table.{allowed-ends}
use Rattle.model.specs.declared.Command.TheVariants.{Transition}
use Rattle.model.specs.Answers.{code_of}
use Rattle.model.specs.Lent.{Machine, Primitives}
use Rattle.model.specs.Step.{answer_to}
use Rattle.model.specs.Claims.Transitions.{Compared, Asked}
use Rattle.model.specs.Claims.LifeCycles.{rows, marks, LifeCycles}
use Rattle.model.proofs.TransitionCodes.{tokens-compared}
use Rattle.life_cycle.specs.declared.Token.TheVariants as token

table : listed (λ state. listed (table_entry state) 0 21) 0 21 ≡ rows
unfolding listed table_entry is_test is_unlocked is_locked test_index when◌then◌else◌
table = refl

-- ---- state words

same-marks : (state i : ℕ) → state < 21 → i < 20 → has_b state i ≡ eqb (bit (get_or marks state 0) i) 1
unfolding all_below has_b when◌then◌else◌
same-marks state i l h =
    equal (has_b state i) (eqb (bit (get_or marks state 0) i) 1)
    (all-at 20 (λ i. same (has_b state i) (eqb (bit (get_or marks state 0) i) 1))
    (to-T (all-at 21 (λ state. all_below 20 (λ i. same (has_b state i) (eqb (bit (get_or marks state 0) i) 1))) tt state l)) i h)
  where
    same : Bool → Bool → Bool
    same true b = b
    same false b = not b

    equal : (a b : Bool) → same a b ≡ true → a ≡ b
    equal true true e = refl
    equal true false e = absurd (true-not-false e refl)
    equal false true e = absurd (true-not-false e refl)
    equal false false e = refl

state-words : (constants : List ℕ) (state i : ℕ) → 0 < state → state ≤ 20 → i < 20
    → get_or (state_words constants state) i 0 ≡ (when eqb (bit (get_or marks state 0) i) 1 then get_or constants (104 + i) 0 else get_or constants (84 + i) 0)
unfolding state_word
state-words constants state i p l h =
    state-at constants state i h ∙ if-false _ _ (ne_eqb state 0 (λ z. omega arith))
    ∙ ap (λ (b : Bool). when b then get_or constants (104 + i) 0 else get_or constants (84 + i) 0) (same-marks state i (omega arith) h)

counter-words : (constants : List ℕ) (count i : ℕ) → 0 < count → i < 24
    → get_or (counter_words constants count) i 0 ≡ (when ltb i count then get_or constants (60 + i) 0 else get_or constants (36 + i) 0)
unfolding counter_word
counter-words constants count i p h = counter-at constants count i h ∙ if-false _ _ (ne_eqb count 0 (λ z. omega arith))

-- ---- tokens

-- out of TEST_LOCKED the table asks for TEST_UNLOCK or TEST_EXIT, or goes to SCRAP
asks_one : Option Token → ℕ → Bool
asks_one None target = true
asks_one (Some token.Nothing) target = eqb target 20
asks_one (Some token.RawUnlock) target = false
asks_one (Some token.TestUnlock) target = true
asks_one (Some token.TestExit) target = true
asks_one (Some token.Rma) target = false

locked-asks : (i target : ℕ) → i < 7 → target < 21 → asks_one (table_entry (2 * i + 2) target) target ≡ true
unfolding asks_one all_below table_entry is_test is_unlocked is_locked test_index when◌then◌else◌
locked-asks i target l h =
    all-at 21 (λ t. asks_one (table_entry (2 * i + 2) t) t) (to-T (all-at 7 (λ i. all_below 21 (λ t. asks_one (table_entry (2 * i + 2) t) t)) tt i l)) target h

module _ (prims : Primitives) (map : Map) (machine : Machine) where
  one_of : (given target : ℕ) (k : Token) → asks_one (Some k) target ≡ true → (target ≡ 20 → ⊥) → Compared prims map machine given true k
      → Compared prims map machine given true token.TestUnlock ⊎ Compared prims map machine given true token.TestExit
  unfolding asks_one
  one_of given target token.Nothing e n c = absurd (true-not-false e (ne_eqb target 20 n))
  one_of given target token.RawUnlock e n c = absurd (true-not-false e refl)
  one_of given target token.TestUnlock e n c = inl c
  one_of given target token.TestExit e n c = inr c
  one_of given target token.Rma e n c = absurd (true-not-false e refl)

  out-of-locked : (i target given : ℕ) → i < 7 → machine.session.state ≡ 2 * i + 2 → (target ≡ 20 → ⊥)
      → code_of (answer_to prims map (Transition target given) machine) ≡ 0x00
      → Compared prims map machine given true token.TestUnlock ⊎ Compared prims map machine given true token.TestExit
  out-of-locked i target given l e n z =
      let a = (tokens-compared prims map machine target given).0 z in
      let allowed : table_entry (2 * i + 2) target ≡ Some a.token = sym (ap (λ (s : ℕ). table_entry s target) e) ∙ a.allowed in
      let within = (allowed-ends (2 * i + 2) target allowed).within in
      one_of given target a.token
      (subst (λ (x : Option Token). asks_one x target ≡ true) allowed (locked-asks i target l (omega (arith, within)))) n a.compared

  to-rma : (given : ℕ) → ((machine.session.state ≡ 16) ⊎ (machine.session.state ≡ 17))
      → code_of (answer_to prims map (Transition 19 given) machine) ≡ 0x00 → Compared prims map machine given true token.Rma
  to-rma given from z = subst (Compared prims map machine given true) (same_Some _ _ (sym a.allowed ∙ ⊎_elim dev prod from)) a.compared
    where
      a : Asked prims map machine 19 given true
      a = (tokens-compared prims map machine 19 given).0 z

      dev : machine.session.state ≡ 16 → table_entry machine.session.state 19 ≡ Some token.Rma
      dev e = unfold table_entry is_test is_unlocked is_locked test_index when◌then◌else◌ in (rw e refl)

      prod : machine.session.state ≡ 17 → table_entry machine.session.state 19 ≡ Some token.Rma
      prod e = unfold table_entry is_test is_unlocked is_locked test_index when◌then◌else◌ in (rw e refl)

module _ (prims : Primitives) (map : Map) where
  pub life-cycles : LifeCycles prims map
  unfolding state_words state_word counter_words counter_word listed when◌then◌else◌
  life-cycles = record {
    table = table;
    raw = λ constants. refl;
    states = state-words;
    unused = λ constants. refl;
    counts = counter-words;
    to_rma = to-rma prims map;
    out_of_locked = out-of-locked prims map;
  }
