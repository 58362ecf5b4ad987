-- A stroke and an allowed transition burn no bit away. The idea: the words marked stay marked, a lower constant is covered by its upper one, and
-- a blank word by any; so every word covers the one before it and is programmed.
use mathlib.Core.Path.{◌≡◌, refl}
use mathlib.Core.Bool.{Bool, true, false}
use mathlib.Core.List.{List}
use Prim.Native.Nat.{ℕ, suc, ◌<◌}
use native.Mathlib.Omega.{arith}
use lib.Bits.{or_zero_l}
use lib.Dec.{eqb, ltb}
use lib.ListN.{length, get_or}
use borrow.Author.Tests.{eqb-false, ne_eqb, ltb-true, lt-ltb}
use Rattle.std.specs.Prelude.{Some, Ok}
use Rattle.basics.specs.Choice.{when◌then◌else◌}
use Rattle.basics.proofs.Choice.{true-not-false, if-false}
use Rattle.words.specs.Words.{part_at}
use Rattle.words.specs.declared.Rule.TheVariants.{KeepBits}
use Rattle.words.specs.Programming.{loses_bit, program_answer}
use Rattle.words.proofs.Rules.{loses-none, or-keeps}
use Rattle.words.proofs.Programming.{covered-done}
use Rattle.life_cycle.specs.declared.Token.{Token}
use Rattle.constants.specs.Constants.{const_a, const_b, const_c, const_d, valid_constants}
use Rattle.life_cycle.specs.Words.{counter_word, counter_words, has_b, state_word, state_words}
use Rattle.life_cycle.specs.Transitions.{table_entry}
use Rattle.constants.proofs.Constants.{Pair, counter-pair, state-pair}
use Rattle.life_cycle.proofs.Encoding.{coded, counter-length, counter-at, state-length, state-at}
use Rattle.life_cycle.proofs.Table.{allowed-ends, marks-grow}

kept : {low up : ℕ} → Pair low up → (blank before after : Bool) → (blank ≡ false → before ≡ true → after ≡ true)
    → loses_bit (when blank then 0 else when before then up else low) (when after then up else low) ≡ false
unfolding when◌then◌else◌
kept p true before after h = or-keeps 0 _ (or_zero_l _)
kept {up = up} p false true true h = loses-none up
kept p false true false h = absurd (true-not-false (h refl refl) refl)
kept p false false true h = p.covered
kept {low} p false false false h = loses-none low

coded-keeps : (marks : ℕ → ℕ → Bool) (low up : ℕ → ℕ) (m n i : ℕ) → Pair (low i) (up i) → (n ≡ 0 → ⊥)
    → (eqb m 0 ≡ false → marks m i ≡ true → marks n i ≡ true) → loses_bit (coded marks low up m i) (coded marks low up n i) ≡ false
coded-keeps marks low up m n i p z h = rw (if-false 0 (when marks n i then up i else low i) (ne_eqb n 0 z)) (kept p (eqb m 0) (marks m i) (marks n i) h)

-- words that cover those of a part are programmed there
covering : (size : ℕ) (c ws vs : List ℕ) (at : ℕ) → length vs ≡ size → part_at c at size ≡ ws
    → ((i : ℕ) → i < size → loses_bit (get_or ws i 0) (get_or vs i 0) ≡ false) → program_answer KeepBits c at vs ≡ Ok tt
covering size c ws vs at l e h = covered-done vs c at (λ i m. rw (l, e) (h i (rw l at m)))

module _ (constants : List ℕ) (valid : valid_constants constants ≡ true) where
  pub stroke-keeps : (n i : ℕ) → i < 24 → loses_bit (counter_word constants n i) (counter_word constants (suc n) i) ≡ false
  unfolding counter_word
  stroke-keeps n i h =
      coded-keeps (λ n i. ltb i n) (const_c constants) (const_d constants) n (suc n) i (counter-pair constants valid i h) (λ z. omega arith)
      (λ z t. lt-ltb i (suc n) (omega (arith, ltb-true i n t)))

  pub transition-keeps : (s t i : ℕ) {tok : Token} → table_entry s t ≡ Some tok → i < 20
      → loses_bit (state_word constants s i) (state_word constants t i) ≡ false
  unfolding state_word
  transition-keeps s t i e h =
      coded-keeps has_b (const_a constants) (const_b constants) s t i (state-pair constants valid i h) (λ z. omega (arith, (allowed-ends s t e).above))
      (λ z. marks-grow s t i e h (eqb-false s 0 z))

  -- ---- as programming

  pub stroke-done : (c : List ℕ) (at n : ℕ) → part_at c at 24 ≡ counter_words constants n
      → program_answer KeepBits c at (counter_words constants (suc n)) ≡ Ok tt
  stroke-done c at n e =
      covering 24 c _ _ at (counter-length constants (suc n)) e
      (λ i h. rw (counter-at constants n i h, counter-at constants (suc n) i h) (stroke-keeps n i h))

  pub transition-done : (c : List ℕ) (at s t : ℕ) {tok : Token} → part_at c at 20 ≡ state_words constants s → table_entry s t ≡ Some tok
      → program_answer KeepBits c at (state_words constants t) ≡ Ok tt
  transition-done c at s t e a =
      covering 20 c _ _ at (state-length constants t) e (λ i h. rw (state-at constants s i h, state-at constants t i h) (transition-keeps s t i a h))
