-- Encodings of different numbers differ. The idea: blank, lower or upper can be read off a word, and any two numbers differ so at some word, which
-- is one test over all pairs.
use mathlib.Core.Path.{◌≡◌, refl, sym, ap, ◌∙◌}
use mathlib.Core.Bool.{Bool, true, false, not, ◌||◌}
use mathlib.Core.List.{List}
use Prim.Native.Nat.{ℕ, ◌+◌, ◌≤◌, ◌<◌}
use native.Mathlib.Omega.{arith}
use lib.Dec.{T, eqb, ltb}
use lib.ListN.{get_or}
use borrow.Author.Tests.{eqb-true, eq-eqb, ne_eqb}
use Rattle.basics.specs.Choice.{when◌then◌else◌}
use Rattle.basics.specs.Range.{all_below, any_below}
use Rattle.basics.proofs.Choice.{to-T}
use Rattle.basics.proofs.Range.{all-at, none_below}
use Rattle.words.proofs.Words.{Words}
use Rattle.constants.specs.Constants.{const_a, const_b, const_c, const_d, valid_constants}
use Rattle.life_cycle.specs.Words.{counter_word, counter_words, has_b, state_word, state_words}
use Rattle.constants.proofs.Constants.{Pair, upper-nonzero, counter-pair, state-pair}
use Rattle.life_cycle.proofs.Encoding.{coded, counter-at, state-at}

-- 0 for a blank word, 1 for a lower and 2 for an upper constant
level : (ℕ → ℕ → Bool) → ℕ → ℕ → ℕ
level marks = coded marks (λ i. 1) (λ i. 2)

-- the level that a word shows
shown : ℕ → ℕ → ℕ
shown low w = when eqb w 0 then 0 else when eqb w low then 1 else 2

shows : {low up : ℕ} → Pair low up → low < 65536 → (blank mark : Bool)
    → shown low (when blank then 0 else when mark then up else low) ≡ (when blank then 0 else when mark then 2 else 1)
unfolding when◌then◌else◌ shown
shows p l true mark = refl
shows {low} {up} p l false true = rw (ne_eqb up 0 (upper-nonzero p l), ne_eqb up low (λ e. p.differs (sym e)))
shows {low} {up} p l false false = rw (ne_eqb low 0 p.nonzero, eq-eqb low low refl)

-- the levels of m and n differ at word i
apart : (ℕ → ℕ → Bool) → ℕ → ℕ → ℕ → Bool
apart marks m n i = not (eqb (level marks m i) (level marks n i))

-- m and n differ at a word, or are the same
told : (ℕ → ℕ → Bool) → ℕ → ℕ → ℕ → Bool
told marks size m n = any_below size (apart marks m n) || eqb m n

module _ (marks : ℕ → ℕ → Bool) (size count : ℕ) (test : T (all_below count (λ m. all_below count (told marks size m)))) where
  told-apart : (low up : ℕ → ℕ) → ((i : ℕ) → i < size → Pair (low i) (up i)) → ((i : ℕ) → low i < 65536) → (m n : ℕ) → m < count → n < count
      → ((i : ℕ) → i < size → coded marks low up m i ≡ coded marks low up n i) → m ≡ n
  unfolding told apart level
  told-apart low up pairs small m n a b same =
      let t = all-at count _ (to-T (all-at count (λ m. all_below count (told marks size m)) test m a)) n b in
      let none : any_below size (apart marks m n) ≡ false = none_below size _ alike in
      eqb-true m n (rw none at t)
    where
      alike : (i : ℕ) → i < size → apart marks m n i ≡ false
      alike i h =
          let at : (n : ℕ) → shown (low i) (coded marks low up n i) ≡ level marks n i = λ n. shows (pairs i h) (small i) (eqb n 0) (marks n i) in
          ap not (eq-eqb _ _ (sym (at m) ∙ ap (shown (low i)) (same i h) ∙ at n))

counts-told : T (all_below 25 (λ m. all_below 25 (told (λ n i. ltb i n) 24 m)))
unfolding all_below any_below told apart level when◌then◌else◌
counts-told = tt

states-told : T (all_below 21 (λ s. all_below 21 (told has_b 20 s)))
unfolding all_below any_below told apart level has_b when◌then◌else◌
states-told = tt

module _ (constants : List ℕ) (words : Words constants) (valid : valid_constants constants ≡ true) where
  pub counter-distinct : (m n : ℕ) → m ≤ 24 → n ≤ 24 → counter_words constants m ≡ counter_words constants n → m ≡ n
  unfolding counter_word
  counter-distinct m n a b e =
      told-apart _ 24 25 counts-told (const_c constants) (const_d constants) (counter-pair constants valid) (λ i. words.small (36 + i)) m n
      (omega arith) (omega arith)
      (λ i h. sym (counter-at constants m i h) ∙ ap (λ (ws : List ℕ). get_or ws i 0) e ∙ counter-at constants n i h)

  pub state-distinct : (s t : ℕ) → s ≤ 20 → t ≤ 20 → state_words constants s ≡ state_words constants t → s ≡ t
  unfolding state_word
  state-distinct s t a b e =
      told-apart _ 20 21 states-told (const_a constants) (const_b constants) (state-pair constants valid) (λ i. words.small (84 + i)) s t
      (omega arith) (omega arith)
      (λ i h. sym (state-at constants s i h) ∙ ap (λ (ws : List ℕ). get_or ws i 0) e ∙ state-at constants t i h)
