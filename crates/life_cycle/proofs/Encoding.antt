-- Laws of the counter words and the state words by their index. Both are one encoding: blank at number 0, else the upper constant in the words
-- that the number marks and the lower one in the others.
use mathlib.Core.Path.{◌≡◌}
use mathlib.Core.Bool.{Bool}
use mathlib.Core.List.{List}
use Prim.Native.Nat.{ℕ, ◌<◌}
use lib.Dec.{eqb}
use lib.ListN.{length, get_or}
use Rattle.basics.specs.Choice.{when◌then◌else◌}
use Rattle.basics.proofs.Range.{length-listed, listed_at}
use Rattle.life_cycle.specs.Words.{counter_word, counter_words, state_word, state_words}

pub counter-length : (constants : List ℕ) (n : ℕ) → length (counter_words constants n) ≡ 24
unfolding counter_words
counter-length constants n = length-listed _ 0 24

pub state-length : (constants : List ℕ) (state : ℕ) → length (state_words constants state) ≡ 20
unfolding state_words
state-length constants state = length-listed _ 0 20

pub counter-at : (constants : List ℕ) (n i : ℕ) → i < 24 → get_or (counter_words constants n) i 0 ≡ counter_word constants n i
unfolding counter_words
counter-at constants n i h = listed_at _ 0 24 i h

pub state-at : (constants : List ℕ) (state i : ℕ) → i < 20 → get_or (state_words constants state) i 0 ≡ state_word constants state i
unfolding state_words
state-at constants state i h = listed_at _ 0 20 i h

-- word i of number n, where `up` stands in the words that n marks
abbrev pub coded : (ℕ → ℕ → Bool) → (ℕ → ℕ) → (ℕ → ℕ) → ℕ → ℕ → ℕ
coded marks low up n i = when eqb n 0 then 0 else when marks n i then up i else low i
