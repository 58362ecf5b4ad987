-- Life cycle words: how a stroke count and a state stand in the 24 counter words and the 20 state words, and how they are decoded.
use Rattle.std.specs.Prelude.{ℕ, zero, suc, Bool, true, false, not, ◌&&◌, ◌||◌, List, [], ◌∷◌, eqb, leb, ltb, Option, Some, None}
use Rattle.basics.specs.Choice.{when◌then◌else◌}
use Rattle.basics.specs.Range.{listed}
use Rattle.life_cycle.specs.declared.LifeCycle.{LifeCycle}
use Rattle.constants.specs.Constants.{const_a, const_b, const_c, const_d}

-- "Count 0: all 24 counter words zero. Count n: words below n are D, the rest C."
unfoldable pub counter_word : List ℕ → ℕ → ℕ → ℕ
counter_word constants n i = when eqb n 0 then 0 else when ltb i n then const_d constants i else const_c constants i

unfoldable pub counter_words : List ℕ → ℕ → List ℕ
counter_words constants n = listed (counter_word constants n) 0 24

-- "state k of 1..15 has B in words 0..k-1. DEV (16): B in 0..15. PROD (17): 0..14 and 16. PROD_END (18): 0..14 and 17. RMA (19): 0..16
-- and 18. SCRAP (20): all B."
unfoldable pub has_b : ℕ → ℕ → Bool
has_b state i =
    when leb state 15 then ltb i state
    else when eqb state 16 then leb i 15
    else when eqb state 17 then leb i 14 || eqb i 16
    else when eqb state 18 then leb i 14 || eqb i 17
    else when eqb state 19 then leb i 16 || eqb i 18
    else true

-- "RAW (0) all zero. .. Other words A."
unfoldable pub state_word : List ℕ → ℕ → ℕ → ℕ
state_word constants state i = when eqb state 0 then 0 else when has_b state i then const_b constants i else const_a constants i

unfoldable pub state_words : List ℕ → ℕ → List ℕ
state_words constants state = listed (state_word constants state) 0 20

-- two lists of words are the same
unfoldable pub same_words : List ℕ → List ℕ → Bool
same_words [] [] = true
same_words [] (y ∷ ys) = false
same_words (x ∷ xs) [] = false
same_words (x ∷ xs) (y ∷ ys) = eqb x y && same_words xs ys

-- the first of n numbers from i on whose encoding the words are
unfoldable pub encoded_by : (ℕ → List ℕ) → List ℕ → ℕ → ℕ → Option ℕ
encoded_by encoding ws i zero = None
encoded_by encoding ws i (suc n) = when same_words ws (encoding i) then Some i else encoded_by encoding ws (suc i) n

-- "Anything else is invalid, and so is count 0 with a state other than RAW."
unfoldable pub life_cycle_of : Option ℕ → Option ℕ → Option LifeCycle
life_cycle_of None count = None
life_cycle_of (Some state) None = None
life_cycle_of (Some state) (Some count) = when eqb count 0 && not (eqb state 0) then None else Some (record { state = state; count = count })

-- what 24 counter words and 20 state words stand for
unfoldable pub decoded : List ℕ → List ℕ → List ℕ → Option LifeCycle
decoded constants counter state = life_cycle_of (encoded_by (state_words constants) state 0 21) (encoded_by (counter_words constants) counter 0 25)
