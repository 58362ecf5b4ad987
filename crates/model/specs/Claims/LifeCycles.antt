-- The life cycle in the papers' numbers, each table entered a second time: transitions, state words and counter words; and what follows for tokens.
use Rattle.std.specs.Prelude.{ℕ, ◌+◌, ◌*◌, ◌≤◌, ◌<◌, ◌≡◌, true, List, [], ◌∷◌, ◌⊎◌, eqb, ltb, get_or, replicate, Option, Some, None}
use Rattle.basics.specs.Choice.{when◌then◌else◌}
use Rattle.basics.specs.Digits.{bit}
use Rattle.basics.specs.Range.{listed}
use Rattle.partitions.specs.Map.{Map}
use Rattle.life_cycle.specs.Words.{counter_words, state_words}
use Rattle.life_cycle.specs.Transitions.{table_entry}
use Rattle.model.specs.declared.Command.TheVariants.{Transition}
use Rattle.model.specs.Answers.{code_of}
use Rattle.model.specs.Lent.{Machine, Primitives}
use Rattle.model.specs.Step.{answer_to}
use Rattle.model.specs.Claims.Transitions.{Compared}
use Rattle.life_cycle.specs.declared.Token.TheVariants as token
use Rattle.life_cycle.specs.declared.Token.{Token}

-- entries: not in the table, allowed with no token, and with each of the four
abbrev o : Option Token
o = None

abbrev n : Option Token
n = Some token.Nothing

abbrev w : Option Token
w = Some token.RawUnlock

abbrev u : Option Token
u = Some token.TestUnlock

abbrev e : Option Token
e = Some token.TestExit

abbrev m : Option Token
m = Some token.Rma

-- a row for each state, RAW, TEST_UNLOCKED0, TEST_LOCKED0 .. TEST_UNLOCKED7, DEV, PROD, PROD_END, RMA, SCRAP, and in it an entry for each target
abbrev pub rows : List (List (Option Token))
rows =
    (o ∷ w ∷ o ∷ o ∷ o ∷ o ∷ o ∷ o ∷ o ∷ o ∷ o ∷ o ∷ o ∷ o ∷ o ∷ o ∷ o ∷ o ∷ o ∷ o ∷ n ∷ [])
    ∷ (o ∷ o ∷ n ∷ o ∷ n ∷ o ∷ n ∷ o ∷ n ∷ o ∷ n ∷ o ∷ n ∷ o ∷ n ∷ o ∷ e ∷ e ∷ e ∷ n ∷ n ∷ [])
    ∷ (o ∷ o ∷ o ∷ u ∷ o ∷ u ∷ o ∷ u ∷ o ∷ u ∷ o ∷ u ∷ o ∷ u ∷ o ∷ u ∷ e ∷ e ∷ e ∷ o ∷ n ∷ [])
    ∷ (o ∷ o ∷ o ∷ o ∷ n ∷ o ∷ n ∷ o ∷ n ∷ o ∷ n ∷ o ∷ n ∷ o ∷ n ∷ o ∷ e ∷ e ∷ e ∷ n ∷ n ∷ [])
    ∷ (o ∷ o ∷ o ∷ o ∷ o ∷ u ∷ o ∷ u ∷ o ∷ u ∷ o ∷ u ∷ o ∷ u ∷ o ∷ u ∷ e ∷ e ∷ e ∷ o ∷ n ∷ [])
    ∷ (o ∷ o ∷ o ∷ o ∷ o ∷ o ∷ n ∷ o ∷ n ∷ o ∷ n ∷ o ∷ n ∷ o ∷ n ∷ o ∷ e ∷ e ∷ e ∷ n ∷ n ∷ [])
    ∷ (o ∷ o ∷ o ∷ o ∷ o ∷ o ∷ o ∷ u ∷ o ∷ u ∷ o ∷ u ∷ o ∷ u ∷ o ∷ u ∷ e ∷ e ∷ e ∷ o ∷ n ∷ [])
    ∷ (o ∷ o ∷ o ∷ o ∷ o ∷ o ∷ o ∷ o ∷ n ∷ o ∷ n ∷ o ∷ n ∷ o ∷ n ∷ o ∷ e ∷ e ∷ e ∷ n ∷ n ∷ [])
    ∷ (o ∷ o ∷ o ∷ o ∷ o ∷ o ∷ o ∷ o ∷ o ∷ u ∷ o ∷ u ∷ o ∷ u ∷ o ∷ u ∷ e ∷ e ∷ e ∷ o ∷ n ∷ [])
    ∷ (o ∷ o ∷ o ∷ o ∷ o ∷ o ∷ o ∷ o ∷ o ∷ o ∷ n ∷ o ∷ n ∷ o ∷ n ∷ o ∷ e ∷ e ∷ e ∷ n ∷ n ∷ [])
    ∷ (o ∷ o ∷ o ∷ o ∷ o ∷ o ∷ o ∷ o ∷ o ∷ o ∷ o ∷ u ∷ o ∷ u ∷ o ∷ u ∷ e ∷ e ∷ e ∷ o ∷ n ∷ [])
    ∷ (o ∷ o ∷ o ∷ o ∷ o ∷ o ∷ o ∷ o ∷ o ∷ o ∷ o ∷ o ∷ n ∷ o ∷ n ∷ o ∷ e ∷ e ∷ e ∷ n ∷ n ∷ [])
    ∷ (o ∷ o ∷ o ∷ o ∷ o ∷ o ∷ o ∷ o ∷ o ∷ o ∷ o ∷ o ∷ o ∷ u ∷ o ∷ u ∷ e ∷ e ∷ e ∷ o ∷ n ∷ [])
    ∷ (o ∷ o ∷ o ∷ o ∷ o ∷ o ∷ o ∷ o ∷ o ∷ o ∷ o ∷ o ∷ o ∷ o ∷ n ∷ o ∷ e ∷ e ∷ e ∷ n ∷ n ∷ [])
    ∷ (o ∷ o ∷ o ∷ o ∷ o ∷ o ∷ o ∷ o ∷ o ∷ o ∷ o ∷ o ∷ o ∷ o ∷ o ∷ u ∷ e ∷ e ∷ e ∷ o ∷ n ∷ [])
    ∷ (o ∷ o ∷ o ∷ o ∷ o ∷ o ∷ o ∷ o ∷ o ∷ o ∷ o ∷ o ∷ o ∷ o ∷ o ∷ o ∷ e ∷ e ∷ e ∷ n ∷ n ∷ [])
    ∷ (o ∷ o ∷ o ∷ o ∷ o ∷ o ∷ o ∷ o ∷ o ∷ o ∷ o ∷ o ∷ o ∷ o ∷ o ∷ o ∷ o ∷ o ∷ o ∷ m ∷ n ∷ [])
    ∷ (o ∷ o ∷ o ∷ o ∷ o ∷ o ∷ o ∷ o ∷ o ∷ o ∷ o ∷ o ∷ o ∷ o ∷ o ∷ o ∷ o ∷ o ∷ o ∷ m ∷ n ∷ [])
    ∷ (o ∷ o ∷ o ∷ o ∷ o ∷ o ∷ o ∷ o ∷ o ∷ o ∷ o ∷ o ∷ o ∷ o ∷ o ∷ o ∷ o ∷ o ∷ o ∷ o ∷ n ∷ [])
    ∷ (o ∷ o ∷ o ∷ o ∷ o ∷ o ∷ o ∷ o ∷ o ∷ o ∷ o ∷ o ∷ o ∷ o ∷ o ∷ o ∷ o ∷ o ∷ o ∷ o ∷ n ∷ [])
    ∷ (o ∷ o ∷ o ∷ o ∷ o ∷ o ∷ o ∷ o ∷ o ∷ o ∷ o ∷ o ∷ o ∷ o ∷ o ∷ o ∷ o ∷ o ∷ o ∷ o ∷ o ∷ [])
    ∷ []

-- bit i of a state's number is 1 where B stands in word i: "state k of 1..15 has B in words 0..k-1. DEV (16): B in 0..15. PROD (17): 0..14 and 16. PROD_END
-- (18): 0..14 and 17. RMA (19): 0..16 and 18. SCRAP (20): all B."
abbrev pub marks : List ℕ
marks =
    0x00000 ∷ 0x00001 ∷ 0x00003 ∷ 0x00007 ∷ 0x0000F ∷ 0x0001F ∷ 0x0003F ∷ 0x0007F ∷ 0x000FF ∷ 0x001FF ∷ 0x003FF
    ∷ 0x007FF ∷ 0x00FFF ∷ 0x01FFF ∷ 0x03FFF ∷ 0x07FFF ∷ 0x0FFFF ∷ 0x17FFF ∷ 0x27FFF ∷ 0x5FFFF ∷ 0xFFFFF ∷ []

module _ (prims : Primitives) (map : Map) where
  pub record LifeCycles : Type 0 where
    -- the transition table
    pub table : listed (λ state. listed (table_entry state) 0 21) 0 21 ≡ rows
    -- "RAW (0) all zero." "Other words A." A is in constants 84 to 103, B in 104 to 123
    pub raw : (constants : List ℕ) → state_words constants 0 ≡ replicate 20 0
    pub states : (constants : List ℕ) (state i : ℕ) → 0 < state → state ≤ 20 → i < 20
        → get_or (state_words constants state) i 0
        ≡ (when eqb (bit (get_or marks state 0) i) 1 then get_or constants (104 + i) 0 else get_or constants (84 + i) 0)
    -- "Count 0: all 24 counter words zero. Count n: words below n are D, the rest C." C is in constants 36 to 59, D in 60 to 83
    pub unused : (constants : List ℕ) → counter_words constants 0 ≡ replicate 24 0
    pub counts : (constants : List ℕ) (count i : ℕ) → 0 < count → i < 24
        → get_or (counter_words constants count) i 0 ≡ (when ltb i count then get_or constants (60 + i) 0 else get_or constants (36 + i) 0)
    -- a move to RMA (19) from DEV (16) or PROD (17) was given the RMA token
    pub to_rma : (machine : Machine) (given : ℕ) → ((machine.session.state ≡ 16) ⊎ (machine.session.state ≡ 17))
        → code_of (answer_to prims map (Transition 19 given) machine) ≡ 0x00 → Compared prims map machine given true token.Rma
    -- a move out of TEST_LOCKEDi (2 i + 2) but to SCRAP (20) was given TEST_UNLOCK or TEST_EXIT
    pub out_of_locked : (machine : Machine) (i target given : ℕ) → i < 7 → machine.session.state ≡ 2 * i + 2 → (target ≡ 20 → ⊥)
        → code_of (answer_to prims map (Transition target given) machine) ≡ 0x00
        → Compared prims map machine given true token.TestUnlock ⊎ Compared prims map machine given true token.TestExit
