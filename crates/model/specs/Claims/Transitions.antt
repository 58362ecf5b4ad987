-- Transitions: which cells each answer leaves, when each is given, what the life cycle words stand for afterwards, and where the stored tokens lie.
use Rattle.std.specs.Prelude.{ℕ, suc, ◌+◌, ◌*◌, ◌/◌, ◌≤◌, ◌<◌, ◌≡◌, Bool, true, false, ◌||◌, List, [], ◌∷◌, ◌++◌, ◌↔◌, ◌⊎◌, eqb, None, Ok, Err, Option, Some}
use Rattle.basics.specs.Choice.{when◌then◌else◌}
use Rattle.words.specs.Words.{number_of, part_at}
use Rattle.words.specs.Programming.{program_answer}
use Rattle.partitions.specs.declared.Kind.{Kind}
use Rattle.partitions.specs.Map.{Map, partition, number_of_kind}
use Rattle.partitions.specs.Map1.{map1}
use Rattle.partitions.specs.Map2.{map2}
use Rattle.life_cycle.specs.declared.LifeCycle.{LifeCycle}
use Rattle.life_cycle.specs.declared.Token.{Token}
use Rattle.life_cycle.specs.declared.Token.TheVariants.{Nothing, RawUnlock, TestUnlock, TestExit, Rma}
use Rattle.life_cycle.specs.Words.{counter_words, state_words}
use Rattle.life_cycle.specs.Transitions.{table_entry}
use Rattle.constants.specs.Constants.{valid_constants}
use Rattle.model.specs.declared.Command.{Command}
use Rattle.model.specs.declared.Command.TheVariants.{Transition, PowerUp}
use Rattle.model.specs.Answers.{code_of, value_of}
use Rattle.model.specs.Session.{is_ready, sensed_at}
use Rattle.model.specs.Lent.{Machine, Primitives, right_lengths}
use Rattle.model.specs.Commands.{life_cycle_rule, token_kind, stored_token, counter_at, state_at, class_of, transiting}
use Rattle.model.specs.PowerUp.{verdict_of, life_cycle_in}
use Rattle.model.specs.Step.{step, after, machine_after, answer_to}
use Rattle.model.specs.Claims.Terms.{ValidInputs, Says, Put, NoPowerUp, valid_life}
use Rattle.model.specs.Claims.Numbers.{Agrees, eight_from}
use Rattle.model.specs.Claims.Refusals.{early}
use Rattle.model.specs.declared.Phase.TheVariants as phase
use Rattle.partitions.specs.declared.Kind.TheVariants as kind

-- the codes after the stroke, with no move: "then 0x21; 0x22; 0x23"
unfoldable pub stroke_only : ℕ → Bool
stroke_only code = eqb code 0x21 || eqb code 0x22 || eqb code 0x23

-- the progress of a life cycle: it stays, spends a stroke, or spends a stroke and takes an entry of the table
pub data Progress (x : Option LifeCycle) : Option LifeCycle → Type 0 where
  stays : Progress x x
  spends : {state count : ℕ} → Progress x (valid_life state count) → Progress x (valid_life state (suc count))
  moves : {state count target : ℕ} {token : Token} → Progress x (valid_life state count) → table_entry state target ≡ Some token
      → Progress x (valid_life target (suc count))

module _ (prims : Primitives) (map : Map) where
  -- "the 24 counter words of one stroke more than the record's count", and with them "the 20 state words" of a target, which follow
  abbrev pub stroke_words : Machine → List ℕ
  stroke_words m = counter_words m.lent.constants (suc m.session.count)

  abbrev pub move_words : Machine → ℕ → List ℕ
  move_words m target = stroke_words m ++ state_words m.lent.constants target

  -- what comparing the token given comes to (request Four): by its hash, with the RAW_UNLOCK constant, or with what the copy holds of a partition that
  -- is sensed locked. "With none, the token is ignored".
  abbrev pub Stored : Machine → ℕ → Bool → Kind → ℕ → Type 0
  Stored m given same k offset =
      (sensed_at m.session (number_of_kind map k) ≡ 0 → ⊥)
      × Agrees (prims.hash given) (eight_from m.lent.copy ((partition map (number_of_kind map k)).start / 2 + offset)) same

  -- "124 to 131 hashed RAW_UNLOCK token"; "SECRET0 (TEST_UNLOCK, TEST_EXIT, 16 bytes each)", "SECRET2 (RMA token 16, ..)": 16 bytes are 8 words
  abbrev pub Compared : Machine → ℕ → Bool → Token → Type 0
  Compared m given same Nothing = same ≡ true
  Compared m given same RawUnlock = Agrees (prims.hash given) (eight_from m.lent.constants 124) same
  Compared m given same TestUnlock = Stored m given same kind.Secret0 0
  Compared m given same TestExit = Stored m given same kind.Secret0 8
  Compared m given same Rma = Stored m given same kind.Secret2 0

  -- the table asks for a token, and this is what comparing it comes to
  pub record Asked (m : Machine) (target given : ℕ) (same : Bool) : Type 0 where
    pub token : Token
    pub allowed : table_entry m.session.state target ≡ Some token
    pub compared : Compared m given same token

  -- the table asks for a token that is stored in a partition which is not sensed locked
  pub data Unlocked (m : Machine) (target : ℕ) : Type 0 where
    test_unlock : table_entry m.session.state target ≡ Some TestUnlock → sensed_at m.session (number_of_kind map kind.Secret0) ≡ 0
        → Unlocked m target
    test_exit : table_entry m.session.state target ≡ Some TestExit → sensed_at m.session (number_of_kind map kind.Secret0) ≡ 0 → Unlocked m target
    rma : table_entry m.session.state target ≡ Some Rma → sensed_at m.session (number_of_kind map kind.Secret2) ≡ 0 → Unlocked m target

  -- a programmed bit of the counter words would be cleared; or, where the table's token was given, one of the state words
  pub data Stops (m : Machine) (target given : ℕ) : Type 0 where
    counter_refused : {cell : ℕ} → program_answer life_cycle_rule m.lent.cells (counter_at map) (stroke_words m) ≡ Err cell
        → Stops m target given
    state_refused : {cell : ℕ} → program_answer life_cycle_rule m.lent.cells (counter_at map) (stroke_words m) ≡ Ok tt → Asked m target given true
        → program_answer life_cycle_rule m.lent.cells (state_at map) (state_words m.lent.constants target) ≡ Err cell → Stops m target given

  -- "A 4 at either programming leaves that step's words alone": the word named, and the cells after it
  pub data Stopped (m : Machine) (target cell : ℕ) (cells : List ℕ) : Type 0 where
    counter : program_answer life_cycle_rule m.lent.cells (counter_at map) (stroke_words m) ≡ Err cell → cells ≡ m.lent.cells
        → Stopped m target cell cells
    state : Put life_cycle_rule (counter_at map) (stroke_words m) m.lent.cells cells
        → program_answer life_cycle_rule cells (state_at map) (state_words m.lent.constants target) ≡ Err cell → Stopped m target cell cells

  -- a Ready chip that gives none of 0x10, 0x12 and 0x07
  pub record Fair (m : Machine) : Type 0 where
    pub lengths : right_lengths map m.lent ≡ true
    pub valid : valid_constants m.lent.constants ≡ true
    pub ready : is_ready m.session.phase ≡ true
    pub state : m.session.state ≤ 20
    pub count : m.session.count ≤ 24

  -- the life cycle words decode to a state and a count; and the next power-up, if no digest check fails, answers them, SCRAP (20) with 7
  pub record Leaves (state count : ℕ) (m : Machine) : Type 0 where
    pub decodes : life_cycle_in map m.lent ≡ valid_life state count
    pub answered : (l : List Command) → NoPowerUp l
        → let m₁ = after prims map l m in
        verdict_of prims map m₁.lent ≡ None → Says (when eqb state 20 then 0x07 else 0x00) (256 * count + state) (answer_to prims map PowerUp m₁)

  pub record Transitions : Type 0 where
    -- Which cells each code leaves, over any machine. "A refusal leaves cells, copy and record as they were"; "0x11 changes nothing": nor do 0x10, 0x12, 0x07
    pub nothing : (m : Machine) (target given : ℕ)
        → let x = Transition target given in
        early (code_of (answer_to prims map x m)) ≡ true → machine_after prims map x m ≡ m
    -- "Order: 0x20 with no cell changed;
    pub used : (m : Machine) (target given : ℕ)
        → let x = Transition target given in
        code_of (answer_to prims map x m) ≡ 0x20 → (machine_after prims map x m).lent.cells ≡ m.lent.cells
    -- then the 24 counter words of one stroke more than the record's count are programmed; then 0x21; 0x22; 0x23;
    pub spent : (m : Machine) (target given : ℕ)
        → let x = Transition target given in
        stroke_only (code_of (answer_to prims map x m)) ≡ true
        → Put life_cycle_rule (counter_at map) (stroke_words m) m.lent.cells (machine_after prims map x m).lent.cells
    -- then the 20 state words are programmed."
    pub moved : (m : Machine) (target given : ℕ)
        → let x = Transition target given in
        code_of (answer_to prims map x m) ≡ 0x00
        → Put life_cycle_rule (counter_at map) (move_words m target) m.lent.cells (machine_after prims map x m).lent.cells
    -- "A 4 at either programming leaves that step's words alone"
    pub stopped : (m : Machine) (target given : ℕ)
        → let x = Transition target given in
        let answer = answer_to prims map x m in
        code_of answer ≡ 0x04 → Stopped m target (value_of answer) (machine_after prims map x m).lent.cells
    -- When each code is given. 0x11, "target above 20"; 0x20, "24 strokes used"; else 4 where a bit would be cleared; else 0x21, "transition not in the table",
    -- 0x22, "token partition not sensed locked", 0x23, "token differs", and 0
    pub exactly : (m : Machine) → Fair m → (target given : ℕ)
        → let code = code_of (answer_to prims map (Transition target given) m) in
        ((code ≡ 0x11) ↔ (20 < target))
        × ((code ≡ 0x20) ↔ ((target ≤ 20) × (m.session.count ≡ 24)))
        × (target ≤ 20 → m.session.count < 24
        → ((code ≡ 0x04) ↔ Stops m target given)
        × ((code ≡ 0x04 → ⊥)
        → ((code ≡ 0x21) ↔ (table_entry m.session.state target ≡ None))
        × ((code ≡ 0x22) ↔ Unlocked m target)
        × ((code ≡ 0x23) ↔ Asked m target given false)
        × ((code ≡ 0x00) ↔ Asked m target given true)))
    -- 7 for the record: "or state or count in the record above 20 or 24 (transition only)"
    pub records : (m : Machine) → ValidInputs map m → m.session.phase ≡ phase.Ready → (target given : ℕ)
        → Says 0x07 0 (answer_to prims map (Transition target given) m) ↔ ((20 < m.session.state) ⊎ (24 < m.session.count))
    -- "The value is 0 unless stated."
    pub values : (m : Machine) (target given : ℕ)
        → let answer = answer_to prims map (Transition target given) m in
        code_of answer ≡ 0x00 → value_of answer ≡ 0
    -- "A token comparison is the test behind 0x23, its result whether the tokens agree.": none with no token, else one; none before 0x23. No other command has
    -- one.
    pub comparisons : (m : Machine) (target given : ℕ)
        → let s = step prims map (Transition target given) m in
        let code = code_of s.result.answer in
        (code ≡ 0x23 → s.compared ≡ false ∷ [])
        × (code ≡ 0x00 → table_entry m.session.state target ≡ Some Nothing → s.compared ≡ [])
        × (code ≡ 0x00 → (table_entry m.session.state target ≡ Some Nothing → ⊥) → s.compared ≡ true ∷ [])
        × (code ≡ 0x04 → (s.compared ≡ []) ⊎ ((table_entry m.session.state target ≡ Some Nothing → ⊥) × (s.compared ≡ true ∷ [])))
        × ((code ≡ 0x23 → ⊥) → (code ≡ 0x00 → ⊥) → (code ≡ 0x04 → ⊥) → s.compared ≡ [])
    pub no_comparison : (m : Machine) (x : Command) → (class_of x ≡ transiting → ⊥) → (step prims map x m).compared ≡ []
    -- a transition that answers 0 was given the token that the table asks for, by its hash, and one that answers 0x23 another, on any machine
    pub tokens : (m : Machine) (target given : ℕ)
        → let code = code_of (answer_to prims map (Transition target given) m) in
        (code ≡ 0x00 → Asked m target given true) × (code ≡ 0x23 → Asked m target given false)
    -- a chip that is Ready in a list from a power-up gives none of 0x10, 0x12 and 0x07, and 4 "can't occur in a sequence from power-up with the same constants"
    pub fair : (m : Machine) → ValidInputs map m → (l : List Command)
        → let m₁ = after prims map (PowerUp ∷ l) m in
        is_ready m₁.session.phase ≡ true
        → Fair m₁ × ((target given : ℕ) → code_of (answer_to prims map (Transition target given) m₁) ≡ 0x04 → ⊥)
    -- what the life cycle words then stand for, after a stroke alone and after a move
    pub leaves : (m : Machine) → ValidInputs map m → (l : List Command) (target given : ℕ)
        → let m₁ = after prims map (PowerUp ∷ l) m in
        let x = Transition target given in
        let code = code_of (answer_to prims map x m₁) in
        (stroke_only code ≡ true → Leaves m₁.session.state (suc m₁.session.count) (machine_after prims map x m₁))
        × (code ≡ 0x00 → Leaves target (suc m₁.session.count) (machine_after prims map x m₁))
    -- from a power-up on, what the life cycle words decode to only goes along the table, a stroke at a time
    pub progress : (m : Machine) → ValidInputs map m → (l₁ l₂ : List Command)
        → Progress (life_cycle_in map (after prims map (PowerUp ∷ l₁) m).lent) (life_cycle_in map (after prims map (PowerUp ∷ l₁ ++ l₂) m).lent)
    -- and the stroke count never falls
    pub counts : (s n t k : ℕ) → Progress (valid_life s n) (valid_life t k) → n ≤ k

-- "SECRET0 (TEST_UNLOCK, TEST_EXIT, 16 bytes each)", "SECRET2 (RMA token 16, two root key shares 32 each)", and in Map 2 the same items in the same order: at
-- which byte of the copy each token stands, and the number of the partition whose lock it asks for
pub record TokenPlaces : Type 0 where
  pub map1_places : (copy : List ℕ)
      → (stored_token map1 TestUnlock copy ≡ number_of (part_at copy (0x250 / 2) 8))
      × (stored_token map1 TestExit copy ≡ number_of (part_at copy (0x260 / 2) 8))
      × (stored_token map1 Rma copy ≡ number_of (part_at copy (0x2D0 / 2) 8))
  pub map2_places : (copy : List ℕ)
      → (stored_token map2 TestUnlock copy ≡ number_of (part_at copy (0x498 / 2) 8))
      × (stored_token map2 TestExit copy ≡ number_of (part_at copy (0x4A8 / 2) 8))
      × (stored_token map2 Rma copy ≡ number_of (part_at copy (0x518 / 2) 8))
  pub map1_locks : (number_of_kind map1 (token_kind TestUnlock) ≡ 3) × (number_of_kind map1 (token_kind TestExit)
      ≡ 3) × (number_of_kind map1 (token_kind Rma) ≡ 5)
  pub map2_locks : (number_of_kind map2 (token_kind TestUnlock) ≡ 7) × (number_of_kind map2 (token_kind TestExit)
      ≡ 7) × (number_of_kind map2 (token_kind Rma) ≡ 9)
