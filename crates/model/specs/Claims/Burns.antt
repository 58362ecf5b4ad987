-- Writes and burns: nothing is burnt twice but AUTH_STATE data (OldRule.antt), a refusal names its word, what a write stored is what is ever read, and when a
-- write is done, denied or refused.
use Rattle.std.specs.Prelude.{ℕ, suc, ◌+◌, ◌/◌, ◌^◌, ◌≤◌, ◌<◌, ◌≡◌, true, List, ◌++◌, ◌↔◌, length, get_or, Ok}
use Rattle.words.specs.declared.Rule.{Rule}
use Rattle.words.specs.declared.Rule.TheVariants.{KeepBits, BlankOnly}
use Rattle.words.specs.Words.{number_of, words_of, part_at}
use Rattle.words.specs.Programming.{program_answer, Lowest}
use Rattle.partitions.specs.Map.{Map, rights_of, number_at, partition_at, limit, first_word, word_count}
use Rattle.life_cycle.specs.Words.{counter_words, state_words}
use Rattle.model.specs.declared.Command.{Command}
use Rattle.model.specs.declared.Command.TheVariants.{Read, Write, Digest, Transition, PowerUp}
use Rattle.model.specs.Answers.{code_of, value_of}
use Rattle.model.specs.Session.{is_ready, sensed_at, sensed_locked}
use Rattle.model.specs.Lent.{Machine, Primitives}
use Rattle.model.specs.Commands.{direct_rule, digest_rule, life_cycle_rule, granule, computed_digest, counter_at}
use Rattle.model.specs.Step.{step, after, machine_after, answer_to}
use Rattle.model.specs.Claims.Terms.{ValidInputs, Says, Put, stored_words, NotWritten, Allowed, used_value}
use Rattle.model.specs.Claims.Numbers.{KeyAt, Plain, Hardware, Lockable, LowestBurnt, LowestCleared, eight_from}
use Rattle.model.specs.Claims.Demand3.{Ready}
use Rattle.partitions.specs.declared.Kind.TheVariants as kind
use Rattle.model.specs.declared.Phase.TheVariants as phase

module _ (prims : Primitives) (map : Map) where
  -- what a command is to program: by which rule, from which word on, and the words. A write and a digest command have a target granule; a transition
  -- has life cycle words, the counter's of one stroke more and then the state's.
  pub data Targets (m : Machine) : Command → Rule → ℕ → List ℕ → Type 0 where
    writing : {a value : ℕ} {rule : Rule} → direct_rule (partition_at map a) a ≡ rule
        → Targets m (Write a value) rule (first_word (partition_at map a) a) (stored_words prims map m.lent.constants a value)
    digesting : {a : ℕ}
        → Targets m (Digest a) digest_rule ((partition_at map a).digest / 2)
        (words_of 4 (computed_digest prims m.lent.constants (partition_at map a) m.lent.cells))
    moving : {target given : ℕ}
        → Targets m (Transition target given) life_cycle_rule (counter_at map)
        (counter_words m.lent.constants (suc m.session.count) ++ state_words m.lent.constants target)

  -- of the words that the command is to program, the word i is the lowest that refuses
  pub record Named (m : Machine) (x : Command) (i : ℕ) : Type 0 where
    pub rule : Rule
    pub at : ℕ
    pub words : List ℕ
    pub target : Targets m x rule at words
    pub lowest : Lowest rule m.lent.cells at words i

  -- why a write answers 5: "the address is 0x380 or more, in LIFE_CYCLE, in the digest of 2 to 5, or in a partition with a nonzero sensed digest"
  pub data WriteDenied (m : Machine) (a : ℕ) : Type 0 where
    past : limit map ≤ a → WriteDenied m a
    in_life_cycle : (partition_at map a).kind ≡ kind.LifeCycle → WriteDenied m a
    in_hardware_digest : Hardware (partition_at map a).kind → (partition_at map a).digest ≤ a → WriteDenied m a
    locked : (sensed_at m.session (number_at map a) ≡ 0 → ⊥) → WriteDenied m a

  -- the words that a write of a value stores: "Secret data is scrambled, then programmed"; "a 4-byte granule uses the low half"
  pub data Stores (constants : List ℕ) (a value : ℕ) : List ℕ → Type 0 where
    digest : (partition_at map a).digest ≤ a → Lockable (partition_at map a).kind → Stores constants a value (words_of 4 value)
    secret : {first : ℕ} → a < (partition_at map a).digest → KeyAt (partition_at map a).kind first
        → Stores constants a value (words_of 4 (prims.encrypt (eight_from constants first) value))
    plain : a < (partition_at map a).digest → Plain (partition_at map a).kind → Stores constants a value (words_of 2 value)

  pub record Burns : Type 0 where
    -- Nothing is burnt twice. A command whose target granule has the new rule (a direct access write or digest command) that answers 0, wherever in a list,
    -- found every word of the granule zero.
    pub taken : (m : Machine) (l : List Command) (x : Command) (at : ℕ) (words : List ℕ)
        → let m₁ = after prims map l m in
        Targets m₁ x BlankOnly at words
        → code_of (answer_to prims map x m₁) ≡ 0x00 → (j : ℕ) → at ≤ j → j < at + length words → get_or m₁.lent.cells j 0 ≡ 0
    -- Whatever such a command answers, and whatever the list, it changes no word that is not zero.
    pub burns : (m : Machine) (l : List Command) (x : Command) (at : ℕ) (words : List ℕ)
        → let m₁ = after prims map l m in
        Targets m₁ x BlankOnly at words
        → (j : ℕ) → (get_or m₁.lent.cells j 0 ≡ 0 → ⊥) → get_or (machine_after prims map x m₁).lent.cells j 0 ≡ get_or m₁.lent.cells j 0
    -- A granule that direct access reaches by the new rule, once it is not blank, never changes, whatever follows.
    pub granules : (m : Machine) (a : ℕ) → a < limit map → (rights_of (partition_at map a).kind).direct ≡ true → direct_rule (partition_at map a) a ≡ BlankOnly
        → (l₁ l₂ : List Command)
        → let p = partition_at map a in
        (granule p (after prims map l₁ m).lent.cells a ≡ 0 → ⊥)
        → part_at (after prims map (l₁ ++ l₂) m).lent.cells (first_word p a) (word_count p a)
        ≡ part_at (after prims map l₁ m).lent.cells (first_word p a) (word_count p a)
    -- Which word (request Five). A command that answers 4 answers the lowest word of its target that refuses, counted over the whole array.
    pub refused : (m : Machine) (l : List Command) (x : Command)
        → let m₁ = after prims map l m in
        let answer = answer_to prims map x m₁ in
        code_of answer ≡ 0x04 → Named m₁ x (value_of answer)
    -- "A locked partition still answers 5 with value 0 first", whatever its words are.
    pub locked : (m : Machine) → ValidInputs map m → (l : List Command) (a value : ℕ)
        → let m₁ = after prims map l m in
        is_ready m₁.session.phase ≡ true → sensed_locked m₁.session (number_at map a) ≡ true
        → Says 0x05 0 (answer_to prims map (Write a value) m₁) × Says 0x05 0 (answer_to prims map (Digest a) m₁)
    -- "0x05, then 0x04": on a Ready chip, whatever else its record and copy are, a write answers 5 exactly where it is denied; else 4 with the word i exactly
    -- where i is the lowest word of its granule that refuses; else 0
    pub exactly : (m : Machine) → ValidInputs map m → m.session.phase ≡ phase.Ready → (a value : ℕ)
        → let answer = answer_to prims map (Write a value) m in
        let p = partition_at map a in
        let words = stored_words prims map m.lent.constants a value in
        (Says 0x05 0 answer ↔ WriteDenied m a)
        × ((i : ℕ) → Says 0x04 i answer ↔ ((WriteDenied m a → ⊥) × Lowest (direct_rule p a) m.lent.cells (first_word p a) words i))
        × (Says 0x00 0 answer ↔ ((WriteDenied m a → ⊥) × (program_answer (direct_rule p a) m.lent.cells (first_word p a) words ≡ Ok tt)))
    -- "Otherwise the words become the value": a write that answers 0 programs these words from its granule's first on, and no other cell changes
    pub puts : (m : Machine) → ValidInputs map m → (a value : ℕ) → code_of (answer_to prims map (Write a value) m) ≡ 0x00
        → let p = partition_at map a in
        Put (direct_rule p a) (first_word p a) (stored_words prims map m.lent.constants a value) m.lent.cells
        (machine_after prims map (Write a value) m).lent.cells
    -- the words that a write that is not denied is to store, by kind
    pub stores : (m : Machine) (a value : ℕ) → (WriteDenied m a → ⊥) → Stores m.lent.constants a value (stored_words prims map m.lent.constants a value)
    -- "refused with 4 if any word of its target granule is nonzero, whatever the value"; "AUTH_STATE data, like LIFE_CYCLE, keeps the old rule": the lowest
    -- word that refuses is the lowest that is not zero, in AUTH_STATE data the lowest whose bit would be cleared
    pub blanks : (cells words : List ℕ) (at a i : ℕ) → ((partition_at map a).kind ≡ kind.AuthState → a < (partition_at map a).digest → ⊥)
        → Lowest (direct_rule (partition_at map a) a) cells at words i ↔ LowestBurnt cells at (length words) i
    pub cleared_bits : (cells words : List ℕ) (at a i : ℕ) → (partition_at map a).kind ≡ kind.AuthState → a < (partition_at map a).digest
        → Lowest (direct_rule (partition_at map a) a) cells at words i ↔ LowestCleared cells at words i
    -- "On a Ready chip the rules allow a write where Write gives neither 5 nor 4, sensed digests being those stored at the last power-up": there, and nowhere
    -- else, it answers 0
    pub allowed : (m : Machine) → ValidInputs map m → (l₀ l₁ : List Command) → Ready prims map m l₀ l₁ → (a value : ℕ)
        → let m₀ = after prims map l₀ m in
        let m₁ = after prims map l₁ (machine_after prims map PowerUp m₀) in
        (code_of (answer_to prims map (Write a value) m₁) ≡ 0x00) ↔ Allowed prims map m.lent.constants m₀.lent.cells m₁.lent.cells a value
    -- what a write that the rules allowed has stored stays stored, whatever follows, power-ups and transitions too. Only where the stored form is zero, or by
    -- the old rule, may the granule be written again: there, while no other write to it answers 0.
    pub stays : (m : Machine) → ValidInputs map m → (l₀ l₁ : List Command) → Ready prims map m l₀ l₁ → (a value : ℕ) → value < 2 ^ 64
        → let m₀ = after prims map l₀ m in
        let m₁ = after prims map l₁ (machine_after prims map PowerUp m₀) in
        let s = step prims map (Write a value) m₁ in
        let stored = stored_words prims map m.lent.constants a value in
        Allowed prims map m.lent.constants m₀.lent.cells m₁.lent.cells a value
        → (l₂ : List Command) → (number_of stored ≡ 0 → NotWritten prims map a l₂ s.result.machine)
        → (direct_rule (partition_at map a) a ≡ KeepBits → NotWritten prims map a l₂ s.result.machine)
        → part_at (after prims map l₂ s.result.machine).lent.cells (first_word (partition_at map a) a) (word_count (partition_at map a) a) ≡ stored
    -- what a write that the rules allowed has stored is what is ever read there: whatever follows, power-ups and transitions too, each read of its
    -- granule that answers 0 answers the data used. Only where the stored form is zero, or by the old rule, may the granule be written again: there, while no
    -- other write to it answers 0.
    pub lasting : (m : Machine) → ValidInputs map m → (l₀ l₁ : List Command) → Ready prims map m l₀ l₁ → (a value : ℕ) → value < 2 ^ 64
        → let m₀ = after prims map l₀ m in
        let m₁ = after prims map l₁ (machine_after prims map PowerUp m₀) in
        let s = step prims map (Write a value) m₁ in
        Allowed prims map m.lent.constants m₀.lent.cells m₁.lent.cells a value
        → (l₂ : List Command) → (number_of (stored_words prims map m.lent.constants a value) ≡ 0 → NotWritten prims map a l₂ s.result.machine)
        → (direct_rule (partition_at map a) a ≡ KeepBits → NotWritten prims map a l₂ s.result.machine)
        → (b shown : ℕ) → first_word (partition_at map b) b ≡ first_word (partition_at map a) a
        → answer_to prims map (Read b) (after prims map l₂ s.result.machine) ≡ Ok shown → shown ≡ used_value map a value
