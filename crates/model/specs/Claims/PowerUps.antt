-- Power-up: each answer by its reason, and what it senses.
use Rattle.std.specs.Prelude.{ℕ, ◌+◌, ◌*◌, ◌/◌, ◌%◌, ◌≤◌, ◌<◌, ◌≡◌, [], ◌∷◌, ◌↔◌, length, get_or, None, Some}
use Rattle.words.specs.Words.{number_of, words_of, part_at}
use Rattle.partitions.specs.Map.{Map, partition, partition_at, limit, number_of_kind}
use Rattle.life_cycle.specs.Words.{counter_words, state_words}
use Rattle.model.specs.declared.Command.{Command}
use Rattle.model.specs.declared.Command.TheVariants.{PowerUp}
use Rattle.model.specs.Answers.{code_of}
use Rattle.model.specs.Session.{sensed_at}
use Rattle.model.specs.Lent.{Lent, Machine, Primitives}
use Rattle.model.specs.Step.{step, machine_after, answer_to}
use Rattle.model.specs.Claims.Terms.{ValidInputs, Digested, Says, not_power_up}
use Rattle.model.specs.Claims.Numbers.{KeyAt, Hardware, Lockable, eight_from, digest_in, digest_of}
use Rattle.model.specs.declared.Phase.TheVariants as phase
use Rattle.partitions.specs.declared.Kind.TheVariants as kind

module _ (prims : Primitives) (map : Map) where
  -- "Partitions 2 to 5 ..: a nonzero stored digest must equal the one recomputed": partition n fails
  pub record Fails (l : Lent) (n : ℕ) : Type 0 where
    pub known : n < length map
    pub hardware : Hardware (partition map n).kind
    pub nonzero : digest_in map n l.cells ≡ 0 → ⊥
    pub differs : digest_in map n l.cells ≡ digest_of prims map l.constants n l.cells → ⊥

  -- "in order ..; the first that differs"
  pub record FirstFails (l : Lent) (n : ℕ) : Type 0 where
    pub fails : Fails l n
    pub first : (k : ℕ) → k < n → Fails l k → ⊥

  -- the 24 counter words are those of a count, and the 20 state words behind them those of a state; and not "count 0 with a state other than RAW"
  pub record Encodes (l : Lent) (state count : ℕ) : Type 0 where
    pub counter : part_at l.cells ((partition map (number_of_kind map kind.LifeCycle)).start / 2) 24 ≡ counter_words l.constants count
    pub states : part_at l.cells ((partition map (number_of_kind map kind.LifeCycle)).start / 2 + 24) 20 ≡ state_words l.constants state
    pub count_known : count ≤ 24
    pub state_known : state ≤ 20
    pub raw : count ≡ 0 → state ≡ 0

  -- what word j of the copy holds: zero for partitions 0 and 1; secret data unscrambled; else the cell
  pub data Latched (l : Lent) (j : ℕ) : ℕ → Type 0 where
    unbuffered : Lockable (partition_at map (2 * j)).kind → Latched l j 0
    secret : {first : ℕ} → 2 * j < (partition_at map (2 * j)).digest → KeyAt (partition_at map (2 * j)).kind first
        → Latched l j (get_or (words_of 4 (prims.decrypt (eight_from l.constants first) (number_of (part_at l.cells (j / 4 * 4) 4)))) (j % 4) 0)
    secret_digest : {first : ℕ} → (partition_at map (2 * j)).digest ≤ 2 * j → KeyAt (partition_at map (2 * j)).kind first → Latched l j (get_or l.cells j 0)
    hw_cfg : (partition_at map (2 * j)).kind ≡ kind.HwCfg → Latched l j (get_or l.cells j 0)
    life_cycle : (partition_at map (2 * j)).kind ≡ kind.LifeCycle → Latched l j (get_or l.cells j 0)

  pub record PowerUps : Type 0 where
    -- "the first that differs gives 6", "value: partition"
    pub sixes : (m : Machine) → ValidInputs map m → (n : ℕ) → Says 0x06 n (answer_to prims map PowerUp m) ↔ FirstFails m.lent n
    -- "Then state and count are decoded; invalid or SCRAP gives 7 .. value for SCRAP as below, for invalid 0xFFFF", "value 256 times count plus state": where
    -- no digest check fails, what the life cycle words encode decides
    pub invalid : (m : Machine) → ValidInputs map m → ((n : ℕ) → Fails m.lent n → ⊥)
        → (Says 0x07 0xFFFF (answer_to prims map PowerUp m)) ↔ ((state count : ℕ) → Encodes m.lent state count → ⊥)
    pub scrap : (m : Machine) → ValidInputs map m → ((n : ℕ) → Fails m.lent n → ⊥) → (count : ℕ)
        → Encodes m.lent 20 count → Says 0x07 (256 * count + 20) (answer_to prims map PowerUp m)
    -- "Success: Ready", with the state and the count that were decoded
    pub done : (m : Machine) → ValidInputs map m → ((n : ℕ) → Fails m.lent n → ⊥) → (state count : ℕ) → (state ≡ 20 → ⊥)
        → Encodes m.lent state count
        → let s = (machine_after prims map PowerUp m).session in
        Says 0x00 (256 * count + state) (answer_to prims map PowerUp m) × (s.phase ≡ phase.Ready) × (s.state ≡ state) × (s.count ≡ count)
    -- "An integrity verdict is the first partition that fails a power-up's digest check, or none."; no other command has one
    pub verdicts : (m : Machine) → ValidInputs map m
        → let seen = (step prims map PowerUp m).verdicts in
        ((n : ℕ) → (seen ≡ Some n ∷ []) ↔ FirstFails m.lent n) × ((seen ≡ None ∷ []) ↔ ((n : ℕ) → Fails m.lent n → ⊥))
    pub no_verdict : (m : Machine) (x : Command) → not_power_up x → (step prims map x m).verdicts ≡ []
    -- "sensed digests of 0 to 5 are the stored ones"; the record's other entries are zero
    pub sensed : (m : Machine) → ValidInputs map m → code_of (answer_to prims map PowerUp m) ≡ 0x00 → (n : ℕ)
        → let entry = sensed_at (machine_after prims map PowerUp m).session n in
        (Digested map n → entry ≡ digest_in map n m.lent.cells) × ((Digested map n → ⊥) → entry ≡ 0)
    -- "the copy holds 2 to 6, secret data unscrambled, and zero for 0 and 1": word by word
    pub copy : (m : Machine) → ValidInputs map m → code_of (answer_to prims map PowerUp m) ≡ 0x00 → (j : ℕ) → j < limit map / 2
        → Latched m.lent j (get_or (machine_after prims map PowerUp m).lent.copy j 0)
