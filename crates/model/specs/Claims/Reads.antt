-- Reads and front reads: each code if and only if its reason, and what is shown.
use Rattle.std.specs.Prelude.{ℕ, ◌+◌, ◌*◌, ◌/◌, ◌%◌, ◌^◌, ◌≤◌, ◌<◌, ◌≡◌, true, false, List, ◌∷◌, ◌↔◌, get_or, Ok}
use Rattle.words.specs.Words.{number_of, words_of, part_at}
use Rattle.partitions.specs.Map.{Map, number_at, partition_at, limit}
use Rattle.model.specs.declared.Command.TheVariants.{Read, FrontRead}
use Rattle.model.specs.Answers.{code_of}
use Rattle.model.specs.Session.{sensed_at}
use Rattle.model.specs.Lent.{Machine, Primitives}
use Rattle.model.specs.Step.{answer_to}
use Rattle.model.specs.Claims.Terms.{ValidInputs, Says}
use Rattle.model.specs.Claims.Numbers.{KeyAt, Lockable, Shown}
use Rattle.partitions.specs.declared.Kind.TheVariants as kind
use Rattle.model.specs.declared.Phase.TheVariants as phase

module _ (map : Map) where
  -- why a read answers 5: "the address is 0x380 or more or in LIFE_CYCLE; for data, not digests, also if the partition is read-locked or is secret with a
  -- nonzero sensed digest"
  pub data ReadDenied (m : Machine) (a : ℕ) : Type 0 where
    past : limit map ≤ a → ReadDenied m a
    in_life_cycle : (partition_at map a).kind ≡ kind.LifeCycle → ReadDenied m a
    locked : a < (partition_at map a).digest → Lockable (partition_at map a).kind → get_or m.session.locks (number_at map a) false ≡ true → ReadDenied m a
    secret_locked : {first : ℕ} → a < (partition_at map a).digest → KeyAt (partition_at map a).kind first → (sensed_at m.session (number_at map a) ≡ 0 → ⊥)
        → ReadDenied m a

  -- "HW_CFG data"
  pub record InHwCfgData (a : ℕ) : Type 0 where
    pub below : a < limit map
    pub is_hw_cfg : (partition_at map a).kind ≡ kind.HwCfg
    pub is_data : a < (partition_at map a).digest

module _ (prims : Primitives) (map : Map) where
  pub record Reads : Type 0 where
    -- "All numbers are little-endian: the lowest 16 bits stand in the lowest word."
    pub numbers : (word : ℕ) (words : List ℕ) → number_of (word ∷ words) ≡ word + 65536 * number_of words
    pub words : (n x : ℕ) → number_of (words_of n x) ≡ x % 2 ^ (16 * n)
    -- a read on a Ready chip answers 5 where it is denied, else 0
    pub read : (m : Machine) → ValidInputs map m → m.session.phase ≡ phase.Ready → (a : ℕ)
        → let answer = answer_to prims map (Read a) m in
        (Says 0x05 0 answer ↔ ReadDenied map m a) × ((code_of answer ≡ 0x00) ↔ (ReadDenied map m a → ⊥))
    -- "Reads look at cells; the value is the granule's"
    pub shows : (m : Machine) → ValidInputs map m → (a value : ℕ) → answer_to prims map (Read a) m ≡ Ok value
        → Shown prims map m.lent.constants m.lent.cells a value
    -- "HW_CFG data from the sensed copy; any other address 5."
    pub front_read : (m : Machine) → ValidInputs map m → m.session.phase ≡ phase.Ready → (a : ℕ)
        → let answer = answer_to prims map (FrontRead a) m in
        (InHwCfgData map a → answer ≡ Ok (number_of (part_at m.lent.copy (a / 4 * 2) 2))) × ((InHwCfgData map a → ⊥) → Says 0x05 0 answer)
