-- No chip fails a power-up without a command that led to it: after a power-up that answered 0, what a later 6 or 7 was caused by.
use Rattle.std.specs.Prelude.{ℕ, ◌≡◌, false, List, ◌∷◌, ◌++◌}
use Rattle.partitions.specs.Map.{Map, number_at, partition, partition_at, in_digest}
use Rattle.model.specs.declared.Command.{Command}
use Rattle.model.specs.declared.Command.TheVariants.{Write, Digest, Transition, PowerUp}
use Rattle.model.specs.Answers.{code_of}
use Rattle.model.specs.Lent.{Machine, Primitives}
use Rattle.model.specs.Step.{after, machine_after, answer_to}
use Rattle.model.specs.Claims.Terms.{ValidInputs, Says, NoPowerUp}

module _ (prims : Primitives) (map : Map) where
  -- in a list: a digest command of partition n that answers 0, and later, before any power-up, a write to its data that answers 0
  pub record WrittenAfterDigest (m : Machine) (l : List Command) (n : ℕ) : Type 0 where
    pub before : List Command
    pub between : List Command
    pub behind : List Command
    pub at : ℕ
    pub address : ℕ
    pub value : ℕ
    pub split : l ≡ before ++ Digest at ∷ between ++ Write address value ∷ behind
    pub no_power_up : NoPowerUp between
    pub digest_part : at ≡ (partition map n).start
    pub written_part : number_at map address ≡ n
    pub written_data : in_digest (partition_at map address) address ≡ false
    pub digested : code_of (answer_to prims map (Digest at) (after prims map before m)) ≡ 0x00
    pub written : code_of (answer_to prims map (Write address value) (after prims map (before ++ Digest at ∷ between) m)) ≡ 0x00

  -- in a list: a transition to SCRAP that answers 0
  pub record Scrapped (m : Machine) (l : List Command) : Type 0 where
    pub before : List Command
    pub behind : List Command
    pub given : ℕ
    pub split : l ≡ before ++ Transition 20 given ∷ behind
    pub moved : code_of (answer_to prims map (Transition 20 given) (after prims map before m)) ≡ 0x00

  pub record FailedPowerUps : Type 0 where
    -- after a power-up that answered 0, a later one answers 6 for a partition only if it was written after its digest command
    pub sixes : (m : Machine) → ValidInputs map m → code_of (answer_to prims map PowerUp m) ≡ 0x00 → (l : List Command) (n : ℕ)
        → Says 0x06 n (answer_to prims map PowerUp (after prims map (PowerUp ∷ l) m)) → WrittenAfterDigest (machine_after prims map PowerUp m) l n
    -- and 7 only if a transition to SCRAP answered 0
    pub sevens : (m : Machine) → ValidInputs map m → code_of (answer_to prims map PowerUp m) ≡ 0x00 → (l : List Command)
        → code_of (answer_to prims map PowerUp (after prims map (PowerUp ∷ l) m)) ≡ 0x07 → Scrapped (machine_after prims map PowerUp m) l
