-- Read locks: what a lock refuses, until when, and that nothing else looks at it.
use Rattle.std.specs.Prelude.{ℕ, ◌<◌, ◌≡◌, Bool, true, List, ◌∷◌, length, set, Ok, Err}
use Rattle.basics.specs.Choice.{when◌then◌else◌}
use Rattle.partitions.specs.Map.{Map, number_at, partition, partition_at}
use Rattle.model.specs.declared.Failure.TheVariants.{Denied, NotReady}
use Rattle.model.specs.declared.Command.{Command}
use Rattle.model.specs.declared.Command.TheVariants.{Read, ReadLock, PowerUp}
use Rattle.model.specs.Answers.{code_of}
use Rattle.model.specs.Session.{is_ready, with_locks}
use Rattle.model.specs.Lent.{Machine, Primitives}
use Rattle.model.specs.Step.{after, machine_after, answer_to}
use Rattle.model.specs.Claims.Terms.{ValidInputs, Says, NoPowerUp}
use Rattle.model.specs.Claims.Numbers.{Lockable}
use Rattle.model.specs.declared.Phase.TheVariants as phase

-- the command reads data of partition n
pub data ReadsData (map : Map) (n : ℕ) : Command → Type 0 where
  reads : {a : ℕ} → number_at map a ≡ n → a < (partition_at map a).digest → ReadsData map n (Read a)

module _ (prims : Primitives) (map : Map) where
  pub record ReadLocks : Type 0 where
    -- "5 unless 0 or 1 .. locking again answers 0": the kinds with a read lock, and the record gains that lock alone
    pub exactly : (m : Machine) → ValidInputs map m → m.session.phase ≡ phase.Ready → (n : ℕ)
        → let answer = answer_to prims map (ReadLock n) m in
        (n < length map → Lockable (partition map n).kind
        → (answer ≡ Ok 0) × (machine_after prims map (ReadLock n) m
        ≡ record { lent = m.lent; session = with_locks (set m.session.locks n true) m.session }))
        × ((n < length map → Lockable (partition map n).kind → ⊥) → Says 0x05 0 answer)
    -- "Lasts until power-up": from a read lock that answers 0 on, every read of the partition's data answers 5, or 7 where the phase is not Ready
    pub lasts : (m : Machine) → ValidInputs map m → (l₀ : List Command) (n : ℕ)
        → let m₀ = after prims map (PowerUp ∷ l₀) m in
        code_of (answer_to prims map (ReadLock n) m₀) ≡ 0x00
        → (l : List Command) → NoPowerUp l
        → let m₁ = after prims map l (machine_after prims map (ReadLock n) m₀) in
        (a : ℕ) → number_at map a ≡ n → a < (partition_at map a).digest
        → answer_to prims map (Read a) m₁ ≡ (when is_ready m₁.session.phase then Err Denied else Err NotReady)
    -- "for data, not digests, also if the partition is read-locked": all else is as without the lock, every answer and all that is lent, whatever follows
    pub others : (m : Machine) (n : ℕ) (l : List Command)
        → let m₁ = after prims map l (machine_after prims map (ReadLock n) m) in
        let m₂ = after prims map l m in
        (m₁.lent ≡ m₂.lent) × ((x : Command) → (ReadsData map n x → ⊥) → answer_to prims map x m₁ ≡ answer_to prims map x m₂)
    -- a read lock of a partition whose kind has none says nothing: whatever locks the record holds, a read there answers the same
    pub lockless : (m : Machine) (a : ℕ) → (Lockable (partition_at map a).kind → ⊥) → (locks : List Bool)
        → answer_to prims map (Read a) (record { lent = m.lent; session = with_locks locks m.session }) ≡ answer_to prims map (Read a) m
