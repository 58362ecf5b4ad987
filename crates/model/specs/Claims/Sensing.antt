-- Sensing: what a power-up finds, and that it stays until the next.
use Rattle.std.specs.Prelude.{ℕ, ◌/◌, ◌≡◌, true, false, List, [], ◌∷◌, ◌++◌, eqb, replicate, Ok, None}
use Rattle.basics.specs.Choice.{when◌then◌else◌}
use Rattle.basics.specs.Range.{listed}
use Rattle.partitions.specs.Map.{Map, number_at, partition, partition_at, limit, number_of_kind}
use Rattle.model.specs.declared.Phase.TheVariants.{Off, Dead}
use Rattle.model.specs.declared.Command.{Command}
use Rattle.model.specs.declared.Command.TheVariants.{FrontRead, ReadLock, PowerUp}
use Rattle.model.specs.Answers.{code_of}
use Rattle.model.specs.Session.{fresh_session, is_ready}
use Rattle.model.specs.Lent.{Machine, Primitives, with_copy}
use Rattle.model.specs.Commands.{granule, stored_digest}
use Rattle.model.specs.PowerUp.{digests, first_failing, life_cycle_in, copy_word}
use Rattle.model.specs.Step.{after, machine_after, answer_to}
use Rattle.model.specs.Claims.Terms.{ValidInputs, Digested, SamePartition, quiet, NoPowerUp, valid_life}
use Rattle.partitions.specs.declared.Kind.TheVariants as kind
use Rattle.model.specs.declared.Reason.TheVariants as reason

abbrev pub Quiet : List Command → Type 0
Quiet [] = Unit {0}
Quiet (x ∷ l) = quiet x × Quiet l

module _ (prims : Primitives) (map : Map) where
  -- what holds of a Ready chip whose last power-up found the cells c₀
  pub record Since (c₀ : List ℕ) (m : Machine) : Type 0 where
    pub right : ValidInputs map m
    pub ready : is_ready m.session.phase ≡ true
    -- every nonzero stored digest was the one recomputed
    pub checked : first_failing prims map m.lent.constants c₀ ≡ None
    -- "sensed digests of 0 to 5 are the stored ones; the copy holds 2 to 6, secret data unscrambled": both as found then
    pub sensed : m.session.sensed ≡ digests c₀ map
    pub copy : m.lent.copy ≡ listed (copy_word prims map m.lent.constants c₀) 0 (limit map / 2)
    -- the life cycle words are those found then, and decode to the record's state, which is not SCRAP (20), and count
    pub unmoved : SamePartition map (number_of_kind map kind.LifeCycle) c₀ m.lent.cells
    pub life : life_cycle_in map m.lent ≡ valid_life m.session.state m.session.count
    pub not_scrap : m.session.state ≡ 20 → ⊥
    -- a partition that was found locked is as it was then
    pub locked : (n : ℕ) → Digested map n → (stored_digest (partition map n) c₀ ≡ 0 → ⊥) → SamePartition map n c₀ m.lent.cells

  pub record Sensing : Type 0 where
    -- "A fresh record is Off, all else zero."
    pub fresh : fresh_session ≡ record { phase = Off; sensed = replicate 10 0; locks = replicate 10 false; state = 0; count = 0 }
    -- "Cells and sensed copy are separate lent buffers": what a power-up latched stays until the next
    pub since : (m : Machine) → ValidInputs map m → (l₀ l₁ : List Command) → NoPowerUp l₁
        → let m₁ = after prims map (l₀ ++ PowerUp ∷ l₁) m in
        is_ready m₁.session.phase ≡ true → Since (after prims map l₀ m).lent.cells m₁
    -- "HW_CFG data from the sensed copy": a front read that answers 0 answers the words that the last power-up found
    pub fronts : (m : Machine) → ValidInputs map m → (l₀ l₁ : List Command) → NoPowerUp l₁ → (a value : ℕ)
        → answer_to prims map (FrontRead a) (after prims map (l₀ ++ PowerUp ∷ l₁) m) ≡ Ok value
        → value ≡ granule (partition_at map a) (after prims map l₀ m).lent.cells a
    -- once a power-up has found a partition locked (HW_CFG begins with the DEVICE_ID), every front read of it that ever answers 0 answers the words that were
    -- stored then
    pub device : (m : Machine) → ValidInputs map m → (n : ℕ) → Digested map n → (l₁ l₂ : List Command)
        → (stored_digest (partition map n) (after prims map l₁ m).lent.cells ≡ 0 → ⊥)
        → (a value : ℕ) → number_at map a ≡ n → answer_to prims map (FrontRead a) (after prims map (l₁ ++ PowerUp ∷ l₂) m) ≡ Ok value
        → value ≡ granule (partition map n) (after prims map l₁ m).lent.cells a
    -- a list without power-up and transition leaves the copy and the sensed digests as they were, on any machine
    pub unsensed : (m : Machine) (l : List Command) → Quiet l
        → ((after prims map l m).lent.copy ≡ m.lent.copy) × ((after prims map l m).session.sensed ≡ m.session.sensed)
    -- whatever it answers, a command that is neither of these two nor a read lock leaves the copy and the record
    pub recorded : (m : Machine) (x : Command) → quiet x → ((n : ℕ) → x ≡ ReadLock n → ⊥)
        → ((machine_after prims map x m).lent.copy ≡ m.lent.copy) × ((machine_after prims map x m).session ≡ m.session)
    -- "valid constants unchanged": no command writes them
    pub constants : (m : Machine) (x : Command) → (machine_after prims map x m).lent.constants ≡ m.lent.constants
    -- "Clears read locks."
    pub cleared : (m : Machine) → ValidInputs map m → (machine_after prims map PowerUp m).session.locks ≡ replicate 10 false
    -- "A 6 or 7 here sets the copy to all zero, and sensed digests, state and count to zero"; "and Dead 6", "and Dead 7"; no cell changes
    pub failed : (m : Machine) → ValidInputs map m
        → let code = code_of (answer_to prims map PowerUp m) in
        (code ≡ 0x00 → ⊥)
        → machine_after prims map PowerUp m
        ≡ record {
          lent = with_copy (listed (λ j. 0) 0 (limit map / 2)) m.lent;
          session = record {
            phase = Dead (when eqb code 0x06 then reason.DigestFailed else reason.LifeCycleFailed);
            sensed = replicate 10 0;
            locks = replicate 10 false;
            state = 0;
            count = 0;
          };
        }
    -- "Power-up, from any phase": the machine after it, and the answer, depend on cells and constants alone
    pub alone : (m n : Machine) → ValidInputs map m → ValidInputs map n → m.lent.cells ≡ n.lent.cells → m.lent.constants ≡ n.lent.constants
        → (machine_after prims map PowerUp m ≡ machine_after prims map PowerUp n) × (answer_to prims map PowerUp m ≡ answer_to prims map PowerUp n)
    -- a second power-up right after it changes nothing, whatever is lent, and answers the same
    pub again : (m : Machine)
        → let m₁ = machine_after prims map PowerUp m in
        (machine_after prims map PowerUp m₁ ≡ m₁) × (answer_to prims map PowerUp m₁ ≡ answer_to prims map PowerUp m)
