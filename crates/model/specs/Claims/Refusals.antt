-- Demand 1, its last sentence, about every machine, whatever is lent: "A refused command leaves every fuse as it was, except that a life cycle request refused
-- after its count has burned its counter words, one stroke more than its record counts." What such a request has burned is in Transitions.antt (`spent`,
-- `stopped`).
use Rattle.std.specs.Prelude.{ℕ, ◌≡◌, Bool, true, false, ◌||◌, List, ◌∷◌, ◌++◌, eqb}
use Rattle.basics.specs.Choice.{when◌then◌else◌}
use Rattle.partitions.specs.Map.{Map}
use Rattle.model.specs.declared.Reason.{Reason}
use Rattle.model.specs.declared.Reason.TheVariants.{BitCleared}
use Rattle.model.specs.declared.Phase.{Phase}
use Rattle.model.specs.declared.Phase.TheVariants.{Inert, Dead}
use Rattle.model.specs.declared.Command.{Command}
use Rattle.model.specs.declared.Command.TheVariants.{Read, FrontRead, Transition, PowerUp}
use Rattle.model.specs.Session.{reason_code}
use Rattle.model.specs.Answers.{code_of}
use Rattle.model.specs.Lent.{Machine, Primitives}
use Rattle.model.specs.Step.{after, answers, machine_after, answer_to}
use Rattle.model.specs.Claims.Terms.{quiet}

-- the codes with which what is lent is refused
abbrev pub judgement_code : ℕ → Bool
judgement_code code = eqb code 0x10 || eqb code 0x12

-- the codes with which a transition is refused before anything else: these, 0x07, and "0x11 changes nothing"
unfoldable pub early : ℕ → Bool
early code = judgement_code code || eqb code 0x07 || eqb code 0x11

-- "Every later answer leaves the phase Inert (Dead 4 after a 4)."
unfoldable pub phase_after : ℕ → Phase
phase_after code = when eqb code 0x04 then Dead BitCleared else Inert

module _ (prims : Primitives) (map : Map) where
  -- on this machine the command is a read, a front read, or one that is refused and no transition
  pub data Idle (m : Machine) : Command → Type 0 where
    reads : {a : ℕ} → Idle m (Read a)
    front_reads : {a : ℕ} → Idle m (FrontRead a)
    refused : {x : Command} → quiet x → (code_of (answer_to prims map x m) ≡ 0x00 → ⊥) → Idle m x
    unlent : judgement_code (code_of (answer_to prims map PowerUp m)) ≡ true → Idle m PowerUp

  pub record Refusals : Type 0 where
    -- a read, write, front read, digest or read lock that does not answer 0 leaves cells, copy and record as they were
    pub commands : (m : Machine) (x : Command) → quiet x → (code_of (answer_to prims map x m) ≡ 0x00 → ⊥) → machine_after prims map x m ≡ m
    -- a power-up never changes a cell, and one that answers 0x10 or 0x12 changes nothing at all
    pub power_ups : (m : Machine)
        → ((machine_after prims map PowerUp m).lent.cells ≡ m.lent.cells)
        × (judgement_code (code_of (answer_to prims map PowerUp m)) ≡ true → machine_after prims map PowerUp m ≡ m)
    -- a transition that is refused early changes nothing; every later answer leaves the copy and the record but for its phase, and 0x20 leaves the cells
    pub transitions : (m : Machine) (target given : ℕ)
        → let x = Transition target given in
        let code = code_of (answer_to prims map x m) in
        (early code ≡ true → machine_after prims map x m ≡ m)
        × (early code ≡ false
        → ((machine_after prims map x m).lent.copy ≡ m.lent.copy)
        × ((machine_after prims map x m).session
        ≡ record {
          phase = phase_after code;
          sensed = m.session.sensed;
          locks = m.session.locks;
          state = m.session.state;
          count = m.session.count;
        })
        × (code ≡ 0x20 → (machine_after prims map x m).lent.cells ≡ m.lent.cells))
    -- a command that changes something and leaves the phase Dead has answered the reason
    pub deaths : (m : Machine) (x : Command) (reason : Reason) → (machine_after prims map x m ≡ m → ⊥)
        → (machine_after prims map x m).session.phase ≡ Dead reason → code_of (answer_to prims map x m) ≡ reason_code reason
    -- such a command can be left out of a list: what is lent and the record at the end, and every other answer, are the same without it
    pub left_out : (m : Machine) (l₁ l₂ : List Command) (x : Command)
        → let m₁ = after prims map l₁ m in
        Idle m₁ x
        → (after prims map (l₁ ++ x ∷ l₂) m ≡ after prims map (l₁ ++ l₂) m)
        × (answers prims map (l₁ ++ x ∷ l₂) m ≡ answers prims map l₁ m ++ answer_to prims map x m₁ ∷ answers prims map l₂ m₁)
        × (answers prims map (l₁ ++ l₂) m ≡ answers prims map l₁ m ++ answers prims map l₂ m₁)
