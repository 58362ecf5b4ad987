-- What a power-up leaves once it is known how it ends.
use Rattle.std.specs.Prelude.{Result, Ok, Err}
use Rattle.partitions.specs.Map.{Map}
use Rattle.life_cycle.specs.declared.LifeCycle.{LifeCycle}
use Rattle.model.specs.declared.Reason.{Reason}
use Rattle.model.specs.declared.Phase.TheVariants.{Dead}
use Rattle.model.specs.declared.Failure.{Failure}
use Rattle.model.specs.declared.Outcome.{Outcome}
use Rattle.model.specs.Session.{no_digests, unlocked}
use Rattle.model.specs.Lent.{Lent, with_copy}
use Rattle.model.specs.PowerUp.{PowerUpEnd, fails, succeeds, powered_copy, powered_session, powered_answer}
use Rattle.model.specs.Step.{Answered}
use Rattle.chip.specs.Chip.{primitives, machine_of}

-- how a power-up ends, as the code returns it
abbrev pub ended_as : PowerUpEnd → Result LifeCycle (Reason × Failure)
ended_as (fails reason failure) = Err (reason, failure)
ended_as (succeeds state count) = Ok (record { state = state; count = count })

-- the model's result, for an end that depends on what is lent
abbrev pub powered_result : Map → (Lent → PowerUpEnd) → Lent → Answered
powered_result map w l =
    record {
      machine = machine_of (with_copy (powered_copy primitives map (w l) l) l) (powered_session map (w l) l);
      answer = powered_answer (w l);
    }

-- "A 6 or 7 here sets .. sensed digests, state and count to zero"
abbrev pub dead_outcome : Reason → Failure → Outcome
dead_outcome reason failure = record { session = unlocked (Dead reason) no_digests 0 0; answer = Err failure }
