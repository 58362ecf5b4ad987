-- The judgement of what is lent and of the phase, which every command but power-up begins with.
use Rattle.std.specs.Prelude.{List, ℕ, Option, Some, None}
use Rattle.basics.specs.Choice.{when◌then◌else◌}
use Rattle.partitions.specs.Map.{Map}
use Rattle.model.specs.declared.Phase.{Phase}
use Rattle.model.specs.declared.Sizes.{Sizes}
use Rattle.model.specs.declared.Failure.{Failure}
use Rattle.model.specs.declared.Failure.TheVariants.{NotReady}
use Rattle.model.specs.Session.{is_ready}
use Rattle.model.specs.Step.{judgement}

-- every command but power-up tests the phase next: "phase is not Ready (except at power-up)"
unfoldable pub admission : Map → Sizes → List ℕ → Phase → Option Failure
admission map sizes constants phase =
    elim (judgement map sizes constants) [ Some failure ↦ Some failure | None ↦ when is_ready phase then None else Some NotReady ]
