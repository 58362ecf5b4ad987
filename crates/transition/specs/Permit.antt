-- What the code of a transition finds once the stroke is spent: whether table and token permit the move, and what the move comes to.
use Rattle.std.specs.Prelude.{ℕ, Bool, Result, Ok, Err, ⊤}
use Rattle.basics.specs.Choice.{when◌then◌else◌}
use Rattle.model.specs.declared.Reason.TheVariants.{BitCleared}
use Rattle.model.specs.declared.Phase.TheVariants.{Inert, Dead}
use Rattle.model.specs.declared.Session.{Session}
use Rattle.model.specs.declared.Failure.{Failure}
use Rattle.model.specs.declared.Failure.TheVariants.{NotBlank, TokenDiffers}
use Rattle.model.specs.Answers.{Answer}
use Rattle.model.specs.declared.Outcome.{Outcome}
use Rattle.model.specs.Session.{in_phase}
use Rattle.model.specs.Lent.{Lent}
use Rattle.model.specs.Commands.{Authorization, refused, free, by_token}

-- the test behind 0x23
unfoldable pub compared_as : Bool → Result ⊤ Failure
compared_as same = when same then Ok tt else Err TokenDiffers

-- an authorization, with what is lent
unfoldable pub permit_of : Lent → Authorization → Result ⊤ Failure
permit_of l (refused failure) = Err failure
permit_of l free = Ok tt
permit_of l (by_token test) = compared_as (test l)

-- "0x11 changes nothing", nor does a 7
abbrev pub as_before : Session → Failure → Outcome
as_before s failure = record { session = s; answer = Err failure }

-- "Every later answer leaves the phase Inert (Dead 4 after a 4)."
abbrev pub inert : Session → Answer → Outcome
inert s answer = record { session = in_phase Inert s; answer = answer }

abbrev pub dead : Session → ℕ → Outcome
dead s cell = record { session = in_phase (Dead BitCleared) s; answer = Err (NotBlank cell) }

-- the outcome of programming the state words
abbrev pub moved_as : Session → Result ⊤ ℕ → Outcome
moved_as s (Ok done) = inert s (Ok 0)
moved_as s (Err cell) = dead s cell
