-- What the code of the commands on an address finds on its way: the place of the address, and the answer.
use Rattle.std.specs.Prelude.{ℕ, leb, Some, None, Result, Ok, Err, ⊤}
use Rattle.basics.specs.Choice.{when◌then◌else◌}
use Rattle.partitions.specs.Map.{Map, number_at, partition_at, limit}
use Rattle.model.specs.declared.Failure.{Failure}
use Rattle.model.specs.declared.Failure.TheVariants.{NotBlank, Denied}
use Rattle.model.specs.declared.Command.{Command}
use Rattle.model.specs.declared.Session.{Session}
use Rattle.model.specs.Answers.{Answer}
use Rattle.model.specs.Lent.{Lent, Machine, sizes_of}
use Rattle.chip.specs.Chip.{Executes}
use Rattle.chip.specs.Judging.{admission}
use Rattle.direct_access.specs.declared.Place.{Place}

-- an address of the map, with the number of its partition, and the partition
abbrev pub place_at : Map → ℕ → Place
place_at map a = record { number = number_at map a; partition = partition_at map a; address = a }

-- the place of an address: the command is refused before it, the address is past the map, or it has one
unfoldable pub reached : Map → Machine → ℕ → Result Place Failure
reached map m a =
    elim (admission map (sizes_of m.lent) m.lent.constants m.session.phase) [
      | Some failure ↦ Err failure
      | None ↦ when leb (limit map) a then Err Denied else Ok (place_at map a)
    ]

-- a value where the words were programmed, 4 where a cell refused
abbrev pub programmed_answer : Result ⊤ ℕ → ℕ → Answer
programmed_answer (Ok done) value = Ok value
programmed_answer (Err cell) value = Err (NotBlank cell)

-- the promise of a command that leaves the session record as it was, by its answer
abbrev pub Answers : Map → Command → Session → Lent → Lent → Answer → Type 0
Answers map x session before after answer = Executes map x session before after (record { session = session; answer = answer })
