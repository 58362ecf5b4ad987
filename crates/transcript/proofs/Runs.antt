-- Laws of one record's run, over what its code found. The idea: the reading decides which case of `run_by` is due.
use Prim.Native.Nat.{ℕ}
use mathlib.Core.Path.{◌≡◌, refl}
use mathlib.Core.List.{List}
use Rattle.partitions.specs.Map.{Map}
use Rattle.model.specs.declared.Session.{Session}
use Rattle.model.specs.declared.Command.{Command}
use Rattle.model.specs.Answers.{code_of, value_of}
use Rattle.model.specs.Lent.{Lent, Machine}
use Rattle.model.specs.Step.{Answered}
use Rattle.chip.specs.Chip.{machine_of, result_for}
use Rattle.script.specs.declared.Reading.{Reading}
use Rattle.script.specs.declared.Reading.TheVariants.{Record, End, Refused}
use Rattle.script.specs.Records.{kind_of, next_at}
use Rattle.script.specs.Lines.{line_of}
use Rattle.transcript.specs.declared.Continuation.TheVariants.{Continues}
use Rattle.transcript.specs.Runs.{Run, run_by, run_of, run_with, stopped_of}

pub run-stopped : (map : Map) (n : Reading) (script : List ℕ) (place : ℕ) (l : Lent) (session : Session)
    → ((command : Command) (next : ℕ) → n ≡ Record command next → ⊥)
    → run_with l (record { session = session; continuation = stopped_of n script; place = place }) ≡ run_by map n script place (machine_of l session)
unfolding run_by
run-stopped map (Record command next) script place l session h = absurd (h command next refl)
run-stopped map End script place l session h = refl
run-stopped map (Refused refusal at) script place l session h = refl

abbrev went : Answered → ℕ → List ℕ → Run
went r next line = record { machine = r.machine; continuation = Continues line; place = next }

pub run-continues : (map : Map) (script : List ℕ) (place : ℕ) (m : Machine) (command : Command) (next : ℕ) (r : Answered) (kind code value : ℕ) (line : List ℕ)
    → next_at script place ≡ Record command next → r ≡ result_for map command m
    → kind ≡ kind_of command → code ≡ code_of r.answer → value ≡ value_of r.answer → line ≡ line_of kind code value
    → went r next line ≡ run_of map script place m
unfolding run_of run_by
run-continues map script place m command next r kind code value line found done k c v l = rw (found, l, k, c, v, done)
