-- One record's run: the next record is read and executed, and gives a line; or the script ends, or a refusal's line is the last.
use Rattle.std.specs.Prelude.{ℕ, zero, suc, ◌+◌, List, ◌++◌}
use Rattle.partitions.specs.Map.{Map}
use Rattle.model.specs.Answers.{code_of, value_of}
use Rattle.model.specs.Lent.{Lent, Machine}
use Rattle.chip.specs.Chip.{machine_of, result_for}
use Rattle.script.specs.declared.Reading.{Reading}
use Rattle.script.specs.declared.Reading.TheVariants.{Record, End, Refused}
use Rattle.script.specs.Records.{kind_of, refusal_code, next_at}
use Rattle.script.specs.Lines.{line_of, end_line}
use Rattle.transcript.specs.declared.Continuation.{Continuation}
use Rattle.transcript.specs.declared.Continuation.TheVariants.{Continues, Stops, Ends}
use Rattle.transcript.specs.declared.RunOutcome.{RunOutcome}
use Rattle.transcript.specs.Transcript.{refused_kind}

-- the machine after it, how it goes on with its line, and the place
pub record Run : Type 0 where
  pub machine : Machine
  pub continuation : Continuation
  pub place : ℕ

-- by what stands at the place: a record executed, the end, or a refusal's line
unfoldable pub run_by : Map → Reading → List ℕ → ℕ → Machine → Run
run_by map (Record command next) script place m =
    let r = result_for map command m in
    record { machine = r.machine; continuation = Continues (line_of (kind_of command) (code_of r.answer) (value_of r.answer)); place = next }
run_by map End script place m = record { machine = m; continuation = Ends; place = place }
run_by map (Refused refusal at) script place m =
    record { machine = m; continuation = Stops (line_of (refused_kind script refusal at) (refusal_code refusal) at); place = place }

unfoldable pub run_of : Map → List ℕ → ℕ → Machine → Run
run_of map script place m = run_by map (next_at script place) script place m

-- what is lent after it, with what it gave back
abbrev pub run_with : Lent → RunOutcome → Run
run_with l t = record { machine = machine_of l t.session; continuation = t.continuation; place = t.place }

-- how it goes on where no record was found; a record never comes here (its clause is never asked), and counts as the end
abbrev pub stopped_of : Reading → List ℕ → Continuation
stopped_of (Record command next) script = Ends
stopped_of End script = Ends
stopped_of (Refused refusal at) script = Stops (line_of (refused_kind script refusal at) (refusal_code refusal) at)

-- ---- records one after the other, as the bench program runs them

-- what is printed from a record on, after `count` lines: its line and the rest, its line and the end line, or the end line
unfoldable pub after_record : Continuation → ℕ → List ℕ → List ℕ
after_record (Continues line) count rest = line ++ rest
after_record (Stops line) count rest = line ++ end_line (count + 1)
after_record Ends count rest = end_line count

-- at most n records
unfoldable pub runs_from : Map → ℕ → List ℕ → ℕ → Machine → ℕ → List ℕ
runs_from map zero script place m count = end_line count
runs_from map (suc n) script place m count =
    let t = run_of map script place m in
    after_record t.continuation count (runs_from map n script t.place t.machine (count + 1))
