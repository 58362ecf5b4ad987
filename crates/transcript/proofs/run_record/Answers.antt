-- No record: the reading decides. A record: what `execute` made, with the line of its answer.
use mathlib.Core.Path.{sym, ◌∙◌}
use Rattle.partitions.specs.Maps.{map_of}
use Rattle.chip.specs.Chip.{lent_of, machine_of, result_of}
use Rattle.transcript.specs.Runs.{run_of}
use Rattle.transcript.proofs.Runs.{run-stopped, run-continues}
use Rattle.transcript.proofs.run_record.Goals as goal

pub returns-in_default : goal.returns-in_default
unfolding run_of
returns-in_default c =
    let o = c.args in
    rw (c.stopped.ensures, ← c.next-reading.ensures)
    (run-stopped (map_of o.chip.map) c.next-reading.result o.reader.script.now o.reader.place (lent_of o.cells.now o.copy.now o.chip.constants.now) o.session
    c.in_default.not-Record)

pub returns : goal.returns
returns c =
    run-continues
    (map_of c.args.chip.map)
    c.args.reader.script.now
    c.args.reader.place
    (machine_of (lent_of c.args.cells.now c.args.copy.now c.args.chip.constants.now) c.args.session)
    c.in-Record.command
    c.in-Record.next
    (result_of (lent_of c.execute-answer.new.cells c.execute-answer.new.copy c.args.chip.constants.now) c.execute-answer.result)
    _ _ _ _
    (sym c.next-reading.ensures ∙ c.in-Record.is)
    c.execute-answer.ensures
    (c.from-kind.ensures ∙ c.kind_of.ensures)
    c.code_of.ensures
    c.value_of.ensures
    c.line-line.ensures
