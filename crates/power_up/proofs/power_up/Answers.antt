-- A refusal changes nothing; what is accepted is powered up.
use mathlib.Core.Path.{◌≡◌, sym, ◌∙◌}
use Rattle.std.specs.Prelude.{None}
use Rattle.partitions.specs.Maps.{map_of}
use Rattle.chip.specs.Chip.{lent_of, machine_of}
use Rattle.chip.proofs.Acting.{judgement_of, refused-result}
use Rattle.chip.proofs.Judging.{accepts}
use Rattle.model.specs.declared.Command.TheVariants.{PowerUp}
use Rattle.power_up.proofs.PowerUpEnd.{powered-dead, powered-ready}
use Rattle.power_up.proofs.power_up.Goals as goal
use Rattle.power_up.proofs.power_up.Goals.{In_default}

accepted : (t : In_default) → let a = t.args in
    judgement_of (map_of a.chip.map) (machine_of (lent_of a.cells.now a.copy.now a.chip.constants.now) a.session) ≡ None
accepted t = sym (rw (t.sizes_of.ensures, t.in_default.is) at t.judge.ensures)

pub returns-in-Err : goal.returns-in-Err
returns-in-Err c =
    let a = c.args in
    refused-result _ PowerUp (machine_of (lent_of a.cells.now a.copy.now a.chip.constants.now) a.session) _ (sym (rw c.sizes_of.ensures at c.in-Err.ensures))

pub invariant_of-stored : goal.invariant_of-stored
invariant_of-stored c = record { whole = (accepts _ _ _ (accepted (goal.at.invariant_of-stored c).In_default)).cells_right }

pub ready-requires : goal.ready-requires
ready-requires c = (accepts _ _ _ (accepted (goal.at.ready-requires c).In_default)).copy-right

pub returns-in-Ok : goal.returns-in-Ok
returns-in-Ok c =
    let a = c.args in
    powered-ready _ (machine_of (lent_of a.cells.now a.copy.now a.chip.constants.now) a.session) (accepted (goal.at.returns-in-Ok c).In_default) _
    (sym (c.checked.ensures _) ∙ c.in-Ok.is) c.ready.ensures

pub returns-in-Err-checked : goal.returns-in-Err-checked
returns-in-Err-checked c =
    let a = c.args in
    let known = accepted (goal.at.returns-in-Err-checked c).In_default in
    powered-dead _ (machine_of (lent_of a.cells.now a.copy.now a.chip.constants.now) a.session) known _ _ (sym (c.checked.ensures _) ∙ c.in-Err-checked.is)
    (accepts _ _ _ known).copy-right c.dead.ensures.copy c.dead.ensures.outcome
