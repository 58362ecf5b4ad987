-- No place, denied, or the granule of the cells.
use mathlib.Core.Path.{◌≡◌, refl, sym, ◌∙◌}
use Rattle.std.specs.Prelude.{Ok}
use Rattle.std.proofs.lemmas.Result.{err_from_is_err_and}
use Rattle.partitions.specs.Maps.{map_of}
use Rattle.partitions.proofs.Maps.{maps-fit}
use Rattle.chip.specs.Chip.{lent_of, machine_of}
use Rattle.direct_access.specs.Access.{reached}
use Rattle.direct_access.proofs.Places.{held}
use Rattle.direct_access.proofs.Decisions.{read-decided}
use Rattle.direct_access.proofs.Results.{stopped, denied, answered}
use Rattle.direct_access.proofs.read_answer.Goals as goal
use Rattle.direct_access.proofs.read_answer.Goals.{After-read_denied}

at : (t : After-read_denied) → let a = t.args in
    reached (map_of a.chip.map) (machine_of (lent_of a.cells.now a.copy.now a.chip.constants.now) a.session) a.address ≡ Ok t.in_ok-place.place
at t = sym t.reach.ensures ∙ t.in_ok-place.was

pub returns-in_err-place : goal.returns-in_err-place
returns-in_err-place c =
    let e = err_from_is_err_and c.from_residual.result c.from_residual.ensures.1 in
    rw (e.1, e.2) (stopped (read-decided _ _ _) (sym c.reach.ensures ∙ c.in_err-place.was))

pub returns-then-read_denied : goal.returns-then-read_denied
returns-then-read_denied c =
    denied (read-decided _ _ _) (at (goal.at.returns-then-read_denied c).After-read_denied)
    (rw (← c.sensed_locked-locked.ensures, ← c.read_locked-read_locked.ensures) (sym c.if-read_denied.ensures))

pub read_value-requires : goal.read_value-requires
read_value-requires c =
    let h = held _ _ _ (maps-fit _) _ (at (goal.at.read_value-requires c).After-read_denied) in
    (h.granule-in-cells, h.few)

pub returns : goal.returns
returns c =
    answered (read-decided _ _ _) (at (goal.at.returns c).After-read_denied)
    (rw (← c.sensed_locked-locked.ensures, ← c.read_locked-read_locked.ensures) (sym c.if-read_denied.ensures)) refl c.read_value.ensures
