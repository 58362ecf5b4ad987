-- No place, denied, or the granule of the copy.
use mathlib.Core.Path.{◌≡◌, refl, sym, ◌∙◌}
use Rattle.std.specs.Prelude.{Ok}
use Rattle.std.proofs.lemmas.Result.{err_from_is_err_and}
use Rattle.partitions.specs.Maps.{map_of}
use Rattle.partitions.proofs.Maps.{maps-fit}
use Rattle.chip.specs.Chip.{lent_of, machine_of}
use Rattle.direct_access.specs.Access.{reached}
use Rattle.direct_access.proofs.Places.{held}
use Rattle.direct_access.proofs.Decisions.{front-decided}
use Rattle.direct_access.proofs.Results.{stopped, denied, answered}
use Rattle.direct_access.proofs.front_read_answer.Goals as goal
use Rattle.direct_access.proofs.front_read_answer.Goals.{After-front_read_denied}

at : (t : After-front_read_denied) → let a = t.args in
    reached (map_of a.chip.map) (machine_of (lent_of a.cells.now a.copy.now a.chip.constants.now) a.session) a.address ≡ Ok t.in_ok-place.place
at t = sym t.reach.ensures ∙ t.in_ok-place.was

pub returns-in_err-place : goal.returns-in_err-place
returns-in_err-place c =
    let e = err_from_is_err_and c.from_residual.result c.from_residual.ensures.1 in
    rw (e.1, e.2) (stopped (front-decided _ _ _) (sym c.reach.ensures ∙ c.in_err-place.was))

pub returns-then-front_read_denied : goal.returns-then-front_read_denied
returns-then-front_read_denied c =
    denied (front-decided _ _ _) (at (goal.at.returns-then-front_read_denied c).After-front_read_denied) (sym c.if-front_read_denied.ensures)

pub granule-requires : goal.granule-requires
granule-requires c =
    let h = held _ _ _ (maps-fit _) _ (at (goal.at.granule-requires c).After-front_read_denied) in
    (h.granule-in-copy, h.few)

pub returns : goal.returns
returns c =
    answered (front-decided _ _ _) (at (goal.at.returns c).After-front_read_denied) (sym c.if-front_read_denied.ensures) refl c.granule.ensures
