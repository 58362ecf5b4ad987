-- No place, denied, or the digest's location is programmed with what is computed over the data words.
use mathlib.Core.Path.{◌≡◌, refl, sym, ◌∙◌}
use Rattle.std.specs.Prelude.{Ok}
use Rattle.std.proofs.lemmas.Result.{err_from_is_err_and}
use Rattle.partitions.specs.Maps.{map_of}
use Rattle.partitions.proofs.Maps.{maps-fit}
use Rattle.chip.specs.Chip.{lent_of, machine_of}
use Rattle.chip.proofs.Reading.{digest-within}
use Rattle.direct_access.specs.Access.{reached}
use Rattle.direct_access.proofs.Places.{held}
use Rattle.direct_access.proofs.Decisions.{digest_now, digest-decided}
use Rattle.direct_access.proofs.Results.{stopped, denied, burnt}
use Rattle.direct_access.proofs.digest_answer.Goals as goal
use Rattle.direct_access.proofs.digest_answer.Goals.{After-digest_denied, After-computed_digest-value}

at : (t : After-digest_denied) → let a = t.args in
    reached (map_of a.chip.map) (machine_of (lent_of a.cells.now a.copy.now a.chip.constants.now) a.session) a.address ≡ Ok t.in_ok-place.place
at t = sym t.reach.ensures ∙ t.in_ok-place.was

-- the digest is that of the data words, which lie in the cells
digested : (t : After-computed_digest-value) → let a = t.args in
    t.computed_digest-value.result ≡ digest_now (machine_of (lent_of a.cells.now a.copy.now a.chip.constants.now) a.session) t.in_ok-place.place.partition
digested t =
    let h = held _ _ _ (maps-fit _) _ (sym t.reach.ensures ∙ t.in_ok-place.was) in
    t.computed_digest-value.ensures ∙ digest-within _ _ t.in_ok-place.place.partition h.data-first h.data-in-cells

pub returns-in_err-place : goal.returns-in_err-place
returns-in_err-place c =
    let e = err_from_is_err_and c.from_residual.result c.from_residual.ensures.1 in
    rw (e.1, e.2) (stopped (digest-decided _ _ _) (sym c.reach.ensures ∙ c.in_err-place.was))

pub returns-then-digest_denied : goal.returns-then-digest_denied
returns-then-digest_denied c =
    denied (digest-decided _ _ _) (at (goal.at.returns-then-digest_denied c).After-digest_denied)
    (rw (← c.sensed_locked.ensures) (sym c.if-digest_denied.ensures))

pub returns : goal.returns
returns c =
    burnt (digest-decided _ _ _) (at (goal.at.returns c).After-digest_denied) (rw (← c.sensed_locked.ensures) (sym c.if-digest_denied.ensures))
    (sym (rw (c.split.ensures, digested (goal.at.returns c).After-computed_digest-value) refl))
    c.programmed.ensures.words c.programmed.ensures.answer
