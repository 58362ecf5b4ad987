-- No place, denied, or the granule is programmed with the words of the value.
use mathlib.Core.Path.{◌≡◌, refl, sym, ◌∙◌}
use Prim.Native.Nat.{◌≤◌}
use native.Mathlib.Omega.{arith}
use lib.ListN.{take}
use lib.Seq.{length-take-le}
use Rattle.std.specs.Prelude.{Ok}
use Rattle.std.proofs.lemmas.Result.{err_from_is_err_and}
use Rattle.words.proofs.Words.{words_take, length-words}
use Rattle.partitions.specs.Maps.{map_of}
use Rattle.partitions.proofs.Maps.{maps-fit}
use Rattle.model.specs.Commands.{stored_form}
use Rattle.chip.specs.Chip.{primitives, lent_of, machine_of}
use Rattle.direct_access.specs.Access.{reached}
use Rattle.direct_access.proofs.Places.{held}
use Rattle.direct_access.proofs.Decisions.{write-decided}
use Rattle.direct_access.proofs.Results.{stopped, denied, burnt}
use Rattle.direct_access.proofs.write_answer.Goals as goal
use Rattle.direct_access.proofs.write_answer.Goals.{After-write_denied, After-split-words}

at : (t : After-write_denied) → let a = t.args in
    reached (map_of a.chip.map) (machine_of (lent_of a.cells.now a.copy.now a.chip.constants.now) a.session) a.address ≡ Ok t.in_ok-place.place
at t = sym t.reach.ensures ∙ t.in_ok-place.was

-- the words lent, at most four, are those of the stored form
few : (t : After-split-words) → t.granule_at-granule.result.words ≤ 4
few t =
    let h = held _ _ _ (maps-fit _) _ (sym t.reach.ensures ∙ t.in_ok-place.was) in
    omega (arith, h.few, t.granule_at-granule.ensures.1)

lent-words : (t : After-split-words)
    → take t.granule_at-granule.result.words t.split-words.result
    ≡ stored_form primitives t.args.chip.constants.now t.in_ok-place.place.partition t.in_ok-place.place.address t.args.value
lent-words t =
    let h = held _ _ _ (maps-fit _) _ (sym t.reach.ensures ∙ t.in_ok-place.was) in
    rw (t.split-words.ensures, t.scrambled.ensures, t.granule_at-granule.ensures.1) (words_take _ 4 _ h.few)

pub returns-in_err-place : goal.returns-in_err-place
returns-in_err-place c =
    let e = err_from_is_err_and c.from_residual.result c.from_residual.ensures.1 in
    rw (e.1, e.2) (stopped (write-decided _ _ _ _) (sym c.reach.ensures ∙ c.in_err-place.was))

pub returns-then-write_denied : goal.returns-then-write_denied
returns-then-write_denied c =
    denied (write-decided _ _ _ _) (at (goal.at.returns-then-write_denied c).After-write_denied)
    (rw (← c.sensed_locked.ensures) (sym c.if-write_denied.ensures))

pub slice_bounds-words-end : goal.slice_bounds-words-end
slice_bounds-words-end c = rw (c.split-words.ensures, length-words 4) (few (goal.at.slice_bounds-words-end c).After-split-words)

pub slice_bounds-programmed-end : goal.slice_bounds-programmed-end
slice_bounds-programmed-end c =
    let t = (goal.at.slice_bounds-programmed-end c).After-split-words in
    sym (length-take-le _ c.split-words.result (rw (c.split-words.ensures, length-words 4) (few t)))

pub returns : goal.returns
returns c =
    let t = (goal.at.returns c).After-split-words in
    burnt (write-decided _ _ _ _) (at (goal.at.returns c).After-write_denied) (rw (← c.sensed_locked.ensures) (sym c.if-write_denied.ensures))
    (sym (rw (c.rule-rule.ensures, c.granule_at-granule.ensures.0, lent-words t) refl))
    c.programmed.ensures.words c.programmed.ensures.answer
