-- Each return is the next of the paper's refusals; once the stroke is spent the cells are those it left, and the move goes on from them.
use mathlib.Core.Path.{◌≡◌, sym, ◌∙◌}
use Prim.Native.Nat.{suc}
use Rattle.std.specs.Prelude.{Ok}
use Rattle.words.specs.Programming.{program_answer}
use Rattle.partitions.specs.Maps.{map_of}
use Rattle.life_cycle.specs.Words.{counter_words}
use Rattle.model.specs.declared.Command.TheVariants.{Transition}
use Rattle.model.specs.Commands.{life_cycle_rule, counter_at}
use Rattle.chip.specs.Chip.{lent_of, machine_of}
use Rattle.chip.proofs.Acting.{refused}
use Rattle.transition.proofs.Moving.{bad-record, Known, unknown-target, strokes-used, Spendable, stroke-refused, not-permitted, moved}
use Rattle.transition.proofs.transition.Goals as goal
use Rattle.transition.proofs.transition.Goals.{After-permitted, After-spend}

-- the stroke can be spent
ready : (q : After-spend) → Spendable (map_of q.args.chip.map) (machine_of (lent_of q.args.cells.now q.args.copy.now q.args.chip.constants.now) q.args.session)
    q.args.target
ready q =
    let known : Known (map_of q.args.chip.map) (machine_of (lent_of q.args.cells.now q.args.copy.now q.args.chip.constants.now) q.args.session) = record {
      admitted-there = sym (rw (q.sizes_of.ensures, q.in_default.is) at q.admit.ensures);
      good-record = q.if-not-session.false;
    } in
    record { known = known; target-known = q.if-target-gt-SCRAP.false; stroke-left = q.if-session-ge-STROKES.false }

done : (w : After-permitted)
    → program_answer life_cycle_rule w.args.cells.now (counter_at (map_of w.args.chip.map))
    (counter_words w.args.chip.constants.now (suc w.args.session.count)) ≡ Ok tt
done w = sym w.spend.ensures.answer ∙ w.in_default-spend.is

pub returns-in-Err : goal.returns-in-Err
returns-in-Err c =
    let o = c.args in
    rw c.as_before.ensures
    (refused _ (Transition o.target o.token) (machine_of (lent_of o.cells.now o.copy.now o.chip.constants.now) o.session) tt _
    (sym (rw c.sizes_of.ensures at c.in-Err.ensures)))

pub returns-then-not-session : goal.returns-then-not-session
returns-then-not-session c =
    let o = c.args in
    bad-record _ (lent_of o.cells.now o.copy.now o.chip.constants.now) o.session o.target _ (sym (rw (c.sizes_of.ensures, c.in_default.is) at c.admit.ensures))
    c.if-not-session.true _ c.as_before-then-not-session.ensures

pub returns-then-target-gt-SCRAP : goal.returns-then-target-gt-SCRAP
returns-then-target-gt-SCRAP c =
    let known : Known (map_of c.args.chip.map) (machine_of (lent_of c.args.cells.now c.args.copy.now c.args.chip.constants.now) c.args.session) = record {
      admitted-there = sym (rw (c.sizes_of.ensures, c.in_default.is) at c.admit.ensures);
      good-record = c.if-not-session.false;
    } in
    unknown-target _ _ _ _ _ known c.if-target-gt-SCRAP.true _ c.as_before-then-target-gt-SCRAP.ensures

pub returns-then-session-ge-STROKES : goal.returns-then-session-ge-STROKES
returns-then-session-ge-STROKES c =
    let known : Known (map_of c.args.chip.map) (machine_of (lent_of c.args.cells.now c.args.copy.now c.args.chip.constants.now) c.args.session) = record {
      admitted-there = sym (rw (c.sizes_of.ensures, c.in_default.is) at c.admit.ensures);
      good-record = c.if-not-session.false;
    } in
    strokes-used _ _ _ _ _ known c.if-target-gt-SCRAP.false c.if-session-ge-STROKES.true _ c.inert.ensures

pub returns-in-Err-spend : goal.returns-in-Err-spend
returns-in-Err-spend c =
    stroke-refused _ _ _ _ _ (ready (goal.at.returns-in-Err-spend c).After-spend) _ c.spend.ensures.words _
    (sym c.spend.ensures.answer ∙ c.in-Err-spend.is) _ c.dead.ensures

pub returns-in-Err-permitted : goal.returns-in-Err-permitted
returns-in-Err-permitted c =
    let at = goal.at.returns-in-Err-permitted c in
    not-permitted _ _ _ _ _ (ready at.After-spend) _ c.spend.ensures.words (done at.After-permitted) _
    (sym (c.permitted.ensures _) ∙ c.in-Err-permitted.is) _ c.inert-in-Err-permitted.ensures

pub returns-in-Ok : goal.returns-in-Ok
returns-in-Ok c =
    let at = goal.at.returns-in-Ok c in
    moved _ _ _ _ _ (ready at.After-spend) _ c.spend.ensures.words (done at.After-permitted) (sym (c.permitted.ensures _) ∙ c.in-Ok.is) _ _
    c.move_to.ensures.outcome c.move_to.ensures.words
