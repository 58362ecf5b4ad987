-- The slices are the counter words and the state words, which stand last.
use mathlib.Core.Path.{◌≡◌, ◌∙◌}
use Prim.Native.Nat.{◌+◌, ◌≤◌}
use native.Mathlib.Omega.{arith}
use lib.ListN.{length}
use Rattle.chip.proofs.LifeCyclePlace.{counter-words-end, state-words-end, words-short}
use Rattle.chip.specs.Chip.{lent_of}
use Rattle.partitions.proofs.Maps.{maps-fit}
use Rattle.power_up.proofs.PowerUpEnd.{life-cycle-slices}
use Rattle.power_up.proofs.Stored.life_cycle_in.Goals as goal
use Rattle.power_up.proofs.Stored.life_cycle_in.Goals.{After-state_at-state}

-- the counter words end where the state words start, and these end with the cells
placed : (s : After-state_at-state) → let n = length s.args.self.cells.now in
    (s.counter_at-counter.result + 24 ≡ s.state_at-state.result) × (s.state_at-state.result + 20 ≡ n) × (n ≤ 1024)
placed s =
    let F = maps-fit s.args.self.chip.map in
    omega (arith, s.counter_at-counter.ensures, s.state_at-state.ensures, counter-words-end _ F, state-words-end _ F, words-short _ F, s.args.self.whole)

pub offset_bounds-self-counter : goal.offset_bounds-self-counter
offset_bounds-self-counter c = record { fits = omega (arith, placed (goal.at.offset_bounds-self-counter c).After-state_at-state) }

pub slice_bounds-decode-count : goal.slice_bounds-decode-count
slice_bounds-decode-count c = omega (arith, placed (goal.at.slice_bounds-decode-count c).After-state_at-state)

pub slice_bounds-decode-start : goal.slice_bounds-decode-start
slice_bounds-decode-start c = omega (arith, placed (goal.at.slice_bounds-decode-start c).After-state_at-state)

pub slice_bounds-decode-end : goal.slice_bounds-decode-end
slice_bounds-decode-end c = omega (arith, placed (goal.at.slice_bounds-decode-end c).After-state_at-state)

pub offset_bounds-self-state : goal.offset_bounds-self-state
offset_bounds-self-state c = record { fits = omega (arith, placed (goal.at.offset_bounds-self-state c).After-state_at-state) }

pub slice_bounds-decode-count-2 : goal.slice_bounds-decode-count-2
slice_bounds-decode-count-2 c = omega (arith, placed (goal.at.slice_bounds-decode-count-2 c).After-state_at-state)

pub slice_bounds-decode-start-2 : goal.slice_bounds-decode-start-2
slice_bounds-decode-start-2 c = omega (arith, placed (goal.at.slice_bounds-decode-start-2 c).After-state_at-state)

pub returns : goal.returns
returns c copy =
    let s = c.args.self in
    c.decode.ensures ∙ life-cycle-slices _ (maps-fit _) (lent_of s.cells.now copy s.chip.constants.now) c.counter_at-counter.ensures c.state_at-state.ensures
    s.whole s.whole
