-- The partition of the first word is that of the block: with a read lock it is latched as zero, its digest as stored, its data in the clear.
use mathlib.Core.Path.{◌≡◌, sym, ap, ap₂, ◌∙◌}
use mathlib.Core.Bool.{Bool}
use mathlib.Core.List.{List}
use Prim.Native.Nat.{ℕ, ◌*◌, ◌<◌}
use native.Mathlib.Omega.{arith}
use Rattle.words.specs.Words.{words_of}
use Rattle.words.proofs.Words.{Words}
use Rattle.partitions.specs.declared.Partition.{Partition}
use Rattle.partitions.specs.declared.Rights.{Rights}
use Rattle.partitions.specs.Map.{Map, rights_of, partition, partition_at, limit, in_digest}
use Rattle.partitions.specs.Maps.{map_of}
use Rattle.partitions.proofs.Maps.{maps-fit}
use Rattle.chip.proofs.LifeCyclePlace.{words-short}
use Rattle.model.specs.Commands.{unscrambled}
use Rattle.chip.specs.Chip.{primitives}
use Rattle.power_up.proofs.Sensing.{zero-block, digest-block, data-block}
use Rattle.power_up.proofs.sensed_block.Goals as goal
use Rattle.power_up.proofs.sensed_block.Goals.{After-rights}

module _ (t : After-rights) where
  abbrev map : Map
  map = map_of t.args.chip.map

  abbrev at : ℕ
  at = t.args.at

  abbrev cells : List ℕ
  cells = t.args.cells.now

  found : t.partition_of-partition.result ≡ partition_at map (2 * at)
  unfolding partition_at
  found = t.partition_of-partition.ensures ∙ ap (partition map) t.number_at.ensures

  lockable : {b : Bool} → t.rights.result.lockable ≡ b → (rights_of (partition_at map (2 * at)).kind).lockable ≡ b
  lockable e = sym (ap (λ (r : Rights). r.lockable) t.rights.ensures ∙ ap (λ (p : Partition). (rights_of p.kind).lockable) found) ∙ e

  side : {b : Bool} → in_digest t.partition_of-partition.result (2 * at) ≡ b → in_digest (partition_at map (2 * at)) (2 * at) ≡ b
  side e = ap (λ (p : Partition). in_digest p (2 * at)) (sym found) ∙ e

  known : 2 * at < limit map
  known = omega (arith, t.requires.1)

  small : Words cells
  small = record { small = λ i. omega (arith, t.type_inv.cells i) }

pub overflow_mul-address : goal.overflow_mul-address
overflow_mul-address c = omega (arith, c.requires.1, words-short _ (maps-fit c.args.chip.map))

pub returns-then-rights : goal.returns-then-rights
returns-then-rights c =
    let t = (goal.at.returns-then-rights c).After-rights in
    zero-block primitives _ (maps-fit c.args.chip.map) _ _ (at t) c.requires.0 (known t) (lockable t c.if-rights.true)

pub returns-then-in_digest : goal.returns-then-in_digest
returns-then-in_digest c =
    let t = (goal.at.returns-then-in_digest c).After-rights in
    c.split.ensures
    ∙ ap (words_of 4) c.block_at-block.ensures
    ∙ digest-block primitives _ (maps-fit c.args.chip.map) _ _ (at t) c.requires.0 (known t) (small t) (lockable t c.if-rights.false)
    (side t (sym c.in_digest.ensures ∙ c.if-in_digest.true))

pub returns : goal.returns
returns c =
    let t = (goal.at.returns c).After-rights in
    let block = ap₂ (unscrambled primitives c.args.chip.constants.now) (found t) c.block_at-block.ensures in
    c.split-2.ensures
    ∙ ap (words_of 4) (c.unscrambled.ensures ∙ block)
    ∙ data-block primitives _ (maps-fit c.args.chip.map) _ _ (at t) c.requires.0 (known t) (small t) (lockable t c.if-rights.false)
    (side t (sym c.in_digest.ensures ∙ c.if-in_digest.false))
