-- Where the life cycle words stand in a fit map. The idea: their partition is the last one, of 88 bytes.
use mathlib.Core.Path.{◌≡◌, sym, ap, ◌∙◌}
use mathlib.Core.Bool.{true}
use Prim.Native.Nat.{ℕ, ◌+◌, ◌/◌, ◌%◌, ◌≤◌}
use native.Mathlib.Omega.{arith}
use Rattle.partitions.specs.declared.Kind.TheVariants.{LifeCycle}
use Rattle.partitions.specs.Map.{Map, limit, number_of_kind}
use Rattle.partitions.specs.Fitness.{fit}
use Rattle.partitions.proofs.Map.{is-fit, partition-fit, life-cycle-last, life-cycle-partition}
use Rattle.partitions.specs.declared.MapName.{MapName}
use Rattle.partitions.specs.Maps.{map_of}
use Rattle.partitions.proofs.Maps.{maps-fit}
use Rattle.model.specs.Commands.{counter_at, state_at}

module _ (map : Map) (fits : fit map ≡ true) where
  pub counter-words-end : counter_at map + 44 ≡ limit map / 2
  unfolding counter_at
  counter-words-end = let p = life-cycle-partition map fits in omega (arith, p.words, p.last)

  pub state-words-end : state_at map + 20 ≡ limit map / 2
  unfolding state_at
  state-words-end = omega (arith, counter-words-end)

  -- the array is made of whole blocks
  pub whole-blocks : limit map % 8 ≡ 0
  whole-blocks =
      let p = life-cycle-partition map fits in
      let f = partition-fit map fits {n = number_of_kind map LifeCycle} (omega (arith, life-cycle-last map fits)) in
      sym (ap (λ (n : ℕ). n % 8) p.last) ∙ f.end-aligned

  pub words-in-blocks : limit map / 2 % 4 ≡ 0
  words-in-blocks = omega (arith, whole-blocks)

  pub words-short : limit map / 2 ≤ 1024
  words-short = omega (arith, (is-fit map fits).short)

-- the 24 counter words end within the array, which is short
pub state_near : (name : MapName) → counter_at (map_of name) + 24 ≤ 1024
state_near name = omega (arith, counter-words-end _ (maps-fit name), words-short _ (maps-fit name))
