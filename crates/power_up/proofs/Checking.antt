-- The digest check of one partition. The idea: each early return of the code is one alternative of the definition.
use mathlib.Core.Path.{◌≡◌}
use mathlib.Core.Bool.{Bool, true, false}
use mathlib.Core.List.{List}
use Prim.Native.Nat.{ℕ, ◌≤◌, ◌<◌, ◌/◌}
use native.Mathlib.Omega.{arith}
use lib.Dec.{eqb}
use lib.ListN.{length}
use borrow.Author.Tests.{ne_eqb}
use Rattle.partitions.specs.declared.Partition.{Partition}
use Rattle.partitions.specs.Map.{Map, rights_of, partition, limit}
use Rattle.partitions.specs.Fitness.{fit}
use Rattle.partitions.proofs.Map.{partition-fit, end-within}
use Rattle.model.specs.Lent.{Primitives}
use Rattle.model.specs.Commands.{stored_digest, computed_digest}
use Rattle.basics.specs.Range.{first_not}
use Rattle.basics.proofs.Choice.{if-true, if-false}
use Rattle.basics.proofs.First.{all_none, first_some}
use Rattle.std.specs.Prelude.{Option, Some, None, MatchOption}
use Rattle.chip.proofs.Reading.{digest-within}
use mathlib.Core.Path.{sym}
use Rattle.model.specs.PowerUp.{digest_holds, sensed_digest}

-- a partition's data words lie in the array
pub data-within : (map : Map) (fits : fit map ≡ true) {n : ℕ} → n < length map
    → ((partition map n).start / 2 ≤ (partition map n).digest / 2) × ((partition map n).digest / 2 ≤ limit map / 2)
data-within map fits h =
    let f = partition-fit map fits h in
    (omega (arith, f.data-first), omega (arith, f.digest-last, end-within map fits h))

module _ (prims : Primitives) (constants cells : List ℕ) where
  pub none-due : (p : Partition) → (rights_of p.kind).hardware ≡ false → true ≡ digest_holds prims constants cells p
  unfolding digest_holds
  none-due p e = rw e

  pub none-stored : (p : Partition) → (rights_of p.kind).hardware ≡ true → stored_digest p cells ≡ 0 → true ≡ digest_holds prims constants cells p
  unfolding digest_holds
  none-stored p e z = rw (e, z)

  pub compared : (p : Partition) → (rights_of p.kind).hardware ≡ true → (stored_digest p cells ≡ 0 → ⊥)
      → eqb (stored_digest p cells) (computed_digest prims constants p cells) ≡ digest_holds prims constants cells p
  unfolding digest_holds
  compared p e z = rw (e, ne_eqb (stored_digest p cells) 0 z)

-- a partition that direct access reaches has a digest
pub digest_reached : (cells : List ℕ) (p : Partition) → (rights_of p.kind).direct ≡ true → stored_digest p cells ≡ sensed_digest cells p
unfolding sensed_digest
digest_reached cells p e = sym (if-true _ _ e)

pub no_digest : (cells : List ℕ) (p : Partition) → (rights_of p.kind).direct ≡ false → 0 ≡ sensed_digest cells p
unfolding sensed_digest
no_digest cells p e = sym (if-false _ _ e)

pub ruleset checks = (none-due, none-stored, compared, digest-within)

pub ruleset stored = (digest_reached, no_digest)

-- the first number of a range that a search finds, or none: the test is known of the first m numbers
pub found_first : (test : ℕ → Bool) {m n : ℕ} (r : Option ℕ) → n ≡ m
    → MatchOption r ((k : ℕ) → 0 ≤ k → k < n → k < m → test k ≡ true)
    (λ i. (0 ≤ i) × (i < n) × (i < m → test i ≡ false) × ((k : ℕ) → 0 ≤ k → k < i → k < m → test k ≡ true))
    → r ≡ first_not test 0 m
found_first test None e h = sym (all_none test 0 _ (λ j l u. h j l (omega (arith, e)) (omega arith)))
found_first test (Some i) e h =
    sym (first_some test 0 _ i
    (record { from = h.0; below = omega (arith, e, h.1); fails = h.2 (omega (arith, e, h.1)); before = λ j l u. h.3 j l u (omega (arith, e, h.1)) }))
