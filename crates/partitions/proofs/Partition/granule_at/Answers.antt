-- The product fits, since it is at most the address; a granule of no bytes makes both numbers 0.
use mathlib.Core.Path.{◌≡◌, sym, ◌∙◌}
use Prim.Native.Nat.{ℕ, ◌*◌, ◌/◌, ◌≤◌}
use native.Mathlib.Nat.{mul-zero, mul-le-mul_left, div-mul-le_self, div-le_self, le_trans}
use native.Mathlib.Omega.{arith}
use Rattle.partitions.specs.Map.{first_word, word_count}
use Rattle.partitions.proofs.Granules.{size-words}
use Rattle.partitions.proofs.Partition.granule_at.Goals as goal
use Rattle.partitions.proofs.Partition.granule_at.Goals.{After-granule_size-size}

half-quotient : (a g : ℕ) → a / g * (g / 2) ≤ a
half-quotient a g = le_trans (mul-le-mul_left (a / g) (div-le_self g 2)) (div-mul-le_self a g)

pub overflow_mul-result : goal.overflow_mul-result
overflow_mul-result c = record { fits = omega (arith, half-quotient c.args.address c.granule_size-size.result) }

-- the two numbers of a granule of the size that was found
words-found : (g : After-granule_size-size) → let a = g.args.address in let size = g.granule_size-size.result in
    (a / size * (size / 2) ≡ first_word g.args.self a) × (size / 2 ≡ word_count g.args.self a)
words-found g = let w = size-words _ _ _ (sym g.granule_size-size.ensures) in (sym w.0, sym w.1)

pub returns-then-size-eq0 : goal.returns-then-size-eq0
returns-then-size-eq0 c =
    let w = words-found (goal.at.returns-then-size-eq0 c).After-granule_size-size in
    (sym (mul-zero _) ∙ (rw c.if-size-eq0.true at w.0), rw c.if-size-eq0.true at w.1)

pub returns-else-size-eq0 : goal.returns-else-size-eq0
returns-else-size-eq0 c = words-found (goal.at.returns-else-size-eq0 c).After-granule_size-size
