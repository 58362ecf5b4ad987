-- What code reads of what is lent, against the definitions. The idea: code branches where a definition chooses, and a part inside the cells is a slice of them.
use mathlib.Core.Path.{◌≡◌, refl, sym, ap}
use mathlib.Core.List.{List}
use Prim.Native.Nat.{ℕ, ◌-◌, ◌/◌, ◌≤◌, ◌<◌}
use native.Mathlib.Omega.{arith}
use lib.ListN.{length, take, drop}
use lib.Dec.{ltb}
use borrow.Author.Tests.{lt-ltb, le-ltb}
use Rattle.basics.proofs.Choice.{if-true, if-false, or-none, or_right}
use Rattle.words.proofs.Parts.{part_slice}
use Rattle.digest.specs.Digest.{digest_words}
use Rattle.partitions.specs.declared.Partition.{Partition}
use Rattle.constants.specs.Constants.{digest_start, digest_final}
use Rattle.model.specs.Commands.{data_words, computed_digest}
use Rattle.chip.specs.Chip.{primitives, digest_within}

-- the digest over the slice of the data words
pub data-digest : (k : List ℕ) (p : Partition) (cells : List ℕ) → p.start / 2 ≤ p.digest / 2 → p.digest / 2 ≤ length cells
    → digest_words (digest_start k) (digest_final k) (take (p.digest / 2 - p.start / 2) (drop (p.start / 2) cells)) ≡ computed_digest primitives k p cells
unfolding computed_digest data_words
data-digest k p cells l u =
    ap (digest_words (digest_start k) (digest_final k)) (sym (part_slice cells (p.start / 2) (p.digest / 2 - p.start / 2) (omega arith)))

-- ---- the digest of a partition, whatever the cells

pub within-order : (cells k : List ℕ) (p : Partition) → p.digest / 2 < p.start / 2 → 0 ≡ digest_within cells k p
unfolding digest_within
within-order cells k p h = sym (if-true _ _ (rw (lt-ltb _ _ h) refl))

pub within-cells : (cells k : List ℕ) (p : Partition) → length cells < p.digest / 2 → 0 ≡ digest_within cells k p
unfolding digest_within
within-cells cells k p h = sym (if-true _ _ (or_right (ltb (p.digest / 2) (p.start / 2)) _ (lt-ltb _ _ h)))

pub digest-within : (cells k : List ℕ) (p : Partition) → p.start / 2 ≤ p.digest / 2 → p.digest / 2 ≤ length cells
    → digest_within cells k p ≡ computed_digest primitives k p cells
unfolding digest_within
digest-within cells k p l u = if-false _ _ (or-none _ _ (le-ltb _ _ l) (le-ltb _ _ u))

pub ruleset within_laws = (within-order, within-cells, digest-within, data-digest)
