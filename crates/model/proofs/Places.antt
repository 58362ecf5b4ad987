-- Partitions and granules by address, in numbers. The idea: in a fit map partitions adjoin, so that the range holds the address of one alone; a granule of 4 or
-- 8 bytes begins at a multiple of its size.
use mathlib.Core.Path.{◌≡◌, refl}
use mathlib.Core.Bool.{true, false}
use mathlib.Core.Logic.{◌↔◌}
use Prim.Native.Nat.{ℕ, ◌+◌, ◌*◌, ◌/◌, ◌≤◌, ◌<◌}
use native.Mathlib.Omega.{arith}
use borrow.Author.Tests.{le-leb, lt-leb}
use Rattle.partitions.specs.Fitness.{fit}
use Rattle.partitions.specs.Map.{Map, rights_of, number_at, partition_at, limit, in_digest, first_word, word_count}
use Rattle.partitions.proofs.Map.{inside, only}
use Rattle.partitions.proofs.Granules.{by-granule, granule-digest, granule-plain, granule-scrambled, size-words}
use Rattle.model.specs.Claims.Numbers.{KeyAt, Plain}
use Rattle.model.specs.Claims.Places.{Within, Places}
use Rattle.model.proofs.KindNames.{keyed-scrambled, plain-not-scrambled}
use Rattle.partitions.specs.declared.Kind.TheVariants as kind

module _ (map : Map) (F : fit map ≡ true) where
  ranges : (a n : ℕ) → a < limit map → (number_at map a ≡ n) ↔ Within map n a
  unfolding partition_at
  ranges a n l = (
    (λ e. (let i = inside map F l in record { known = rw (← e) i.known; from = rw (← e) i.from; below = rw (← e) i.below })),
    λ w. only map F w.known w.from w.below,
  )

  digest-count : (a : ℕ) → a < limit map → (partition_at map a).digest ≤ a → word_count (partition_at map a) a ≡ 4
  unfolding in_digest
  digest-count a l d = (size-words (partition_at map a) a 8 (granule-digest (partition_at map a) a (le-leb _ _ d))).1

  secret-count : (a first : ℕ) → a < limit map → KeyAt (partition_at map a).kind first → word_count (partition_at map a) a ≡ 4
  secret-count a first l k = (size-words (partition_at map a) a 8 (granule-scrambled (inside map F l).fits (keyed-scrambled k) a)).1

  plain-count : (a : ℕ) → a < limit map → a < (partition_at map a).digest → Plain (partition_at map a).kind → word_count (partition_at map a) a ≡ 2
  unfolding in_digest
  plain-count a l d p = (size-words (partition_at map a) a 4 (granule-plain (inside map F l).fits (plain-not-scrambled p) a (lt-leb _ _ d))).1

  life-cycle-count : (a : ℕ) → a < limit map → (partition_at map a).kind ≡ kind.LifeCycle → a < (partition_at map a).digest
      → word_count (partition_at map a) a ≡ 2
  unfolding in_digest rights_of
  life-cycle-count a l e d =
      let plain : (rights_of (partition_at map a).kind).scrambled ≡ false = rw e refl in
      (size-words (partition_at map a) a 4 (granule-plain (inside map F l).fits plain a (lt-leb _ _ d))).1

  granules : (a : ℕ) → a < limit map
      → let first = first_word (partition_at map a) a in
      let count = word_count (partition_at map a) a in
      (2 * first ≤ a) × (a < 2 * (first + count)) × (first / count * count ≡ first)
  granules a l =
      by-granule (inside map F l).fits a
      (λ e. (let w = size-words (partition_at map a) a 4 e in rw (w.0, w.1) (omega arith, omega arith, omega arith)))
      (λ e. (let w = size-words (partition_at map a) a 8 e in rw (w.0, w.1) (omega arith, omega arith, omega arith)))

  pub places : Places map
  places = record { ranges = ranges; digests = digest-count; secrets = secret-count; plains = plain-count; life_cycle = life-cycle-count; granules = granules }
