-- Places: partitions and granules by address, in numbers.
use Rattle.std.specs.Prelude.{ℕ, ◌+◌, ◌*◌, ◌/◌, ◌≤◌, ◌<◌, ◌≡◌, ◌↔◌, length}
use Rattle.partitions.specs.Map.{Map, number_at, partition, partition_at, limit, first_word, word_count}
use Rattle.model.specs.Claims.Numbers.{KeyAt, Plain}
use Rattle.partitions.specs.declared.Kind.TheVariants as kind

-- the address is in partition n
pub record Within (map : Map) (n a : ℕ) : Type 0 where
  pub known : n < length map
  pub from : (partition map n).start ≤ a
  pub below : a < (partition map n).end

pub record Places (map : Map) : Type 0 where
  -- "Each address below 0x380 lies in exactly one partition, found by its range."
  pub ranges : (a n : ℕ) → a < limit map → (number_at map a ≡ n) ↔ Within map n a
  -- "The granule is 4 bytes in partitions 0, 1, 2 and 6, and 8 bytes in 3, 4, 5"; "every digest location of partitions 0 to 5 now has 8 bytes, for read and
  -- write"
  pub digests : (a : ℕ) → a < limit map → (partition_at map a).digest ≤ a → word_count (partition_at map a) a ≡ 4
  pub secrets : (a first : ℕ) → a < limit map → KeyAt (partition_at map a).kind first → word_count (partition_at map a) a ≡ 4
  pub plains : (a : ℕ) → a < limit map → a < (partition_at map a).digest → Plain (partition_at map a).kind → word_count (partition_at map a) a ≡ 2
  pub life_cycle : (a : ℕ) → a < limit map → (partition_at map a).kind ≡ kind.LifeCycle → a < (partition_at map a).digest
      → word_count (partition_at map a) a ≡ 2
  -- "low address bits inside a granule are ignored": the address is in its granule, which begins at a multiple of its size
  pub granules : (a : ℕ) → a < limit map
      → let first = first_word (partition_at map a) a in
      let count = word_count (partition_at map a) a in
      (2 * first ≤ a) × (a < 2 * (first + count)) × (first / count * count ≡ first)
