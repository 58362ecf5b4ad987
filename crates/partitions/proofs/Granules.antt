-- Laws of granules. The idea: a granule has 4 or 8 bytes, and starts, digests and ends stand at multiples of 8, so it lies on one side of each of them.
use mathlib.Core.Path.{◌≡◌, refl, sym, ap, ◌∙◌}
use mathlib.Core.Bool.{true, ◌||◌, false}
use Prim.Native.Nat.{ℕ, ◌+◌, ◌*◌, ◌/◌, ◌≤◌, ◌<◌}
use native.Mathlib.Omega.{arith}
use lib.Dec.{leb}
use lib.ListN.{length}
use borrow.Author.Tests.{leb-true, leb-false, le-leb, lt-leb}
use Rattle.basics.specs.Choice.{when◌then◌else◌}
use Rattle.basics.proofs.Choice.{by_cases, if-true, if-false}
use Rattle.partitions.specs.declared.Partition.{Partition}
use Rattle.partitions.specs.Map.{Map, rights_of, number_at, partition, partition_at, limit, in_digest, granule_at, first_word, word_count}
use Rattle.partitions.specs.Fitness.{fit}
use Rattle.partitions.proofs.Map.{FitPartition, inside, only, partition-at, partition-fit, partition-word, end-within}

-- ---- the size of a granule: all that the other laws know of it

-- eight bytes in a digest and in scrambled data, four in other data
granule-size : {p : Partition} → FitPartition p → (a : ℕ) → granule_at p a ≡ (when in_digest p a || (rights_of p.kind).scrambled then 8 else 4)
unfolding granule_at when◌then◌else◌
granule-size {p} f a = by_cases (in_digest p a) (λ d. rw d) (λ d. rw d f.sized)

-- four bytes or eight, and each case may use which
pub by-granule {ℓ} : {X : Type ℓ} {p : Partition} → FitPartition p → (a : ℕ) → (granule_at p a ≡ 4 → X) → (granule_at p a ≡ 8 → X) → X
by-granule {p} f a four eight =
    by_cases (in_digest p a || (rights_of p.kind).scrambled) (λ e. eight (granule-size f a ∙ if-true 8 4 e)) (λ e. four (granule-size f a ∙ if-false 8 4 e))

pub granule-scrambled : {p : Partition} → FitPartition p → (rights_of p.kind).scrambled ≡ true → (a : ℕ) → granule_at p a ≡ 8
unfolding when◌then◌else◌
granule-scrambled {p} f e a = granule-size f a ∙ rw e (by_cases (in_digest p a) (λ d. rw d) (λ d. rw d))

-- it may differ between data and digest, and nowhere else
-- a digest has 8 bytes, and data that are not scrambled have granules of 4
pub granule-digest : (p : Partition) (a : ℕ) → in_digest p a ≡ true → granule_at p a ≡ 8
unfolding granule_at
granule-digest p a e = if-true _ _ e

pub granule-plain : {p : Partition} → FitPartition p → (rights_of p.kind).scrambled ≡ false → (a : ℕ) → in_digest p a ≡ false → granule_at p a ≡ 4
unfolding granule_at
granule-plain f s a e = if-false _ _ e ∙ f.sized ∙ if-false _ _ s

pub granule-side : (p : Partition) (a b : ℕ) → in_digest p a ≡ in_digest p b → granule_at p a ≡ granule_at p b
unfolding granule_at
granule-side p a b e = rw e

-- ---- the granule of an address in one partition

-- its words, which lie in the partition; the address is in one of them
pub record GranuleWords (p : Partition) (a : ℕ) : Type 0 where
  pub some : 0 < word_count p a
  pub few : word_count p a ≤ 4
  pub low : first_word p a ≤ a / 2
  pub high : a / 2 < first_word p a + word_count p a
  pub from : p.start ≤ 2 * first_word p a
  pub upto : 2 * (first_word p a + word_count p a) ≤ p.end

-- each of its words has the same granule, in the data or in the digest
pub record GranuleWord (p : Partition) (a j : ℕ) : Type 0 where
  pub from : p.start ≤ 2 * j
  pub below : 2 * j < p.end
  pub side : in_digest p (2 * j) ≡ in_digest p a
  pub first : first_word p (2 * j) ≡ first_word p a
  pub count : word_count p (2 * j) ≡ word_count p a

pub size-words : (p : Partition) (a g : ℕ) → granule_at p a ≡ g → (first_word p a ≡ a / g * (g / 2)) × (word_count p a ≡ g / 2)
unfolding first_word word_count
size-words p a g e = rw e (refl, refl)

module _ {p : Partition} (f : FitPartition p) where
  pub scrambled-words : (rights_of p.kind).scrambled ≡ true → (a : ℕ) → word_count p a ≡ 4
  scrambled-words e a = (size-words p a 8 (granule-scrambled f e a)).1

  -- in a digest it is the whole digest
  pub digest-words : {a : ℕ} → a < p.end → (rights_of p.kind).direct ≡ true → in_digest p a ≡ true → (first_word p a ≡ p.digest / 2) × (word_count p a ≡ 4)
  unfolding in_digest
  digest-words {a} u d t =
      let w = size-words p a 8 (granule-size f a ∙ if-true 8 4 (ap (λ b. b || (rights_of p.kind).scrambled) t)) in
      let l = leb-true p.digest a t in
      (w.0 ∙ omega (arith, f.digest-aligned, f.tail d), w.1)

  module _ {a : ℕ} (l : p.start ≤ a) (u : a < p.end) where
    pub granule-words : GranuleWords p a
    granule-words = by-granule f a (λ e. let w = size-words p a 4 e in omega arith) (λ e. let w = size-words p a 8 e in omega arith)

    module _ {j : ℕ} (from : first_word p a ≤ j) (below : j < first_word p a + word_count p a) where
      one_side : (p.digest ≤ a → p.digest ≤ 2 * j) × (a < p.digest → 2 * j < p.digest)
      one_side = by-granule f a (λ e. let w = size-words p a 4 e in omega arith) (λ e. let w = size-words p a 8 e in omega arith)

      same-side : in_digest p (2 * j) ≡ in_digest p a
      unfolding in_digest
      same-side =
          by_cases (leb p.digest a)
          (λ t. le-leb _ _ (one_side.0 (leb-true _ _ t)) ∙ sym t)
          (λ t. lt-leb _ _ (one_side.1 (leb-false _ _ t)) ∙ sym t)

      abbrev SameWords : Type 0
      SameWords = (first_word p (2 * j) ≡ first_word p a) × (word_count p (2 * j) ≡ word_count p a)

      same-sized : (g : ℕ) → granule_at p a ≡ g → 2 * j / g ≡ a / g → SameWords
      same-sized g e q =
          let w = size-words p a g e in
          let v = size-words p (2 * j) g (granule-side p (2 * j) a same-side ∙ e) in
          (v.0 ∙ ap (λ (x : ℕ). x * (g / 2)) q ∙ sym w.0, v.1 ∙ sym w.1)

      same-words : SameWords
      same-words =
          by-granule f a (λ e. same-sized 4 e (let w = size-words p a 4 e in omega arith)) (λ e. same-sized 8 e (let w = size-words p a 8 e in omega arith))

      pub granule-word : GranuleWord p a j
      granule-word =
          let w = granule-words in
          record { from = omega arith; below = omega arith; side = same-side; first = same-words.0; count = same-words.1 }

-- ---- the granule of an address in a map

-- the granules of two addresses are one
pub record OneGranule (map : Map) (a b : ℕ) : Type 0 where
  pub number : number_at map a ≡ number_at map b
  pub side : in_digest (partition_at map a) a ≡ in_digest (partition_at map b) b
  pub first : first_word (partition_at map a) a ≡ first_word (partition_at map b) b
  pub count : word_count (partition_at map a) a ≡ word_count (partition_at map b) b

module _ (map : Map) (fits : fit map ≡ true) where
  pub granule-inside : {a : ℕ} → a < limit map → GranuleWords (partition_at map a) a
  granule-inside h = let i = inside map fits h in granule-words i.fits i.from i.below

  pub granule-within : {a : ℕ} → a < limit map → 2 * (first_word (partition_at map a) a + word_count (partition_at map a) a) ≤ limit map
  unfolding partition_at
  granule-within h = let w = granule-inside h in omega (arith, w.upto, end-within map fits (inside map fits h).known)

  module _ {a : ℕ} (h : a < limit map) {j : ℕ} (from : first_word (partition_at map a) a ≤ j)
      (below : j < first_word (partition_at map a) a + word_count (partition_at map a) a) where
    pub word-inside : GranuleWord (partition_at map a) a j
    word-inside = let i = inside map fits h in granule-word i.fits i.from i.below from below

    pub word_number : number_at map (2 * j) ≡ number_at map a
    unfolding partition_at
    word_number = let w = word-inside in only map fits (inside map fits h).known w.from w.below

    pub word-granule : OneGranule map (2 * j) a
    word-granule =
        let w = word-inside in
        let e : partition_at map (2 * j) ≡ partition_at map a = partition-at map (2 * j) word_number ∙ sym (partition-at map a refl) in
        record { number = word_number; side = rw e w.side; first = rw e w.first; count = rw e w.count }

  -- granules that share a word are one
  pub shared-word : {a b j : ℕ} → a < limit map → b < limit map
      → first_word (partition_at map a) a ≤ j → j < first_word (partition_at map a) a + word_count (partition_at map a) a
      → first_word (partition_at map b) b ≤ j → j < first_word (partition_at map b) b + word_count (partition_at map b) b
      → OneGranule map a b
  shared-word h k l u m v =
      let x = word-granule h l u in
      let y = word-granule k m v in
      record { number = sym x.number ∙ y.number; side = sym x.side ∙ y.side; first = sym x.first ∙ y.first; count = sym x.count ∙ y.count }

  -- the four words of a digest
  pub digest-word : {n j : ℕ} → n < length map → (rights_of (partition map n).kind).direct ≡ true
      → (partition map n).digest / 2 ≤ j → j < (partition map n).digest / 2 + 4
      → (number_at map (2 * j) ≡ n) × (in_digest (partition map n) (2 * j) ≡ true)
  unfolding in_digest
  digest-word {n} {j} h d l u =
      let f = partition-fit map fits h in
      let t = f.tail d in
      (partition-word map fits h (omega arith) (omega arith), le-leb (partition map n).digest (2 * j) (omega arith))

  -- they are the granule of each address of the digest
  pub digest-granule : {a : ℕ} → a < limit map → (rights_of (partition_at map a).kind).direct ≡ true → in_digest (partition_at map a) a ≡ true
      → (first_word (partition_at map a) a ≡ (partition_at map a).digest / 2) × (word_count (partition_at map a) a ≡ 4)
  digest-granule h d t = let i = inside map fits h in digest-words i.fits i.below d t
