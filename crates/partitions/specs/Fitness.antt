-- Fitness of a map: a test that the checker computes.
use Rattle.std.specs.Prelude.{ℕ, suc, ◌+◌, ◌%◌, Bool, false, not, ◌&&◌, [], ◌∷◌, eqb, leb, ltb, length}
use Rattle.basics.specs.Choice.{when◌then◌else◌}
use Rattle.partitions.specs.declared.Partition.{Partition}
use Rattle.partitions.specs.declared.Kind.{Kind}
use Rattle.partitions.specs.declared.Kind.TheVariants.{Secret0, Secret1, Secret2}
use Rattle.partitions.specs.Map.{Map, rights_of, partition, limit, kind_number, number_of_kind}

-- it adjoins what stands before it, is eight-byte aligned and has the granule of its kind
unfoldable pub placed : ℕ → Partition → Bool
placed at p =
    eqb p.start at
    && eqb (p.start % 8) 0
    && eqb (p.digest % 8) 0
    && eqb (p.end % 8) 0
    && eqb p.granule (when (rights_of p.kind).scrambled then 8 else 4)

-- data, and then a digest of eight bytes
unfoldable pub digested : Partition → Bool
digested p = (rights_of p.kind).direct && ltb p.start p.digest && eqb (p.digest + 8) p.end

-- the life cycle words: 24 and 20 words of two bytes, and no digest
unfoldable pub life_cycle_words : Partition → Bool
life_cycle_words p = not (rights_of p.kind).direct && eqb p.end (p.start + 88) && eqb p.digest p.end

-- partitions with a digest, one after the other, and one life cycle partition last
unfoldable pub fit_from : ℕ → Map → Bool
fit_from at [] = false
fit_from at (p ∷ []) = placed at p && life_cycle_words p
fit_from at (p ∷ q ∷ ps) = placed at p && digested p && fit_from p.end (q ∷ ps)

-- how many partitions are of a kind, and its first partition has this many bytes
unfoldable pub count_of_kind : Map → Kind → ℕ
count_of_kind [] k = 0
count_of_kind (p ∷ ps) k = when eqb (kind_number p.kind) (kind_number k) then suc (count_of_kind ps k) else count_of_kind ps k

unfoldable pub once : Map → Kind → ℕ → Bool
once map k size =
    eqb (count_of_kind map k) 1 && eqb ((partition map (number_of_kind map k)).start + size) (partition map (number_of_kind map k)).end

-- "at most 1,024 words and eleven parts, adjoining from 0, eight-byte aligned; each is of a kind in Map 2, with that kind's rights and room for its data
-- and digest; each secret once, of its size; one life cycle part last, of 88 bytes"
unfoldable pub fit : Map → Bool
fit map =
    fit_from 0 map && leb (length map) 11 && leb (limit map) 2048
    && once map Secret0 40 && once map Secret1 88 && once map Secret2 88
