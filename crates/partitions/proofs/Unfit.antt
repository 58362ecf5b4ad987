-- Maps that are not fit, each by one clause of fitness, and maps that just are. The test is computed.
use Prim.Native.Nat.{ℕ, ◌+◌}
use mathlib.Core.Path.{◌≡◌, refl}
use mathlib.Core.Bool.{true, false}
use mathlib.Core.List.{[], ◌∷◌}
use Rattle.basics.specs.Choice.{when◌then◌else◌}
use Rattle.partitions.specs.declared.Kind.TheVariants.{Software, AuthState, HwCfg, Secret0, Secret1, Secret2, LifeCycle}
use Rattle.partitions.specs.declared.Partition.{Partition}
use Rattle.partitions.specs.Map.{Map, row, rights_of, nowhere, partition, limit, kind_number, number_of_kind}
use Rattle.partitions.specs.Fitness.{placed, digested, life_cycle_words, fit_from, count_of_kind, once, fit}

-- one name on an `unfolding` line opens the test
unfoldable fitness : Unit {0}
unfolding fit fit_from placed digested life_cycle_words count_of_kind once kind_number number_of_kind partition nowhere limit rights_of when◌then◌else◌
fitness = tt

-- the three secrets, up to address 216, and what follows; a partition of 16 bytes; the life cycle words at the end
abbrev secrets : Map → Map
secrets rest = row Secret0 0 32 40 8 ∷ row Secret1 40 120 128 8 ∷ row Secret2 128 208 216 8 ∷ rest

abbrev small : ℕ → Partition
small at = row Software at (at + 8) (at + 16) 4

abbrev last : ℕ → Map
last at = row LifeCycle at (at + 88) (at + 88) 4 ∷ []

smallest : fit (secrets (last 216)) ≡ true
unfolding fitness
smallest = refl

-- a partition of each other kind with 8 bytes of data, and the secrets in another order
other-order :
    fit
    (row Secret2 0 80 88 8 ∷ row HwCfg 88 96 104 4 ∷ row Secret0 104 136 144 8 ∷ small 144 ∷ row Secret1 160 240 248 8 ∷ row AuthState 248 256 264 4 ∷ last 264)
    ≡ true
unfolding fitness
other-order = refl

-- ---- "at most 1,024 words": 2,048 bytes are fit, and 2,056 are not

longest : fit (secrets (row Software 216 1952 1960 4 ∷ last 1960)) ≡ true
unfolding fitness
longest = refl

too_long : fit (secrets (row Software 216 1960 1968 4 ∷ last 1968)) ≡ false
unfolding fitness
too_long = refl

-- ---- "eleven parts": eleven are fit, and twelve are not

eleven : fit (secrets (small 216 ∷ small 232 ∷ small 248 ∷ small 264 ∷ small 280 ∷ small 296 ∷ small 312 ∷ last 328)) ≡ true
unfolding fitness
eleven = refl

twelve : fit (secrets (small 216 ∷ small 232 ∷ small 248 ∷ small 264 ∷ small 280 ∷ small 296 ∷ small 312 ∷ small 328 ∷ last 344)) ≡ false
unfolding fitness
twelve = refl

-- ---- "adjoining from 0": a first partition past 0, a gap, an overlap

not-from-zero : fit (row Secret0 8 40 48 8 ∷ row Secret1 48 128 136 8 ∷ row Secret2 136 216 224 8 ∷ last 224) ≡ false
unfolding fitness
not-from-zero = refl

gap : fit (secrets (small 224 ∷ last 240)) ≡ false
unfolding fitness
gap = refl

overlap : fit (secrets (small 208 ∷ last 224)) ≡ false
unfolding fitness
overlap = refl

-- ---- "eight-byte aligned": a start, with an end before it; and a digest address

unaligned : fit (secrets (row Software 216 228 236 4 ∷ row Software 236 248 256 4 ∷ last 256)) ≡ false
unfolding fitness
unaligned = refl

-- ---- "each is of a kind in Map 2, with that kind's rights and room for its data and digest": the type has these kinds alone, and `rights_of` their rights;
-- so a granule that is not the kind's, no data, a digest of 16 bytes, none

granule-of-8 : fit (secrets (row Software 216 224 232 8 ∷ last 232)) ≡ false
unfolding fitness
granule-of-8 = refl

granule-of-4 : fit (row Secret0 0 32 40 4 ∷ row Secret1 40 120 128 8 ∷ row Secret2 128 208 216 8 ∷ last 216) ≡ false
unfolding fitness
granule-of-4 = refl

no-data : fit (secrets (row Software 216 216 224 4 ∷ last 224)) ≡ false
unfolding fitness
no-data = refl

long-digest : fit (secrets (row Software 216 224 240 4 ∷ last 240)) ≡ false
unfolding fitness
long-digest = refl

no-digest : fit (secrets (row Software 216 232 232 4 ∷ last 232)) ≡ false
unfolding fitness
no-digest = refl

-- ---- "each secret once, of its size": each of them twice, one that is missing, and each of another size

twice :
    (fit (secrets (row Secret0 216 248 256 8 ∷ last 256)) ≡ false)
    × (fit (secrets (row Secret1 216 296 304 8 ∷ last 304)) ≡ false)
    × (fit (secrets (row Secret2 216 296 304 8 ∷ last 304)) ≡ false)
unfolding fitness
twice = (refl, refl, refl)

missing : fit (row Secret0 0 32 40 8 ∷ row Secret1 40 120 128 8 ∷ last 128) ≡ false
unfolding fitness
missing = refl

small-secret0 : fit (row Secret0 0 24 32 8 ∷ row Secret1 32 112 120 8 ∷ row Secret2 120 200 208 8 ∷ last 208) ≡ false
unfolding fitness
small-secret0 = refl

large-secret1 : fit (row Secret0 0 32 40 8 ∷ row Secret1 40 128 136 8 ∷ row Secret2 136 216 224 8 ∷ last 224) ≡ false
unfolding fitness
large-secret1 = refl

small-secret2 : fit (row Secret0 0 32 40 8 ∷ row Secret1 40 120 128 8 ∷ row Secret2 128 200 208 8 ∷ last 208) ≡ false
unfolding fitness
small-secret2 = refl

-- ---- "one life cycle part last, of 88 bytes": none, none but 88 bytes of another kind, two, one that is not last, one of 80 bytes, one of 96, one with a
-- digest

no-life-cycle : fit (secrets []) ≡ false
unfolding fitness
no-life-cycle = refl

other_last : fit (secrets (row Software 216 304 304 4 ∷ [])) ≡ false
unfolding fitness
other_last = refl

two-life-cycles : fit (secrets (row LifeCycle 216 296 304 4 ∷ last 304)) ≡ false
unfolding fitness
two-life-cycles = refl

life-cycle-first : fit (row LifeCycle 0 88 88 4 ∷ row Secret0 88 120 128 8 ∷ row Secret1 128 208 216 8 ∷ row Secret2 216 296 304 8 ∷ []) ≡ false
unfolding fitness
life-cycle-first = refl

short-life-cycle : fit (secrets (row LifeCycle 216 296 296 4 ∷ [])) ≡ false
unfolding fitness
short-life-cycle = refl

long-life-cycle : fit (secrets (row LifeCycle 216 312 312 4 ∷ [])) ≡ false
unfolding fitness
long-life-cycle = refl

life-cycle-digest : fit (secrets (row LifeCycle 216 296 304 4 ∷ [])) ≡ false
unfolding fitness
life-cycle-digest = refl

-- a map of no parts has none either
none : fit [] ≡ false
unfolding fitness
none = refl
