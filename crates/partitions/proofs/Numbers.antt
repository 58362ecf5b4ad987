-- Both maps in the papers' own numbers: sizes, kinds, and which partitions have which right. Each list is computed. In a fit map partitions adjoin from 0 and
-- end with a digest of eight bytes: there the sizes fix every address.
use mathlib.Core.Path.{◌≡◌, refl}
use mathlib.Core.List.{[], ◌∷◌}
use Rattle.basics.specs.Choice.{when◌then◌else◌}
use Rattle.partitions.specs.declared.Kind.TheVariants.{Software, AuthState, HwCfg, Secret0, Secret1, Secret2, LifeCycle}
use Rattle.partitions.specs.declared.Rights.{Rights}
use Rattle.partitions.specs.Map.{rights_of}
use Rattle.partitions.specs.Map1.{map1}
use Rattle.partitions.specs.Map2.{map2}
use Rattle.partitions.specs.Maps.{sizes, kinds, numbers_with}

-- ---- Map 1: the differences of document 01's addresses

pub map1-sizes : sizes map1 ≡ 256 ∷ 256 ∷ 80 ∷ 40 ∷ 88 ∷ 88 ∷ 88 ∷ []
unfolding sizes map1
map1-sizes = refl

pub map1-kinds : kinds map1 ≡ Software ∷ Software ∷ HwCfg ∷ Secret0 ∷ Secret1 ∷ Secret2 ∷ LifeCycle ∷ []
unfolding kinds map1
map1-kinds = refl

-- all but LIFE_CYCLE
pub map1-direct : numbers_with (λ (r : Rights). r.direct) 0 map1 ≡ 0 ∷ 1 ∷ 2 ∷ 3 ∷ 4 ∷ 5 ∷ []
unfolding numbers_with rights_of when◌then◌else◌ map1
map1-direct = refl

-- "Read lock (partition). 5 unless 0 or 1."
pub map1-read-locks : numbers_with (λ (r : Rights). r.lockable) 0 map1 ≡ 0 ∷ 1 ∷ []
unfolding numbers_with rights_of when◌then◌else◌ map1
map1-read-locks = refl

-- "2 to 5 are buffered with a hardware digest."
pub map1-hardware : numbers_with (λ (r : Rights). r.hardware) 0 map1 ≡ 2 ∷ 3 ∷ 4 ∷ 5 ∷ []
unfolding numbers_with rights_of when◌then◌else◌ map1
map1-hardware = refl

-- SECRET0, 1, 2: "8 bytes in 3, 4, 5"
pub map1-secrets : numbers_with (λ (r : Rights). r.scrambled) 0 map1 ≡ 3 ∷ 4 ∷ 5 ∷ []
unfolding numbers_with rights_of when◌then◌else◌ map1
map1-secrets = refl

-- "HW_CFG data from the sensed copy; any other address 5."
pub map1-front-reads : numbers_with (λ (r : Rights). r.front) 0 map1 ≡ 2 ∷ []
unfolding numbers_with rights_of when◌then◌else◌ map1
map1-front-reads = refl

-- "A direct access write .. is now refused with 4 if any word of its target granule is nonzero" (request Three): in every partition
pub map1-old-rule : numbers_with (λ (r : Rights). r.additive) 0 map1 ≡ []
unfolding numbers_with rights_of when◌then◌else◌ map1
map1-old-rule = refl

-- ---- Map 2 (request Six)

-- "VENDOR_TEST 64, CREATOR_SW_CFG 256, OWNER_SW_CFG 256, ROT_CREATOR_AUTH_CODESIGN 472, ROT_CREATOR_AUTH_STATE 40, HW_CFG0 72, HW_CFG1 16, SECRET0 40,
-- SECRET1 88, SECRET2 88, LIFE_CYCLE 88"
pub map2-sizes : sizes map2 ≡ 64 ∷ 256 ∷ 256 ∷ 472 ∷ 40 ∷ 72 ∷ 16 ∷ 40 ∷ 88 ∷ 88 ∷ 88 ∷ []
unfolding sizes map2
map2-sizes = refl

-- "the secrets and LIFE_CYCLE hold the same items in the same order"
pub map2-kinds : kinds map2 ≡ Software ∷ Software ∷ Software ∷ Software ∷ AuthState ∷ HwCfg ∷ HwCfg ∷ Secret0 ∷ Secret1 ∷ Secret2 ∷ LifeCycle ∷ []
unfolding kinds map2
map2-kinds = refl

pub map2-direct : numbers_with (λ (r : Rights). r.direct) 0 map2 ≡ 0 ∷ 1 ∷ 2 ∷ 3 ∷ 4 ∷ 5 ∷ 6 ∷ 7 ∷ 8 ∷ 9 ∷ []
unfolding numbers_with rights_of when◌then◌else◌ map2
map2-direct = refl

-- "The first five are unbuffered and read-lockable"
pub map2-read-locks : numbers_with (λ (r : Rights). r.lockable) 0 map2 ≡ 0 ∷ 1 ∷ 2 ∷ 3 ∷ 4 ∷ []
unfolding numbers_with rights_of when◌then◌else◌ map2
map2-read-locks = refl

-- "the next five have hardware digests"
pub map2-hardware : numbers_with (λ (r : Rights). r.hardware) 0 map2 ≡ 5 ∷ 6 ∷ 7 ∷ 8 ∷ 9 ∷ []
unfolding numbers_with rights_of when◌then◌else◌ map2
map2-hardware = refl

pub map2-secrets : numbers_with (λ (r : Rights). r.scrambled) 0 map2 ≡ 7 ∷ 8 ∷ 9 ∷ []
unfolding numbers_with rights_of when◌then◌else◌ map2
map2-secrets = refl

-- "A front read reaches both HW_CFG parts."
pub map2-front-reads : numbers_with (λ (r : Rights). r.front) 0 map2 ≡ 5 ∷ 6 ∷ []
unfolding numbers_with rights_of when◌then◌else◌ map2
map2-front-reads = refl

-- "AUTH_STATE data, like LIFE_CYCLE, keeps the old rule under Three and Five."
pub map2-old-rule : numbers_with (λ (r : Rights). r.additive) 0 map2 ≡ 4 ∷ []
unfolding numbers_with rights_of when◌then◌else◌ map2
map2-old-rule = refl
