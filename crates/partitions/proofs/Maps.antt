-- Both maps are fit: the test is computed.
use mathlib.Core.Path.{◌≡◌, refl, sym, ◌∙◌}
use mathlib.Core.Bool.{true}
use Prim.Native.Nat.{ℕ, ◌≤◌, ◌<◌}
use lib.ListN.{length}
use Rattle.basics.specs.Choice.{when◌then◌else◌}
use Rattle.partitions.specs.declared.MapName.{MapName}
use Rattle.partitions.specs.declared.MapName.TheVariants.{Map1, Map2}
use Rattle.partitions.specs.Map.{Map, rights_of, number_at, partition, limit, kind_number, number_of_kind}
use Rattle.partitions.specs.Map1.{map1}
use Rattle.partitions.specs.Map2.{map2}
use Rattle.partitions.specs.Maps.{map_of}
use Rattle.partitions.specs.Fitness.{placed, digested, life_cycle_words, fit_from, count_of_kind, once, fit}
use Rattle.partitions.proofs.Map.{only, outside}

pub map1-fit : fit map1 ≡ true
unfolding fit fit_from placed digested life_cycle_words count_of_kind once kind_number number_of_kind partition limit rights_of when◌then◌else◌ map1
map1-fit = refl

pub map2-fit : fit map2 ≡ true
unfolding fit fit_from placed digested life_cycle_words count_of_kind once kind_number number_of_kind partition limit rights_of when◌then◌else◌ map2
map2-fit = refl

pub maps-fit : (name : MapName) → fit (map_of name) ≡ true
unfolding map_of
maps-fit Map1 = map1-fit
maps-fit Map2 = map2-fit

pub map1-limit : limit map1 ≡ 0x380
unfolding limit map1
map1-limit = refl

pub map2-limit : limit map2 ≡ 0x5C8
unfolding limit map2
map2-limit = refl

pub map1-length : length map1 ≡ 7
unfolding map1
map1-length = refl

pub map2-length : length map2 ≡ 11
unfolding map2
map2-length = refl

-- ---- what the code's matches test, over any fit map

module _ (map : Map) (fits : fit map ≡ true) (count : ℕ) (counted : length map ≡ count) where
  pub in-range : (n : ℕ) {a : ℕ} → (n < count) × ((partition map n).start ≤ a) × (a < (partition map n).end) → n ≡ number_at map a
  in-range n h = sym (only map fits (rw counted h.0) h.1 h.2)

  pub past_end : {a : ℕ} → limit map ≤ a → count ≡ number_at map a
  past_end h = sym (outside map fits h ∙ counted)
