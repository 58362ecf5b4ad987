-- "A caller names either map". What is listed of a map: the sizes and kinds of its partitions, and the numbers of those that have a right.
use Rattle.std.specs.Prelude.{ℕ, suc, ◌-◌, Bool, List, [], ◌∷◌}
use Rattle.basics.specs.Choice.{when◌then◌else◌}
use Rattle.partitions.specs.declared.MapName.{MapName}
use Rattle.partitions.specs.declared.MapName.TheVariants.{Map1, Map2}
use Rattle.partitions.specs.declared.Kind.{Kind}
use Rattle.partitions.specs.declared.Rights.{Rights}
use Rattle.partitions.specs.Map.{Map, rights_of}
use Rattle.partitions.specs.Map1.{map1}
use Rattle.partitions.specs.Map2.{map2}

unfoldable pub map_of : MapName → Map
map_of Map1 = map1
map_of Map2 = map2

-- "Sizes in bytes, in order, with digests"
unfoldable pub sizes : Map → List ℕ
sizes [] = []
sizes (p ∷ ps) = (p.end - p.start) ∷ sizes ps

-- their kinds, in order
unfoldable pub kinds : Map → List Kind
kinds [] = []
kinds (p ∷ ps) = p.kind ∷ kinds ps

-- of the partitions numbered from n on, those whose kind has the right
unfoldable pub numbers_with : (Rights → Bool) → ℕ → Map → List ℕ
numbers_with right n [] = []
numbers_with right n (p ∷ ps) = when right (rights_of p.kind) then n ∷ numbers_with right (suc n) ps else numbers_with right (suc n) ps
