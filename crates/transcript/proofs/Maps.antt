-- Which map an image is taken for, by its length.
use Prim.Native.Nat.{ℕ}
use mathlib.Core.Path.{◌≡◌}
use mathlib.Core.List.{List}
use lib.ListN.{length}
use borrow.Author.Tests.{eq-eqb, ne_eqb}
use Rattle.basics.proofs.Choice.{if-true, if-false}
use Rattle.partitions.specs.declared.MapName.TheVariants.{Map1, Map2}
use Rattle.transcript.specs.Transcript.{map_for}

pub map1-named : (image : List ℕ) → (length image ≡ 1480 → ⊥) → map_for image ≡ Map1
unfolding map_for
map1-named image h = if-false _ _ (ne_eqb (length image) 1480 h)

pub map2-named : (image : List ℕ) → length image ≡ 1480 → map_for image ≡ Map2
unfolding map_for
map2-named image h = if-true _ _ (eq-eqb (length image) 1480 h)

pub ruleset maps_named = (map1-named, map2-named)
