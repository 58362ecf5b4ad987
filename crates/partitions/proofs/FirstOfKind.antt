-- The first partition of a kind. The idea: the definition goes along a map as the library's search for a place does.
use Rattle.std.proofs.Common.{◌≡◌, ◌≤◌, ℕ, Bool, ◌∷◌, length, refl, sym, ◌∙◌, ◌+◌, arith, ltb-false, nat_lt, cond, not, one-add}
use Rattle.std.specs.Bool.{◌==◌}
use Rattle.std.specs.List.{position, position_or_len}
use Rattle.std.specs.Option.{unwrap_or}
use Rattle.std.proofs.lemmas.List.Recursion.{is_position_or_len}
use Rattle.std.proofs.lemmas.List.Sums.{prefix_len-le-length}
use Rattle.basics.specs.Choice.{when◌then◌else◌}
use Rattle.basics.proofs.Choice.{by_cases}
use Rattle.partitions.specs.declared.Kind.{Kind}
use Rattle.partitions.specs.declared.Partition.{Partition}
use Rattle.partitions.specs.Map.{Map, kind_number, number_of_kind}

pub first_of_kind : (map : Map) (k : Kind) → unwrap_or (position (λ p. kind_number p.kind == kind_number k) map) (length map) ≡ number_of_kind map k
unfolding number_of_kind when◌then◌else◌
first_of_kind map k =
    by_cases (nat_lt n (length map)) (λ t. rw t (sym same)) (λ t. let last : length map ≡ n = omega (arith, most, ltb-false) in rw t (last ∙ sym same))
  where
    test : Partition → Bool
    test p = kind_number p.kind == kind_number k

    n : ℕ
    n = position_or_len test map

    most : n ≤ length map
    most = prefix_len-le-length (λ p. not (test p)) map

    step : (p : Partition) (ps : Map) → number_of_kind (p ∷ ps) k ≡ cond (test p) 0 (1 + number_of_kind ps k)
    step p ps = by_cases (test p) (λ t. rw t) (λ t. rw t (sym (one-add _)))

    same : number_of_kind map k ≡ n
    same = is_position_or_len (λ m. number_of_kind m k) test refl step map
