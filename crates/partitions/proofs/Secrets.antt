-- The secrets of a fit map. The idea: fitness counts one partition of each secret kind, so that the first of the kind is one, and tests its size.
use mathlib.Core.Path.{◌≡◌, refl, sym, ap, ◌∙◌}
use mathlib.Core.Bool.{true, ◌&&◌}
use mathlib.Core.List.{[], ◌∷◌}
use Prim.Native.Nat.{ℕ, zero, suc, ◌+◌, ◌<◌}
use native.Mathlib.Omega.{arith}
use lib.Dec.{eqb, leb}
use lib.ListN.{length}
use borrow.Author.Tests.{eqb-true}
use Rattle.basics.proofs.Choice.{by_cases, and_left, and_right, and-three, if-true, if-false}
use Rattle.partitions.specs.declared.Kind.{Kind}
use Rattle.partitions.specs.declared.Kind.TheVariants.{Software, AuthState, HwCfg, Secret0, Secret1, Secret2, LifeCycle}
use Rattle.partitions.specs.Map.{Map, partition, limit, kind_number, number_of_kind}
use Rattle.partitions.specs.Fitness.{fit_from, count_of_kind, once, fit}

-- ---- a kind is known by its number

kind_from : ℕ → Kind
kind_from zero = Software
kind_from (suc zero) = AuthState
kind_from (suc (suc zero)) = HwCfg
kind_from (suc (suc (suc zero))) = Secret0
kind_from (suc (suc (suc (suc zero)))) = Secret1
kind_from (suc (suc (suc (suc (suc zero))))) = Secret2
kind_from (suc (suc (suc (suc (suc (suc n)))))) = LifeCycle

kind-from : (k : Kind) → kind_from (kind_number k) ≡ k
unfolding kind_number kind_from
kind-from Software = refl
kind-from AuthState = refl
kind-from HwCfg = refl
kind-from Secret0 = refl
kind-from Secret1 = refl
kind-from Secret2 = refl
kind-from LifeCycle = refl

same_kind : (j k : Kind) → kind_number j ≡ kind_number k → j ≡ k
same_kind j k e = sym (kind-from j) ∙ ap kind_from e ∙ kind-from k

-- ---- a kind that is counted is found

record Found (map : Map) (k : Kind) : Type 0 where
  known : number_of_kind map k < length map
  is_kind : (partition map (number_of_kind map k)).kind ≡ k

found : (map : Map) (k : Kind) → 0 < count_of_kind map k → Found map k
unfolding count_of_kind number_of_kind partition
found [] k = λ h. absurd (omega arith)
found (p ∷ ps) k =
    by_cases (eqb (kind_number p.kind) (kind_number k))
    (λ t h. let e = if-true 0 (suc (number_of_kind ps k)) t in record { known = rw e (omega arith); is_kind = rw e (same_kind _ _ (eqb-true _ _ t)) })
    (λ t. rw (if-false (suc (count_of_kind ps k)) (count_of_kind ps k) t) (λ h.
    let e = if-false 0 (suc (number_of_kind ps k)) t in
    let f = found ps k h in
    record { known = rw e (omega (arith, f.known)); is_kind = rw e f.is_kind }))

-- ---- "each secret once, of its size"

pub record Secret (map : Map) (k : Kind) (size : ℕ) : Type 0 where
  pub known : number_of_kind map k < length map
  pub is_kind : (partition map (number_of_kind map k)).kind ≡ k
  pub sized : (partition map (number_of_kind map k)).start + size ≡ (partition map (number_of_kind map k)).end

is-secret : (map : Map) (k : Kind) (size : ℕ) → once map k size ≡ true → Secret map k size
unfolding once
is-secret map k size h =
    let f = found map k (omega (arith, eqb-true (count_of_kind map k) 1 (and_left (eqb (count_of_kind map k) 1) _ h))) in
    record { known = f.known; is_kind = f.is_kind; sized = eqb-true _ _ (and_right (eqb (count_of_kind map k) 1) _ h) }

module _ (map : Map) (fits : fit map ≡ true) where
  all_once : (once map Secret0 40 ≡ true) × (once map Secret1 88 ≡ true) × (once map Secret2 88 ≡ true)
  unfolding fit
  all_once =
      let s = and-three (fit_from 0 map && leb (length map) 11 && leb (limit map) 2048 && once map Secret0 40) (once map Secret1 88) _ fits in
      (and_right (fit_from 0 map && leb (length map) 11 && leb (limit map) 2048) _ s.0, s.1, s.2)

  pub secret0 : Secret map Secret0 40
  secret0 = is-secret map Secret0 40 all_once.0

  pub secret1 : Secret map Secret1 88
  secret1 = is-secret map Secret1 88 all_once.1

  pub secret2 : Secret map Secret2 88
  secret2 = is-secret map Secret2 88 all_once.2
