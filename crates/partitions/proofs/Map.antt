-- Laws of fit maps, over any number of partitions. The idea: a fit map is its first partition and the rest, which is fit from that one's end on.
use mathlib.Core.Path.{◌≡◌, refl, ap, ◌∙◌}
use mathlib.Core.Bool.{true, false, not, ◌&&◌}
use mathlib.Core.List.{[], ◌∷◌}
use Prim.Native.Nat.{ℕ, zero, suc, ◌+◌, ◌-◌, ◌*◌, ◌/◌, ◌%◌, ◌≤◌, ◌<◌}
use native.Mathlib.Omega.{arith}
use lib.Dec.{eqb, leb, ltb}
use lib.ListN.{length, get_or, get_or-eq_default}
use borrow.Author.Tests.{eqb-true, leb-true, ltb-true, ltb-false, lt-ltb, le-ltb, le-leb, not-true}
use Rattle.basics.specs.Choice.{when◌then◌else◌}
use Rattle.basics.proofs.Choice.{by_cases, true-not-false, not-passed, and_left, and_right, and_both, and-three, if-true, if-false}
use Rattle.partitions.specs.declared.Partition.{Partition}
use Rattle.partitions.specs.declared.Kind.TheVariants.{Secret0, Secret1, LifeCycle}
use Rattle.partitions.specs.Map.{Map, rights_of, holds, number_at, nowhere, partition, partition_at, limit, number_of_kind}
use Rattle.partitions.specs.Fitness.{placed, digested, life_cycle_words, fit_from, once, fit}
use Rattle.partitions.proofs.KindRights.{life-cycle-direct}

-- what each partition of a fit map is like
pub record FitPartition (p : Partition) : Type 0 where
  pub start-aligned : p.start % 8 ≡ 0
  pub digest-aligned : p.digest % 8 ≡ 0
  pub end-aligned : p.end % 8 ≡ 0
  pub sized : p.granule ≡ (when (rights_of p.kind).scrambled then 8 else 4)
  pub filled : p.start < p.end
  pub data-first : p.start ≤ p.digest
  pub digest-last : p.digest ≤ p.end
  pub tail : (rights_of p.kind).direct ≡ true → p.digest + 8 ≡ p.end

-- an address inside the map, and its partition
pub record Inside (map : Map) (a : ℕ) : Type 0 where
  pub known : number_at map a < length map
  pub from : (partition_at map a).start ≤ a
  pub below : a < (partition_at map a).end
  pub fits : FitPartition (partition_at map a)

-- the partition of the life cycle words
pub record LastPartition (map : Map) (n : ℕ) : Type 0 where
  pub closed : (rights_of (partition map n).kind).direct ≡ false
  pub words : (partition map n).start + 88 ≡ (partition map n).end
  pub no-digest : (partition map n).digest ≡ (partition map n).end
  pub last : (partition map n).end ≡ limit map

-- ---- the tests of fitness, read as facts

record Placed (at : ℕ) (p : Partition) : Type 0 where
  joins : p.start ≡ at
  start-aligned : p.start % 8 ≡ 0
  digest-aligned : p.digest % 8 ≡ 0
  end-aligned : p.end % 8 ≡ 0
  sized : p.granule ≡ (when (rights_of p.kind).scrambled then 8 else 4)

is-placed : (at : ℕ) (p : Partition) → placed at p ≡ true → Placed at p
unfolding placed
is-placed at p h =
    let s = and-three (eqb p.start at && eqb (p.start % 8) 0 && eqb (p.digest % 8) 0) (eqb (p.end % 8) 0) _ h in
    let t = and-three (eqb p.start at) (eqb (p.start % 8) 0) (eqb (p.digest % 8) 0) s.0 in
    record {
      joins = eqb-true _ _ t.0;
      start-aligned = eqb-true _ _ t.1;
      digest-aligned = eqb-true _ _ t.2;
      end-aligned = eqb-true _ _ s.1;
      sized = eqb-true _ _ s.2;
    }

is-digested : (p : Partition) → digested p ≡ true → ((rights_of p.kind).direct ≡ true) × (p.start < p.digest) × (p.digest + 8 ≡ p.end)
unfolding digested
is-digested p h =
    let s = and-three (rights_of p.kind).direct (ltb p.start p.digest) _ h in
    (s.0, ltb-true _ _ s.1, eqb-true _ _ s.2)

are_words : (p : Partition) → life_cycle_words p ≡ true → ((rights_of p.kind).direct ≡ false) × (p.end ≡ p.start + 88) × (p.digest ≡ p.end)
unfolding life_cycle_words
are_words p h =
    let s = and-three (not (rights_of p.kind).direct) (eqb p.end (p.start + 88)) _ h in
    (not-true _ s.0, eqb-true _ _ s.1, eqb-true _ _ s.2)

-- ---- the first partition of a fit map, and the rest

fit-partition : {at : ℕ} {p : Partition} → Placed at p → p.start < p.end → p.start ≤ p.digest → p.digest ≤ p.end
    → ((rights_of p.kind).direct ≡ true → p.digest + 8 ≡ p.end) → (p.start ≡ at) × FitPartition p
fit-partition s filled data-first digest-last tail = (
  s.joins,
  record {
    start-aligned = s.start-aligned;
    digest-aligned = s.digest-aligned;
    end-aligned = s.end-aligned;
    sized = s.sized;
    filled = filled;
    data-first = data-first;
    digest-last = digest-last;
    tail = tail;
  },
)

fit-first : (at : ℕ) (p : Partition) (ps : Map) → fit_from at (p ∷ ps) ≡ true → (p.start ≡ at) × FitPartition p
unfolding fit_from
fit-first at p [] h =
    let w = are_words p (and_right (placed at p) _ h) in
    fit-partition (is-placed at p (and_left (placed at p) _ h)) (omega arith) (omega arith) (omega arith) (λ d. absurd (true-not-false d w.0))
fit-first at p (q ∷ ps) h =
    let t = and-three (placed at p) (digested p) _ h in
    let d = is-digested p t.1 in
    fit-partition (is-placed at p t.0) (omega arith) (omega arith) (omega arith) (λ e. d.2)

fit-rest : (at : ℕ) (p : Partition) (ps : Map) → 0 < length ps → fit_from at (p ∷ ps) ≡ true
    → ((rights_of p.kind).direct ≡ true) × (fit_from p.end ps ≡ true)
unfolding fit_from
fit-rest at p [] l h = absurd (omega arith)
fit-rest at p (q ∷ ps) l h =
    let t = and-three (placed at p) (digested p) _ h in
    ((is-digested p t.1).0, t.2)

limit-rest : (p : Partition) (ps : Map) → 0 < length ps → limit (p ∷ ps) ≡ limit ps
unfolding limit
limit-rest p [] l = absurd (omega arith)
limit-rest p (q ∷ ps) l = refl

-- ---- inductions over the map, from any start

first-within : (at : ℕ) (p : Partition) (ps : Map) → fit_from at (p ∷ ps) ≡ true → p.end ≤ limit (p ∷ ps)
unfolding limit
first-within at p [] h = omega arith
first-within at p (q ∷ ps) h =
    let r = (fit-rest at p (q ∷ ps) (omega arith) h).1 in
    let f = fit-first p.end q ps r in
    omega (arith, f.0, f.1.filled, first-within p.end q ps r)

record Member (at : ℕ) (map : Map) (n : ℕ) : Type 0 where
  fits : FitPartition (partition map n)
  above : at ≤ (partition map n).start
  within : (partition map n).end ≤ limit map

member-from : (map : Map) (at n : ℕ) → fit_from at map ≡ true → n < length map → Member at map n
unfolding partition
member-from [] at n h l = absurd (omega arith)
member-from (p ∷ ps) at zero h l =
    let f = fit-first at p ps h in
    record { fits = f.1; above = omega (arith, f.0); within = first-within at p ps h }
member-from (p ∷ ps) at (suc n) h l =
    let some : 0 < length ps = omega arith in
    let f = fit-first at p ps h in
    let r = member-from ps p.end n (fit-rest at p ps some h).1 (omega arith) in
    record { fits = r.fits; above = omega (arith, f.0, f.1.filled, r.above); within = rw (limit-rest p ps some) r.within }

number-here : (p : Partition) (ps : Map) (a : ℕ) → p.start ≤ a → a < p.end → number_at (p ∷ ps) a ≡ 0
unfolding number_at holds
number-here p ps a l u = if-true _ _ (and_both _ _ (le-leb _ _ l) (lt-ltb _ _ u))

number-there : (p : Partition) (ps : Map) (a : ℕ) → p.end ≤ a → number_at (p ∷ ps) a ≡ suc (number_at ps a)
unfolding number_at holds
number-there p ps a l = if-false _ _ (not-passed _ (λ e. true-not-false (and_right (leb p.start a) _ e) (le-ltb _ _ l)))

only-from : (map : Map) (at n a : ℕ) → fit_from at map ≡ true → n < length map
    → (partition map n).start ≤ a → a < (partition map n).end → number_at map a ≡ n
unfolding partition
only-from [] at n a h i l u = absurd (omega arith)
only-from (p ∷ ps) at zero a h i l u = number-here p ps a l u
only-from (p ∷ ps) at (suc n) a h i l u =
    let r = (fit-rest at p ps (omega arith) h).1 in
    let m = member-from ps p.end n r (omega arith) in
    number-there p ps a (omega (arith, m.above)) ∙ ap suc (only-from ps p.end n a r (omega arith) l u)

outside-from : (map : Map) (at a : ℕ) → fit_from at map ≡ true → limit map ≤ a → number_at map a ≡ length map
unfolding number_at limit
outside-from [] at a h l = refl
outside-from (p ∷ []) at a h l = number-there p [] a l
outside-from (p ∷ q ∷ ps) at a h l =
    number-there p (q ∷ ps) a (omega (arith, first-within at p (q ∷ ps) h))
    ∙ ap suc (outside-from (q ∷ ps) p.end a (fit-rest at p (q ∷ ps) (omega arith) h).1 l)

inside-here : (p : Partition) (ps : Map) (a : ℕ) → FitPartition p → p.start ≤ a → a < p.end → Inside (p ∷ ps) a
unfolding partition_at partition
inside-here p ps a f l u =
    let e : number_at (p ∷ ps) a ≡ 0 = number-here p ps a l u in
    record { known = rw e (omega arith); from = rw e l; below = rw e u; fits = rw e f }

inside-there : (p : Partition) (ps : Map) (a : ℕ) → p.end ≤ a → Inside ps a → Inside (p ∷ ps) a
unfolding partition_at partition
inside-there p ps a l i =
    let e : number_at (p ∷ ps) a ≡ suc (number_at ps a) = number-there p ps a l in
    record { known = rw e (omega (arith, i.known)); from = rw e i.from; below = rw e i.below; fits = rw e i.fits }

inside-from : (map : Map) (at a : ℕ) → fit_from at map ≡ true → at ≤ a → a < limit map → Inside map a
unfolding limit
inside-from [] at a h l u = absurd (omega arith)
inside-from (p ∷ []) at a h l u = let f = fit-first at p [] h in inside-here p [] a f.1 (omega (arith, f.0)) u
inside-from (p ∷ q ∷ ps) at a h l u =
    let f = fit-first at p (q ∷ ps) h in
    let rest = inside-from (q ∷ ps) p.end a (fit-rest at p (q ∷ ps) (omega arith) h).1 in
    by_cases (ltb a p.end) (λ t. inside-here p (q ∷ ps) a f.1 (omega (arith, f.0)) (ltb-true _ _ t))
    (λ t. let m = ltb-false _ _ t in inside-there p (q ∷ ps) a m (rest m u))

last-from : (map : Map) (at n : ℕ) → fit_from at map ≡ true → suc n ≡ length map → LastPartition map n
unfolding fit_from partition limit
last-from [] at n h e = absurd (omega arith)
last-from (p ∷ []) at zero h e =
    let w = are_words p (and_right (placed at p) _ h) in
    record { closed = w.0; words = omega arith; no-digest = w.2; last = refl }
last-from (p ∷ q ∷ ps) at zero h e = absurd (omega arith)
last-from (p ∷ []) at (suc n) h e = absurd (omega arith)
last-from (p ∷ q ∷ ps) at (suc n) h e =
    let r = last-from (q ∷ ps) p.end n (fit-rest at p (q ∷ ps) (omega arith) h).1 (omega arith) in
    record { closed = r.closed; words = r.words; no-digest = r.no-digest; last = r.last }

life-cycle-from : (map : Map) (at : ℕ) → fit_from at map ≡ true → suc (number_of_kind map LifeCycle) ≡ length map
unfolding fit_from number_of_kind
life-cycle-from [] at h = absurd (true-not-false h refl)
life-cycle-from (p ∷ []) at h =
    let w = are_words p (and_right (placed at p) _ h) in
    ap suc (if-true _ _ (life-cycle-direct p.kind ∙ ap not w.0))
life-cycle-from (p ∷ q ∷ ps) at h =
    let r = fit-rest at p (q ∷ ps) (omega arith) h in
    ap suc (if-false _ _ (life-cycle-direct p.kind ∙ ap not r.0) ∙ life-cycle-from (q ∷ ps) p.end r.1)

-- ---- the laws

pub limit_last : (map : Map) (d : Partition) → 0 < length map → limit map ≡ (get_or map (length map - 1) d).end
unfolding limit
limit_last [] d h = absurd (omega arith)
limit_last (p ∷ []) d h = refl
limit_last (p ∷ q ∷ ps) d h =
    let e : length (p ∷ q ∷ ps) - 1 ≡ suc (length (q ∷ ps) - 1) = omega arith in
    rw e (limit_last (q ∷ ps) d (omega arith))

pub partition-at : (map : Map) (a : ℕ) {n : ℕ} → number_at map a ≡ n → partition_at map a ≡ partition map n
unfolding partition_at
partition-at map a e = ap (partition map) e

pub partition-past : (map : Map) {n : ℕ} → length map ≤ n → partition map n ≡ nowhere
unfolding partition
partition-past map h = get_or-eq_default map nowhere h

-- direct access reaches partitions of the map alone
pub direct-known : (map : Map) (n : ℕ) → (rights_of (partition map n).kind).direct ≡ true → n < length map
unfolding nowhere rights_of
direct-known map n e =
    by_cases (ltb n (length map)) (ltb-true _ _)
    (λ t. absurd (true-not-false e (ap (λ (p : Partition). (rights_of p.kind).direct) (partition-past map (ltb-false _ _ t)))))

-- the tests of a whole map, read as facts
pub record Fit (map : Map) : Type 0 where
  pub in_order : fit_from 0 map ≡ true
  pub few : length map ≤ 11
  pub short : limit map ≤ 2048

pub is-fit : (map : Map) → fit map ≡ true → Fit map
unfolding fit
is-fit map h =
    let s = and-three (fit_from 0 map && leb (length map) 11 && leb (limit map) 2048 && once map Secret0 40) (once map Secret1 88) _ h in
    let t = and-three (fit_from 0 map && leb (length map) 11) (leb (limit map) 2048) _ s.0 in
    record { in_order = and_left (fit_from 0 map) _ t.0; few = leb-true _ _ (and_right (fit_from 0 map) _ t.0); short = leb-true _ _ t.1 }

module _ (map : Map) (fits : fit map ≡ true) where
  from_zero : fit_from 0 map ≡ true
  from_zero = (is-fit map fits).in_order

  -- a partition with a digest stands before the last one, so that ten sensed digests are enough
  pub digest-below-ten : {n : ℕ} → (rights_of (partition map n).kind).direct ≡ true → n < 10
  digest-below-ten {n} e =
      let k = direct-known map n e in
      let last : suc n ≡ length map → ⊥ = λ l. true-not-false e (last-from map 0 n from_zero l).closed in
      omega (arith, (is-fit map fits).few)

  pub inside : {a : ℕ} → a < limit map → Inside map a
  inside {a} h = inside-from map 0 a from_zero (omega arith) h

  pub outside : {a : ℕ} → limit map ≤ a → number_at map a ≡ length map
  outside {a} h = outside-from map 0 a from_zero h

  -- "lies in exactly one partition"
  pub only : {n a : ℕ} → n < length map → (partition map n).start ≤ a → a < (partition map n).end → number_at map a ≡ n
  only {n} {a} h l u = only-from map 0 n a from_zero h l u

  pub partition-fit : {n : ℕ} → n < length map → FitPartition (partition map n)
  partition-fit {n} h = (member-from map 0 n from_zero h).fits

  pub partition-word : {n j : ℕ} → n < length map → (partition map n).start / 2 ≤ j → j < (partition map n).end / 2 → number_at map (2 * j) ≡ n
  partition-word h l u = let f = partition-fit h in only h (omega (arith, f.start-aligned)) (omega arith)

  pub end-within : {n : ℕ} → n < length map → (partition map n).end ≤ limit map
  end-within {n} h = (member-from map 0 n from_zero h).within

  pub last-partition : {n : ℕ} → suc n ≡ length map → LastPartition map n
  last-partition {n} e = last-from map 0 n from_zero e

  pub life-cycle-last : suc (number_of_kind map LifeCycle) ≡ length map
  life-cycle-last = life-cycle-from map 0 from_zero

  pub life-cycle-partition : LastPartition map (number_of_kind map LifeCycle)
  life-cycle-partition = last-partition life-cycle-last

  -- the 24 counter words and the 20 state words
  pub life-cycle-word : {j : ℕ} → (partition map (number_of_kind map LifeCycle)).start / 2 ≤ j
      → j < (partition map (number_of_kind map LifeCycle)).start / 2 + 44
      → number_at map (2 * j) ≡ number_of_kind map LifeCycle
  life-cycle-word l u = let p = life-cycle-partition in partition-word (omega (arith, life-cycle-last)) l (omega (arith, p.words))
