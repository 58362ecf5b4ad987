-- The place that a command on an address reaches. The idea: an address below the limit lies in one partition of a fit map, and its granule in the words.
use mathlib.Core.Path.{◌≡◌, sym, ap, ◌∙◌}
use mathlib.Core.Bool.{true}
use mathlib.Core.List.{List}
use Rattle.std.specs.Prelude.{Some, None, Ok, Err}
use Prim.Native.Nat.{ℕ, ◌+◌, ◌-◌, ◌/◌, ◌≤◌, ◌<◌}
use native.Mathlib.Omega.{arith}
use lib.Dec.{leb}
use lib.ListN.{length, take, drop, length-drop}
use lib.Seq.{take_all, length-take-le}
use borrow.Author.Tests.{le-leb, lt-leb, leb-true, leb-false}
use Rattle.basics.proofs.Choice.{by_cases, if-true, if-false, by-option}
use Rattle.words.specs.Words.{number_of}
use Rattle.words.proofs.Parts.{part_slice}
use Rattle.partitions.specs.declared.Partition.{Partition}
use Rattle.partitions.specs.Map.{Map, partition_at, limit, first_word, word_count}
use Rattle.partitions.specs.Fitness.{fit}
use Rattle.partitions.proofs.Map.{inside, end-within}
use Rattle.partitions.proofs.Granules.{granule-inside, granule-within}
use Rattle.model.specs.declared.Failure.{Failure}
use Rattle.model.specs.declared.Failure.TheVariants.{Denied}
use Rattle.model.specs.Commands.{granule}
use Rattle.model.specs.Lent.{Machine, sizes_of}
use Rattle.direct_access.specs.declared.Place.{Place}
use Rattle.direct_access.specs.Access.{place_at, reached}
use Rattle.chip.proofs.Judging.{accepts, admitted}
use Rattle.chip.proofs.Acting.{admitting}

-- the slice of a granule, joined
pub granule-slice : (ws : List ℕ) (p : Partition) (a at n : ℕ) → at ≡ first_word p a → n ≡ word_count p a → first_word p a + word_count p a ≤ length ws
    → word_count p a ≤ 4 → number_of (take 4 (take (at + n - at) (drop at ws))) ≡ granule p ws a
unfolding granule
granule-slice ws p a at n e f l u =
    let s : at + n - at ≡ n = omega arith in
    let w = first_word p a in
    let whole = length-take-le (word_count p a) (drop w ws) (rw length-drop (omega arith)) in
    rw (s, e, f) (ap number_of (take_all 4 _ (omega (arith, whole)) ∙ sym (part_slice ws w (word_count p a) l)))

module _ (map : Map) (m : Machine) (a : ℕ) where
  -- ---- what the code finds

  pub not-admitted : (f : Failure) → admitting map m ≡ Some f → reached map m a ≡ Err f
  unfolding reached
  not-admitted f e = rw (e, reached)

  pub past-map : admitting map m ≡ None → limit map ≤ a → reached map m a ≡ Err Denied
  unfolding reached
  past-map e h = rw (e, reached) (if-true _ _ (le-leb _ _ h))

  pub in_map : admitting map m ≡ None → a < limit map → reached map m a ≡ Ok (place_at map a)
  unfolding reached
  in_map e h = rw (e, reached) (if-false _ _ (lt-leb _ _ h))

  -- ---- what follows from it

  -- q is the place of the address, and the command is admitted
  pub record Located (q : Place) : Type 0 where
    pub admitted-there : admitting map m ≡ None
    pub within : a < limit map
    pub found : q ≡ place_at map a
    pub cells-held : length m.lent.cells ≡ limit map / 2
    pub copy-held : length m.lent.copy ≡ limit map / 2

  -- the address is refused for want of admission, or lies past the map; or it has a place
  pub by_place {ℓ} : {X : Type ℓ} → ((f : Failure) → admitting map m ≡ Some f → X) → (admitting map m ≡ None → limit map ≤ a → X)
      → (admitting map m ≡ None → a < limit map → X) → X
  by_place f g h = by-option (admitting map m) (λ e. by_cases (leb (limit map) a) (λ t. g e (leb-true _ _ t)) (λ t. h e (leb-false _ _ t))) f

  pub reached-at : (q : Place) → reached map m a ≡ Ok q → Located q
  reached-at q r =
      by_place (λ f e. let z = not-admitted f e in cc) (λ e h. let z = past-map e h in cc)
      (λ e h.
      let z = in_map e h in
      let t = accepts map (sizes_of m.lent) m.lent.constants (admitted map (sizes_of m.lent) m.lent.constants m.session.phase e).0 in
      record { admitted-there = e; within = h; found = cc; cells-held = t.cells_right; copy-held = t.copy-right })

  -- the granule lies in cells and copy, the data words in the cells
  pub record Held (q : Place) : Type 0 where
    pub granule-in-cells : first_word q.partition q.address + word_count q.partition q.address ≤ length m.lent.cells
    pub granule-in-copy : first_word q.partition q.address + word_count q.partition q.address ≤ length m.lent.copy
    pub few : word_count q.partition q.address ≤ 4
    pub data-first : q.partition.start / 2 ≤ q.partition.digest / 2
    pub data-in-cells : q.partition.digest / 2 ≤ length m.lent.cells

  pub held : fit map ≡ true → (q : Place) → reached map m a ≡ Ok q → Held q
  unfolding partition_at
  held fits q r =
      let l = reached-at q r in
      let h = l.within in
      let i = inside map fits h in
      let w = granule-within map fits h in
      let u = end-within map fits i.known in
      let f = i.fits in
      let few = (granule-inside map fits h).few in
      rw l.found
      (record {
        granule-in-cells = omega (arith, l.cells-held);
        granule-in-copy = omega (arith, l.copy-held);
        few = few;
        data-first = omega (arith, f.data-first);
        data-in-cells = omega (arith, l.cells-held, f.digest-last);
      })

pub ruleset places = (not-admitted, past-map, in_map)

pub ruleset granules = (granule-slice)
