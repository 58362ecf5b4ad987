-- Front reads, and that they show the same words once the partition is locked. The idea: a front read shows the copy, which is as the last power-up latched it;
-- and every power-up since one that found a partition locked latches the words that it found.
use Rattle.std.specs.Prelude.{Ok}
use mathlib.Core.Path.{◌≡◌, refl, sym, ◌∙◌, ap}
use mathlib.Core.Bool.{true}
use mathlib.Core.List.{List, [], ◌∷◌, ◌++◌, append-nil, append_assoc}
use mathlib.Core.Logic.{◌⊎◌, inl, inr, ⊎_elim}
use Prim.Native.Nat.{ℕ, ◌+◌, ◌*◌, ◌/◌, ◌≤◌, ◌<◌}
use native.Mathlib.Omega.{arith}
use lib.ListN.{get_or}
use borrow.Author.Tests.{not-false}
use Rattle.basics.proofs.Choice.{if-both}
use Rattle.basics.proofs.Range.{listed_at}
use Rattle.words.specs.Words.{number_of}
use Rattle.words.proofs.Parts.{part_same}
use Rattle.partitions.specs.Map.{Map, rights_of, number_at, partition, partition_at, limit, first_word, word_count}
use Rattle.partitions.specs.Fitness.{fit}
use Rattle.partitions.proofs.Map.{partition-at, end-within, inside}
use Rattle.partitions.proofs.Granules.{word-inside, word_number}
use Rattle.model.specs.declared.Command.{Command}
use Rattle.model.specs.declared.Command.TheVariants.{FrontRead, PowerUp}
use Rattle.model.specs.Answers.{value_of}
use Rattle.model.specs.Session.{is_ready}
use Rattle.model.specs.Lent.{Machine, Primitives}
use Rattle.model.specs.Acts.{Act, perform}
use Rattle.model.specs.Commands.{granule, stored_digest, front_read_act, command_act, ready_act}
use Rattle.model.specs.PowerUp.{copy_word}
use Rattle.model.specs.Step.{performed, act, obey, after, answer_to}
use Rattle.model.specs.Claims.Terms.{ValidInputs, Digested, SamePartition, NoPowerUp, not_power_up}
use Rattle.model.specs.Claims.Sensing.{Since}
use Rattle.model.proofs.Acts.{not_done}
use Rattle.model.proofs.Steps.{outcome, step-obeys, after-inputs}
use Rattle.model.proofs.Locks.{same_refl, locked-since}
use Rattle.model.proofs.Chips.{front-latched}
use Rattle.model.proofs.Since.{since-held}
use Rattle.model.proofs.Guards.{allowed-below, front-open, allowed-there}
use Rattle.model.proofs.Classes.{by-class}

-- ---- what a front read that answers 0 shows

module _ (prims : Primitives) (map : Map) where
  pub record Seen (m : Machine) (a value : ℕ) : Type 0 where
    pub ready : is_ready m.session.phase ≡ true
    pub below : a < limit map
    pub front : (rights_of (partition_at map a).kind).front ≡ true
    pub shown : value ≡ granule (partition_at map a) m.lent.copy a

  pub front-seen : (m : Machine) (a value : ℕ) → (outcome prims map (FrontRead a) m).answer ≡ Ok value → Seen m a value
  unfolding ready_act command_act front_read_act perform
  front-seen m a value =
      if-both Q _ _ _ (λ t e. absurd (not_done refl e)) λ r. if-both Q _ _ _ (λ t e. absurd (not_done refl e)) λ t e.
      record {
        ready = not-false _ r;
        below = allowed-below map a _ t;
        front = front-open (partition_at map a) a (allowed-there map a _ t);
        shown = sym (ap value_of e);
      }
    where
      Q : Act → Type 0
      Q x = (perform x m.lent).answer ≡ Ok value → Seen m a value

-- ---- it shows what the last power-up found

module _ (prims : Primitives) (map : Map) (F : fit map ≡ true) where
  seen-latched : (c₀ : List ℕ) (m : Machine) → Since prims map c₀ m → (a value : ℕ) → Seen prims map m a value → value ≡ granule (partition_at map a) c₀ a
  unfolding granule
  seen-latched c₀ m s a value seen =
      seen.shown ∙ ap number_of (part_same m.lent.copy c₀ _ _ (λ j from upto. word j from upto))
    where
      word : (j : ℕ) → first_word (partition_at map a) a ≤ j → j < first_word (partition_at map a) a + word_count (partition_at map a) a
          → get_or m.lent.copy j 0 ≡ get_or c₀ j 0
      word j from upto =
          let n = word_number map F seen.below from upto in
          let p = partition-at map (2 * j) n in
          let i = inside map F seen.below in
          let top : (partition_at map a).end ≤ limit map = unfold partition_at in (end-within map F i.known) in
          let low : j < limit map / 2 = omega (arith, (word-inside map F seen.below from upto).below, top, i.fits.end-aligned) in
          ap (λ (k : List ℕ). get_or k j 0) s.copy
          ∙ listed_at (copy_word prims map m.lent.constants c₀) 0 (limit map / 2) j low
          ∙ front-latched prims map m.lent.constants c₀ j (rw p (unfold partition_at in seen.front))

  read-seen : (m : Machine) → ValidInputs map m → (a value : ℕ) → answer_to prims map (FrontRead a) m ≡ Ok value → Seen prims map m a value
  unfolding obey act performed
  read-seen m r a value = rw (step-obeys prims map (FrontRead a) m r, answer_to) (front-seen prims map m a value)

  pub fronts : (m : Machine) → ValidInputs map m → (l₀ l₁ : List Command) → NoPowerUp l₁ → (a value : ℕ)
      → answer_to prims map (FrontRead a) (after prims map (l₀ ++ PowerUp ∷ l₁) m) ≡ Ok value
      → value ≡ granule (partition_at map a) (after prims map l₀ m).lent.cells a
  fronts m r l₀ l₁ u a value e =
      let m₁ = after prims map (l₀ ++ PowerUp ∷ l₁) m in
      let h = since-held prims map F m r l₀ l₁ u in
      let seen = read-seen m₁ h.right a value e in
      seen-latched (after prims map l₀ m).lent.cells m₁ (h.holds seen.ready) a value seen

-- ---- the last power-up of a list

record Last (l : List Command) : Type 0 where
  before : List Command
  behind : List Command
  split : l ≡ before ++ PowerUp ∷ behind
  no_power_up : NoPowerUp behind

last_or : (l : List Command) → Last l ⊎ NoPowerUp l
last_or [] = inr tt
last_or (x ∷ l) =
    ⊎_elim (λ q. inl (record { before = x ∷ q.before; behind = q.behind; split = ap (λ (k : List Command). x ∷ k) q.split; no_power_up = q.no_power_up }))
    (first x l) (last_or l)
  where
    first : (x : Command) (l : List Command) → NoPowerUp l → Last (x ∷ l) ⊎ NoPowerUp (x ∷ l)
    first =
        by-class (λ (x : Command). (l : List Command) → NoPowerUp l → Last (x ∷ l) ⊎ NoPowerUp (x ∷ l))
        (λ l u. inl (record { before = []; behind = l; split = refl; no_power_up = u })) (λ target given l u. inr (tt, u))
        (λ x e l u. inr (rw (e, not_power_up) tt, u))

last_of : (l : List Command) → Last (PowerUp ∷ l)
last_of l = ⊎_elim (λ q. q) (λ u. absurd u.0) (last_or (PowerUp ∷ l))

-- before it the list is empty or begins with the first
abbrev Starts : List Command → Type 0
Starts [] = Unit {0}
Starts (x ∷ l) = x ≡ PowerUp

starts : (before behind l : List Command) → PowerUp ∷ l ≡ before ++ PowerUp ∷ behind → Starts before
starts [] behind l e = tt
starts (x ∷ before) behind l e = let q : x ≡ PowerUp = cc in q

-- ---- the words of a partition that a power-up found locked

module _ (prims : Primitives) (map : Map) (F : fit map ≡ true) (m : Machine) (r : ValidInputs map m) (n : ℕ) (D : Digested map n) (l₁ : List Command)
    (z : stored_digest (partition map n) (after prims map l₁ m).lent.cells ≡ 0 → ⊥) where
  abbrev c₁ : List ℕ
  c₁ = (after prims map l₁ m).lent.cells

  -- every later power-up finds them too
  found-same : (before : List Command) → Starts before → SamePartition map n c₁ (after prims map (l₁ ++ before) m).lent.cells
  found-same [] s = rw append-nil same_refl
  found-same (x ∷ l) s = rw s (locked-since prims map F n D m r l₁ l z).1

  granule-same : (c : List ℕ) → SamePartition map n c₁ c → (a : ℕ) → a < limit map → number_at map a ≡ n
      → granule (partition_at map a) c a ≡ granule (partition map n) c₁ a
  unfolding granule
  granule-same c h a low e =
      let p = partition-at map a e in
      ap number_of (part_same c c₁ _ _ (λ j from upto. sym (h.at j (inside j from upto).0 (inside j from upto).1))) ∙ rw p
    where
      inside : (j : ℕ) → first_word (partition_at map a) a ≤ j → j < first_word (partition_at map a) a + word_count (partition_at map a) a
          → ((partition map n).start ≤ 2 * j) × (2 * j < (partition map n).end)
      inside j from upto =
          let w = word-inside map F low from upto in
          rw (← partition-at map a e) (w.from, w.below)

  pub device-final : (l₂ : List Command) (a value : ℕ) → number_at map a ≡ n
      → answer_to prims map (FrontRead a) (after prims map (l₁ ++ PowerUp ∷ l₂) m) ≡ Ok value
      → value ≡ granule (partition map n) c₁ a
  device-final l₂ a value e q =
      let k = last_of l₂ in
      let split : l₁ ++ PowerUp ∷ l₂ ≡ (l₁ ++ k.before) ++ PowerUp ∷ k.behind = ap (λ (l : List Command). l₁ ++ l) k.split
      ∙ sym (append_assoc l₁ k.before (PowerUp ∷ k.behind)) in
      let shown = rw split at q in
      let low = (read-seen prims map F (after prims map (l₁ ++ PowerUp ∷ l₂) m) (after-inputs prims map (l₁ ++ PowerUp ∷ l₂) m r) a value q).below in
      fronts prims map F m r (l₁ ++ k.before) k.behind k.no_power_up a value shown
      ∙ granule-same (after prims map (l₁ ++ k.before) m).lent.cells (found-same k.before (starts k.before k.behind l₂ k.split)) a low e
