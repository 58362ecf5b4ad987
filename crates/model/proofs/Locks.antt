-- A partition that a power-up found locked never changes. The idea: its stored digest is nonzero, so every power-up that succeeds senses it,
-- and no command programs a partition whose sensed digest is nonzero.
use mathlib.Core.Path.{◌≡◌, refl, sym, ap, ◌∙◌}
use mathlib.Core.Bool.{true}
use mathlib.Core.List.{List, [], ◌∷◌, ◌++◌}
use Prim.Native.Nat.{ℕ, ◌*◌, ◌/◌, ◌≤◌, ◌<◌}
use native.Mathlib.Omega.{arith}
use lib.ListN.{get_or}
use Rattle.basics.proofs.Choice.{true-not-false, if-true}
use Rattle.basics.proofs.Range.{listed_at}
use Rattle.words.specs.Words.{number_of}
use Rattle.words.proofs.Parts.{part_same}
use Rattle.partitions.specs.Fitness.{fit}
use Rattle.partitions.proofs.Map.{only, partition-fit, digest-below-ten, life-cycle-partition}
use Rattle.partitions.specs.Map.{Map, partition, number_of_kind}
use Rattle.model.specs.declared.Command.{Command}
use Rattle.model.specs.declared.Command.TheVariants.{PowerUp}
use Rattle.model.specs.Session.{is_ready, sensed_at}
use Rattle.model.specs.Lent.{Lent, Machine, Primitives}
use Rattle.model.specs.Commands.{stored_digest}
use Rattle.model.specs.PowerUp.{sensed_digest, digests, PowerUpEnd, fails, succeeds, power_up_end, powered_session}
use Rattle.model.specs.Step.{Step, unchanged, performed, act, power_up, after, machine_after}
use Rattle.model.specs.Claims.Terms.{ValidInputs, Digested, SamePartition}
use Rattle.model.proofs.Acts.{perform-frame}
use Rattle.model.proofs.Frame.{Programmable, unlocked, life_cycle, act-open}
use Rattle.model.proofs.Steps.{after-append, step-all, step-up, after-inputs, after_act, powered_up}
use Rattle.model.proofs.Effects.{effect-ready, effect-sensed}
use Rattle.partitions.specs.declared.Kind.TheVariants as kind

pub same_refl : {map : Map} {n : ℕ} {c : List ℕ} → SamePartition map n c c
same_refl = record { at = λ j l u. refl }

pub same-trans : {map : Map} {n : ℕ} {c d e : List ℕ} → SamePartition map n c d → SamePartition map n d e → SamePartition map n c e
same-trans f g = record { at = λ j l u. f.at j l u ∙ g.at j l u }

module _ (prims : Primitives) (map : Map) (F : fit map ≡ true) (n : ℕ) (D : Digested map n) where
  pub sensed-stored : (l : Lent) → get_or (digests l.cells map) n 0 ≡ stored_digest (partition map n) l.cells
  unfolding digests sensed_digest
  sensed-stored l = listed_at _ 0 10 n (digest-below-ten map F D.direct) ∙ if-true _ _ D.direct

  pub stored_same : (c d : List ℕ) → SamePartition map n c d → stored_digest (partition map n) c ≡ stored_digest (partition map n) d
  unfolding stored_digest
  stored_same c d h =
      let f = partition-fit map F D.known in
      let e = f.tail D.direct in
      ap number_of (part_same c d ((partition map n).digest / 2) 4 (λ j l u. h.at j (omega arith) (omega arith)))

  -- the partition is locked: its stored digest is nonzero, and a Ready record has sensed it
  pub record Locked (m : Machine) : Type 0 where
    pub burnt : stored_digest (partition map n) m.lent.cells ≡ 0 → ⊥
    pub is_sensed : is_ready m.session.phase ≡ true → sensed_at m.session n ≡ 0 → ⊥

  powered-sensed : (w : PowerUpEnd) (l : Lent) → (stored_digest (partition map n) l.cells ≡ 0 → ⊥)
      → is_ready (powered_session map w l).phase ≡ true → sensed_at (powered_session map w l) n ≡ 0 → ⊥
  unfolding powered_session is_ready sensed_at
  powered-sensed (fails reason failure) l h r z = true-not-false r refl
  powered-sensed (succeeds state count) l h r z = h (sym (sensed-stored l) ∙ z)

  pub up-locked : (m : Machine) → (stored_digest (partition map n) m.lent.cells ≡ 0 → ⊥) → Locked (powered_up prims map m)
  unfolding power_up
  up-locked m h = record { burnt = h; is_sensed = powered-sensed (power_up_end prims map m.lent) m.lent h }

  shut : (x : Command) (m : Machine) → Locked m → (j : ℕ) → (partition map n).start ≤ 2 * j → 2 * j < (partition map n).end → Programmable map x m.session j
      → ⊥
  shut x m k j l u (unlocked r d z aim) = k.is_sensed r (rw (only map F D.known l u) at z)
  shut x m k j l u (life_cycle r t e) =
      let q : n ≡ number_of_kind map kind.LifeCycle = sym (only map F D.known l u) ∙ e in
      true-not-false D.direct (rw (← q) at (life-cycle-partition map F).closed)

  pub act-same : (x : Command) (m : Machine) → Locked m → SamePartition map n m.lent.cells (after_act prims map x m).lent.cells
  unfolding act performed
  act-same x m k = record { at = λ j l u. sym (perform-frame (act-open prims map F m x) m.lent j (shut x m k j l u)) }

  act-sensed : (x : Command) (m : Machine) → Locked m → is_ready (after_act prims map x m).session.phase ≡ true
      → sensed_at (after_act prims map x m).session n ≡ 0 → ⊥
  unfolding act performed sensed_at
  act-sensed x m k r z = k.is_sensed (effect-ready _ m.session r) (rw effect-sensed at z)

  pub act-locked : (x : Command) (m : Machine) → Locked m → Locked (after_act prims map x m)
  act-locked x m k = record { burnt = λ z. k.burnt (stored_same _ _ (act-same x m k) ∙ z); is_sensed = act-sensed x m k }

  up_same : (m : Machine) → SamePartition map n m.lent.cells (powered_up prims map m).lent.cells
  unfolding power_up
  up_same m = same_refl

  pub step-locked : (x : Command) (m : Machine) → Locked m
      → Locked (machine_after prims map x m) × SamePartition map n m.lent.cells (machine_after prims map x m).lent.cells
  unfolding unchanged
  step-locked x m k =
      step-all prims map (λ (s : Step). Locked s.result.machine × SamePartition map n m.lent.cells s.result.machine.lent.cells) x m
      (λ a e. (k, same_refl)) (up-locked m k.burnt, up_same m) (act-locked x m k, act-same x m k)

  pub after-locked : (l : List Command) (m : Machine) → Locked m
      → Locked (after prims map l m) × SamePartition map n m.lent.cells (after prims map l m).lent.cells
  unfolding after
  after-locked [] m k = (k, same_refl)
  after-locked (x ∷ l) m k =
      let s = step-locked x m k in
      let t = after-locked l (machine_after prims map x m) s.0 in
      (t.0, same-trans s.1 t.1)

  first-locked : (m : Machine) → ValidInputs map m → (stored_digest (partition map n) m.lent.cells ≡ 0 → ⊥)
      → Locked (machine_after prims map PowerUp m) × SamePartition map n m.lent.cells (machine_after prims map PowerUp m).lent.cells
  first-locked m r h = rw (step-up prims map m r, machine_after) (up-locked m h, up_same m)

  -- from a power-up that found it locked on, the partition is locked and the same
  pub locked-since : (m : Machine) → ValidInputs map m → (l₁ l₂ : List Command) → (stored_digest (partition map n) (after prims map l₁ m).lent.cells ≡ 0 → ⊥)
      → Locked (after prims map (l₁ ++ PowerUp ∷ l₂) m)
      × SamePartition map n (after prims map l₁ m).lent.cells (after prims map (l₁ ++ PowerUp ∷ l₂) m).lent.cells
  unfolding after
  locked-since m r l₁ l₂ h =
      let m₁ = after prims map l₁ m in
      let k = first-locked m₁ (after-inputs prims map l₁ m r) h in
      let t = after-locked l₂ (machine_after prims map PowerUp m₁) k.0 in
      rw after-append (t.0, same-trans k.1 t.1)
