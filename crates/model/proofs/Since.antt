-- What a power-up found, until the next: one invariant for all that lasts since. The idea: a command that leaves the phase Ready is no transition that spent a
-- stroke; so it leaves the life cycle words, and what is sensed locked, as they were, and no command but power-up writes the copy or the sensed digests.
use Rattle.std.specs.Prelude.{Option, None, Some}
use mathlib.Core.Path.{◌≡◌, refl, sym, ap, subst, ◌∙◌}
use mathlib.Core.Bool.{true}
use mathlib.Core.List.{List, [], ◌∷◌, ◌++◌}
use Prim.Native.Nat.{ℕ, ◌+◌, ◌*◌, ◌/◌, ◌≤◌, ◌<◌}
use native.Mathlib.Omega.{arith}
use lib.Dec.{eqb}
use lib.ListN.{get_or}
use borrow.Author.Tests.{eqb-false}
use Rattle.basics.specs.Range.{listed}
use Rattle.basics.proofs.Choice.{true-not-false, if-both, by_cases}
use Rattle.partitions.specs.Map.{Map, partition, limit, number_of_kind}
use Rattle.partitions.specs.Fitness.{fit}
use Rattle.partitions.proofs.Map.{only, life-cycle-last}
use Rattle.life_cycle.specs.declared.LifeCycle.{LifeCycle}
use Rattle.model.specs.declared.Failure.TheVariants.{LifeCycleFailed}
use Rattle.model.specs.declared.Command.{Command}
use Rattle.model.specs.declared.Command.TheVariants.{Transition, PowerUp}
use Rattle.model.specs.Answers.{code_of}
use Rattle.model.specs.Session.{is_ready, sensed_at}
use Rattle.model.specs.Lent.{Lent, Machine, Primitives, with_cells}
use Rattle.model.specs.Commands.{stored_digest, class_of, access}
use Rattle.model.specs.PowerUp.{PowerUpEnd, fails, succeeds, digests, verdict_of, life_cycle_in, copy_word, power_up_end, end_of, life_cycle_end, powered_copy}
use Rattle.model.specs.PowerUp.{powered_session, powered_answer}
use Rattle.model.specs.Step.{performed, act, power_up, after, machine_after, answer_to}
use Rattle.model.specs.Claims.Terms.{ValidInputs, Digested, SamePartition, not_power_up, NoPowerUp, stays_ready, Lasts, valid_life}
use Rattle.model.specs.Claims.Refusals.{early}
use Rattle.model.specs.Claims.Sensing.{Since}
use Rattle.model.proofs.Acts.{perform-frame, perform-gives}
use Rattle.model.proofs.Frame.{Programmable, unlocked, life_cycle, life-closed, act-open}
use Rattle.model.proofs.Steps.{after-append, obeys-act, step-obeys, step-up, up-inputs, act-inputs, step-inputs, after-inputs, after_act, powered_up}
use Rattle.model.proofs.Locks.{same_refl, same-trans, sensed-stored, stored_same, Locked, act-same}
use Rattle.model.proofs.Refusals.{transitions-refuse}
use Rattle.model.proofs.NotReady.{later-phase}
use Rattle.model.proofs.LifeCycleWords.{Recorded, up-life, others-life}
use Rattle.model.proofs.Ready.{act-leaves-phase, step-act}
use Rattle.model.proofs.Classes.{by-class, lasts_on, access-not-transiting, no-power-up}
use Rattle.model.proofs.Effects.{effect-sensed, effect-ready, effect-life, leaves-phase}
use Rattle.partitions.specs.declared.Kind.TheVariants as kind
use Rattle.model.specs.declared.Reason.TheVariants as reason

module _ (prims : Primitives) (map : Map) (F : fit map ≡ true) where
  -- ---- a power-up that leaves the phase Ready

  record Succeeded (v : Option ℕ) (life : Option LifeCycle) (w : PowerUpEnd) (l : Lent) : Type 0 where
    checked : v ≡ None
    decodes : life ≡ valid_life (powered_session map w l).state (powered_session map w l).count
    not_scrap : (powered_session map w l).state ≡ 20 → ⊥
    copy : powered_copy prims map w l ≡ listed (copy_word prims map l.constants l.cells) 0 (limit map / 2)
    sensed : (powered_session map w l).sensed ≡ digests l.cells map

  succeeded : (v : Option ℕ) (life : Option LifeCycle) (l : Lent) → is_ready (powered_session map (end_of v life) l).phase ≡ true
      → Succeeded v life (end_of v life) l
  unfolding end_of life_cycle_end powered_session powered_copy is_ready
  succeeded (Some number) life l = λ e. absurd (true-not-false e refl)
  succeeded None None l = λ e. absurd (true-not-false e refl)
  succeeded None (Some life) l =
      if-both (λ (w : PowerUpEnd). is_ready (powered_session map w l).phase ≡ true → Succeeded None (Some life) w l)
      (eqb life.state 20) (fails reason.LifeCycleFailed (LifeCycleFailed (256 * life.count + life.state))) (succeeds life.state life.count)
      (λ t e. absurd (true-not-false e refl)) (λ t e. record { checked = refl; decodes = refl; not_scrap = eqb-false _ _ t; copy = refl; sensed = refl })

  -- the invariant: while the phase is Ready
  pub record Held (c₀ : List ℕ) (m : Machine) : Type 0 where
    pub right : ValidInputs map m
    pub holds : is_ready m.session.phase ≡ true → Since prims map c₀ m

  up-since : (m : Machine) → ValidInputs map m → is_ready (powered_up prims map m).session.phase ≡ true
      → Since prims map m.lent.cells (powered_up prims map m)
  unfolding power_up power_up_end verdict_of
  up-since m r e =
      let w = succeeded (verdict_of prims map m.lent) (life_cycle_in map m.lent) m.lent e in
      record {
        right = up-inputs prims map m r;
        ready = e;
        checked = w.checked;
        sensed = w.sensed;
        copy = w.copy;
        unmoved = same_refl;
        life = up-life prims map F m ∙ w.decodes;
        not_scrap = w.not_scrap;
        locked = λ n D z. same_refl;
      }

  pub up-held : (m : Machine) → ValidInputs map m → Held m.lent.cells (machine_after prims map PowerUp m)
  up-held m r = rw (step-up prims map m r, machine_after) (record { right = up-inputs prims map m r; holds = up-since m r })

  -- ---- a command that is neither power-up nor transition

  life-shut : (x : Command) (m : Machine) → class_of x ≡ access
      → SamePartition map (number_of_kind map kind.LifeCycle) m.lent.cells (after_act prims map x m).lent.cells
  unfolding act performed
  life-shut x m n = record { at = λ j lo hi. sym (perform-frame (act-open prims map F m x) m.lent j (shut j lo hi)) }
    where
      shut : (j : ℕ) → (partition map (number_of_kind map kind.LifeCycle)).start ≤ 2 * j → 2 * j < (partition map (number_of_kind map kind.LifeCycle)).end
          → Programmable map x m.session j → ⊥
      shut j lo hi (unlocked r d z aim) = true-not-false d (life-closed prims map F j (only map F (omega (arith, life-cycle-last map F)) lo hi))
      shut j lo hi (life_cycle r t e) = access-not-transiting x n t

  since-locked : (c₀ : List ℕ) (m : Machine) → Since prims map c₀ m → (n : ℕ) (D : Digested map n) → (stored_digest (partition map n) c₀ ≡ 0 → ⊥)
      → Locked prims map F n D m
  unfolding sensed_at
  since-locked c₀ m s n D z = record {
    burnt = λ e. z (stored_same prims map F n D c₀ m.lent.cells (s.locked n D z) ∙ e);
    is_sensed = λ r e. z (sym (sensed-stored prims map F n D (with_cells c₀ m.lent)) ∙ sym (ap (λ (d : List ℕ). get_or d n 0) s.sensed) ∙ e);
  }

  act-since : (c₀ : List ℕ) (x : Command) (m : Machine) → class_of x ≡ access → is_ready (after_act prims map x m).session.phase ≡ true → Since prims map c₀ m
      → Since prims map c₀ (after_act prims map x m)
  act-since c₀ x m n e s = record {
    right = act-inputs prims map x m s.right;
    ready = e;
    checked = unfold act performed in s.checked;
    sensed = unfold act performed in (effect-sensed _ m.session ∙ s.sensed);
    copy = unfold act performed in s.copy;
    unmoved = same-trans s.unmoved (life-shut x m n);
    life = others-life prims map F x m n ∙ (unfold act performed in (rw ((effect-life _ _).0, (effect-life _ _).1) s.life));
    not_scrap = unfold act performed in (rw (effect-life _ _).0 s.not_scrap);
    locked = λ k D z. same-trans (s.locked k D z) (act-same prims map F k D x m (since-locked c₀ m s k D z));
  }

  -- ---- every command but power-up

  acts-held : (c₀ : List ℕ) (x : Command) (m : Machine) → not_power_up x → class_of x ≡ access → Held c₀ m → Held c₀ (machine_after prims map x m)
  acts-held c₀ x m u n h = rw (step-obeys prims map x m h.right ∙ obeys-act prims map x m (no-power-up x u), machine_after) (record {
    right = act-inputs prims map x m h.right;
    holds = λ e. act-since c₀ x m n e (h.holds (still e));
  })
    where
      still : is_ready (after_act prims map x m).session.phase ≡ true → is_ready m.session.phase ≡ true
      still = unfold act performed in (effect-ready _ m.session)

  -- a transition that leaves the phase Ready changes nothing
  transition-held : (c₀ : List ℕ) (m : Machine) (target given : ℕ) → Held c₀ m → Held c₀ (machine_after prims map (Transition target given) m)
  transition-held c₀ m target given h = record { right = step-inputs prims map x m h.right; holds = go }
    where
      x : Command
      x = Transition target given

      code : ℕ
      code = code_of (answer_to prims map x m)

      go : is_ready (machine_after prims map x m).session.phase ≡ true → Since prims map c₀ (machine_after prims map x m)
      go e =
          by_cases (early (code_of (answer_to prims map (Transition target given) m)))
          (λ t. (let q = (transitions-refuse prims map m target given).0 t in subst (Since prims map c₀) (sym q) (h.holds (rw q at e))))
          (λ t. absurd (true-not-false e (ap (λ s. is_ready s.phase) ((transitions-refuse prims map m target given).1 t).1 ∙ later-phase code)))

  step-held : (c₀ : List ℕ) (x : Command) (m : Machine) → not_power_up x → Held c₀ m → Held c₀ (machine_after prims map x m)
  step-held c₀ =
      by-class (λ (x : Command). (m : Machine) → not_power_up x → Held c₀ m → Held c₀ (machine_after prims map x m)) (λ m u h. absurd u)
      (λ target given m u h. transition-held c₀ m target given h) (λ x e m u h. acts-held c₀ x m u e h)

  pub after-held : (c₀ : List ℕ) (l : List Command) (m : Machine) → NoPowerUp l → Held c₀ m → Held c₀ (after prims map l m)
  unfolding after
  after-held c₀ [] m u h = h
  after-held c₀ (x ∷ l) m u h = after-held c₀ l (machine_after prims map x m) u.1 (step-held c₀ x m u.0 h)

  pub since-held : (m : Machine) → ValidInputs map m → (l₀ l₁ : List Command) → NoPowerUp l₁
      → Held (after prims map l₀ m).lent.cells (after prims map (l₀ ++ PowerUp ∷ l₁) m)
  since-held m r l₀ l₁ u =
      let m₀ = after prims map l₀ m in
      rw after-append (unfold after in (after-held m₀.lent.cells l₁ (machine_after prims map PowerUp m₀) u (up-held m₀ (after-inputs prims map l₀ m r))))

  -- ---- at every point of a list from a power-up

  pub record Reached (m : Machine) : Type 0 where
    pub found : List ℕ
    pub held : Held found m

  pub first-reached : (m : Machine) → ValidInputs map m → Reached (machine_after prims map PowerUp m)
  first-reached m r = record { found = m.lent.cells; held = up-held m r }

  pub step-reached : (x : Command) (m : Machine) → Reached m → Reached (machine_after prims map x m)
  step-reached =
      by-class (λ (x : Command). (m : Machine) → Reached m → Reached (machine_after prims map x m)) (λ m h. first-reached m h.held.right)
      (λ target given m h. goes (Transition target given) m tt h) (λ x e m h. goes x m (rw (e, not_power_up) tt) h)
    where
      goes : (x : Command) (m : Machine) → not_power_up x → Reached m → Reached (machine_after prims map x m)
      goes x m u h = record { found = h.found; held = step-held h.found x m u h.held }

  pub after-reached : (l : List Command) (m : Machine) → Reached m → Reached (after prims map l m)
  unfolding after
  after-reached [] m h = h
  after-reached (x ∷ l) m h = after-reached l (machine_after prims map x m) (step-reached x m h)

  pub since-reached : (m : Machine) → ValidInputs map m → (l : List Command) → Reached (after prims map (PowerUp ∷ l) m)
  unfolding after
  since-reached m r l = after-reached l (machine_after prims map PowerUp m) (first-reached m r)

  pub recorded : (m : Machine) → Reached m → is_ready m.session.phase ≡ true → Recorded prims map m
  recorded m h e = (h.held.holds e).life

  -- ---- while Ready lasts

  -- a power-up that answers 0 leaves the phase Ready
  life-succeeds : (life : Option LifeCycle) (Q : PowerUpEnd → Type 0) → ((state count : ℕ) → Q (succeeds state count))
      → code_of (powered_answer (life_cycle_end life)) ≡ 0x00 → Q (life_cycle_end life)
  unfolding life_cycle_end powered_answer
  life-succeeds None Q h = λ e. absurd (omega arith)
  life-succeeds (Some life) Q h =
      if-both (λ (w : PowerUpEnd). code_of (powered_answer w) ≡ 0x00 → Q w) _ _ _ (λ t e. absurd (omega arith)) (λ t e. h life.state life.count)

  end-succeeds : (verdict : Option ℕ) (life : Option LifeCycle) (Q : PowerUpEnd → Type 0) → ((state count : ℕ) → Q (succeeds state count))
      → code_of (powered_answer (end_of verdict life)) ≡ 0x00 → Q (end_of verdict life)
  unfolding end_of powered_answer
  end-succeeds (Some number) life Q h = λ e. absurd (omega arith)
  end-succeeds None life Q h = life-succeeds life Q h

  pub up-succeeds : (m : Machine) (Q : PowerUpEnd → Type 0) → ((state count : ℕ) → Q (succeeds state count))
      → code_of (power_up prims map m).result.answer ≡ 0x00
      → Q (power_up_end prims map m.lent)
  unfolding power_up power_up_end
  up-succeeds m Q h = end-succeeds _ _ Q h

  succeeded-ready : (m : Machine) → code_of (power_up prims map m).result.answer ≡ 0x00 → is_ready (powered_up prims map m).session.phase ≡ true
  unfolding power_up powered_session is_ready
  succeeded-ready m e = up-succeeds m (λ (w : PowerUpEnd). is_ready (powered_session map w m.lent).phase ≡ true) (λ state count. refl) e

  pub first-since : (m : Machine) → ValidInputs map m → code_of (answer_to prims map PowerUp m) ≡ 0x00
      → Since prims map m.lent.cells (machine_after prims map PowerUp m)
  first-since m r = rw (step-up prims map m r, machine_after, answer_to) (λ e. up-since m r (succeeded-ready m e))

  act-ready : (x : Command) (m : Machine) → stays_ready x (act prims map x m).result.answer → is_ready m.session.phase ≡ true
      → is_ready (after_act prims map x m).session.phase ≡ true
  unfolding act performed
  act-ready x m h e = rw (leaves-phase _ m.session (perform-gives (act-leaves-phase prims map m x) m.lent h)) e

  pub step-since : (c₀ : List ℕ) (x : Command) (m : Machine) → stays_ready x (answer_to prims map x m) → Since prims map c₀ m
      → Since prims map c₀ (machine_after prims map x m)
  step-since c₀ x m h s =
      let e = step-act prims map x m s.right h in
      (step-held c₀ x m (lasts_on x (answer_to prims map x m) h) (record { right = s.right; holds = λ q. s })).holds
      (rw (e, machine_after) (act-ready x m (rw (e, answer_to) at h) s.ready))

  pub after-since : (c₀ : List ℕ) (l : List Command) (m : Machine) → Lasts prims map l m → Since prims map c₀ m → Since prims map c₀ (after prims map l m)
  unfolding Lasts after
  after-since c₀ [] m h s = s
  after-since c₀ (x ∷ l) m h s = after-since c₀ l (machine_after prims map x m) h.1 (step-since c₀ x m h.0 s)

  -- ---- what is sensed is what was stored

  pub since-sensed : (c₀ : List ℕ) (m : Machine) → Since prims map c₀ m → (n : ℕ) → Digested map n → sensed_at m.session n ≡ stored_digest (partition map n) c₀
  unfolding sensed_at
  since-sensed c₀ m s n D = ap (λ (d : List ℕ). get_or d n 0) s.sensed ∙ sensed-stored prims map F n D (with_cells c₀ m.lent)
