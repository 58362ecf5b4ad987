-- The refusals that all commands share. The idea: once what is lent is right, no act and no power-up answers 0x10 or 0x12; which answers an act gives is read
-- off its ends.
use Rattle.std.specs.Prelude.{Ok, Err}
use mathlib.Core.Path.{◌≡◌, refl, ap, ◌∙◌}
use mathlib.Core.Bool.{true, false, not, ◌||◌}
use mathlib.Core.List.{List}
use mathlib.Core.Logic.{◌↔◌}
use Prim.Native.Nat.{ℕ, ◌+◌, ◌<◌}
use native.Mathlib.Omega.{arith}
use lib.Dec.{eqb}
use lib.ListN.{get_or}
use borrow.Author.Tests.{eqb-false, eq-eqb, ne_eqb}
use Rattle.basics.specs.Range.{all_below}
use Rattle.basics.proofs.Choice.{true-not-false, to-T, and_left, and_right, and_both, if-both}
use Rattle.basics.proofs.Range.{all-at, all-below}
use Rattle.words.proofs.Rules.{or-keeps, keeps-or}
use Rattle.partitions.specs.Map.{Map}
use Rattle.constants.specs.Constants.{const_c, const_d, const_a, const_b, pair_valid, valid_constants}
use Rattle.constants.proofs.Constants.{pair}
use Rattle.model.specs.declared.Phase.{Phase}
use Rattle.model.specs.declared.Failure.TheVariants.{NotBlank, Denied, DigestFailed, NotReady, LifeCycleFailed, WrongLength, UnknownTarget}
use Rattle.model.specs.declared.Failure.TheVariants.{InvalidConstants, StrokesUsed, NotInTable, TokenNotLocked, TokenDiffers}
use Rattle.model.specs.declared.Command.{Command}
use Rattle.model.specs.declared.Command.TheVariants.{PowerUp}
use Rattle.model.specs.Answers.{Answer, code_of, value_of}
use Rattle.model.specs.Session.{is_ready}
use Rattle.model.specs.Lent.{Lent, Machine, Primitives, right_lengths, right_sizes}
use Rattle.model.specs.Acts.{Effect, Act, Performed, perform, no_effect}
use Rattle.model.specs.Commands.{ready_act}
use Rattle.model.specs.PowerUp.{verdict_of, life_cycle_in, power_up_end}
use Rattle.model.specs.Step.{Step, unchanged, performed, act, power_up, obey, machine_after, answer_to}
use Rattle.model.specs.Claims.Terms.{Says, not_power_up}
use Rattle.model.specs.Claims.Order.{Lengths, ValidPair, ValidPairs, valued, Order}
use Rattle.model.proofs.Acts.{Gives, perform-gives}
use Rattle.model.proofs.Transitions.{Ends}
use Rattle.model.proofs.Steps.{judged-obeys, obeys-act, lengths-of, obey-both, step-judged}
use Rattle.model.proofs.PowerUpEnd.{powered-answer}
use Rattle.model.proofs.NotReady.{step-not-ready}
use Rattle.model.proofs.Classes.{no-power-up}
use Rattle.model.proofs.Forms.{Refuses}
use Rattle.model.proofs.Leaves.{act-gives}
use Rattle.model.specs.declared.Phase.TheVariants as phase
use Rattle.model.specs.declared.Failure.{Failure}

-- ---- the answers of an act

abbrev Acted : Answer → Effect → Type 0
Acted (Ok value) t = Unit {0}
Acted (Err (NotBlank cell)) t = Unit {0}
Acted (Err Denied) t = Unit {0}
Acted (Err (DigestFailed partition)) t = ⊥
Acted (Err NotReady) t = Unit {0}
Acted (Err (LifeCycleFailed value)) t = ⊥
Acted (Err WrongLength) t = ⊥
Acted (Err UnknownTarget) t = Unit {0}
Acted (Err InvalidConstants) t = ⊥
Acted (Err StrokesUsed) t = Unit {0}
Acted (Err NotInTable) t = Unit {0}
Acted (Err TokenNotLocked) t = Unit {0}
Acted (Err TokenDiffers) t = Unit {0}

-- what is known of the code and the value of every answer after 0x10 and 0x12
abbrev Plain : Answer → Type 0
Plain answer = (eqb (code_of answer) 0x10 ≡ false) × (eqb (code_of answer) 0x12 ≡ false)

acted-plain : (answer : Answer) (t : Effect) → Acted answer t → Plain answer × (valued (code_of answer) ≡ false → value_of answer ≡ 0)
acted-plain (Ok value) t h = ((refl, refl), λ e. absurd (true-not-false refl e))
acted-plain (Err (NotBlank cell)) t h = ((refl, refl), λ e. absurd (true-not-false refl e))
acted-plain (Err Denied) t h = ((refl, refl), λ e. refl)
acted-plain (Err (DigestFailed _)) t h = elim h [ ]
acted-plain (Err NotReady) t h = ((refl, refl), λ e. refl)
acted-plain (Err (LifeCycleFailed _)) t h = elim h [ ]
acted-plain (Err WrongLength) t h = elim h [ ]
acted-plain (Err UnknownTarget) t h = ((refl, refl), λ e. refl)
acted-plain (Err InvalidConstants) t h = elim h [ ]
acted-plain (Err StrokesUsed) t h = ((refl, refl), λ e. refl)
acted-plain (Err NotInTable) t h = ((refl, refl), λ e. refl)
acted-plain (Err TokenNotLocked) t h = ((refl, refl), λ e. refl)
acted-plain (Err TokenDiffers) t h = ((refl, refl), λ e. refl)

acted-ends : Ends Acted
acted-ends = record { not-blank = λ cell. tt; moved = tt; forbidden = tt; token_unlocked = tt; differs = tt }

module _ (prims : Primitives) (map : Map) (m : Machine) where
  ready-acted : (x : Command) → Gives Acted (ready_act prims map m x)
  ready-acted x =
      act-gives prims map m
      (record { refused = refused-acted; done = λ q value. tt; not_blank = λ q cell. tt; locked = λ n e. tt; used = λ e. tt; spent = λ e. acted-ends })
    where
      refused-acted : {y : Command} {failure : Failure} → Refuses y failure → Acted (Err failure) no_effect
      refused-acted (Refuses.denied q) = tt
      refused-acted Refuses.not_ready = tt
      refused-acted Refuses.unknown_target = tt

  act-acted : (x : Command) → Plain (act prims map x m).result.answer
      × (valued (code_of (act prims map x m).result.answer) ≡ false → value_of (act prims map x m).result.answer ≡ 0)
  unfolding act performed
  act-acted x =
      let r : Performed = perform (ready_act prims map m x) m.lent in
      acted-plain r.answer r.effect (perform-gives (ready-acted x) m.lent)

  up-plain : Plain (power_up prims map m).result.answer
  unfolding power_up power_up_end
  up-plain =
      powered-answer Plain (verdict_of prims map m.lent) (life_cycle_in map m.lent) (λ value. (refl, refl)) (λ number. (refl, refl)) (λ value. (refl, refl))

  obey-plain : (x : Command) → Plain (obey prims map x m).result.answer
  obey-plain x = obey-both prims map (λ s _. Plain s.result.answer) x m m up-plain (act-acted x).0

-- ---- lengths

lengths-right : (map : Map) (l : Lent) → Lengths map l → right_lengths map l ≡ true
unfolding right_sizes
lengths-right map l h = and_both _ _ (and_both _ _ (eq-eqb _ _ h.cells) (eq-eqb _ _ h.copy)) (eq-eqb _ _ h.constants)

right-lengths : (prims : Primitives) (map : Map) (l : Lent) → right_lengths map l ≡ true → Lengths map l
right-lengths prims map l e = let h = lengths-of prims map l e in record { cells = h.0; copy = h.1; constants = h.2 }

-- ---- constants

pair-valid : (low up : ℕ) → ValidPair low up → pair_valid low up ≡ true
unfolding pair_valid
pair-valid low up p =
    and_both _ _ (and_both _ _ (ap not (ne_eqb low 0 p.nonzero)) (ap not (ne_eqb low up p.differs))) (ap not (or-keeps low up p.covered))

valid-pair : (low up : ℕ) → low < 65536 → pair_valid low up ≡ true → ValidPair low up
valid-pair low up l e = let p = pair low up e in record { nonzero = p.nonzero; differs = p.differs; covered = keeps-or low up l p.covered }

pairs-valid : (k : List ℕ) → ValidPairs k → valid_constants k ≡ true
unfolding valid_constants
pairs-valid k v = and_both _ _ (all-below 24 _ (λ i l. pair-valid _ _ (v.counter i l))) (all-below 20 _ (λ i l. pair-valid _ _ (v.state i l)))

valid-pairs : (k : List ℕ) → ((i : ℕ) → get_or k i 0 < 65536) → valid_constants k ≡ true → ValidPairs k
unfolding valid_constants
valid-pairs k h e = record {
  counter =
      λ i l. valid-pair _ _ (h (36 + i))
      (all-at 24 (λ i. pair_valid (const_c k i) (const_d k i)) (to-T (and_left (all_below 24 (λ i. pair_valid (const_c k i) (const_d k i))) _ e)) i l);
  state =
      λ i l. valid-pair _ _ (h (84 + i))
      (all-at 20 (λ i. pair_valid (const_a k i) (const_b k i)) (to-T (and_right (all_below 24 (λ i. pair_valid (const_c k i) (const_d k i))) _ e)) i l);
}

-- ---- the order

not-ready-phase : (p : Phase) → (p ≡ phase.Ready → ⊥) → is_ready p ≡ false
unfolding is_ready
not-ready-phase phase.Off n = refl
not-ready-phase phase.Ready n = absurd (n refl)
not-ready-phase phase.Inert n = refl
not-ready-phase (phase.Dead reason) n = refl

module _ (prims : Primitives) (map : Map) (m : Machine) (x : Command) where
  wrong-length : (code_of (answer_to prims map x m) ≡ 0x10) ↔ (Lengths map m.lent → ⊥)
  unfolding unchanged
  wrong-length =
      step-judged prims map (λ (s : Step). (code_of s.result.answer ≡ 0x10) ↔ (Lengths map m.lent → ⊥)) x m
      (λ t. ((λ q h. true-not-false (lengths-right map m.lent h) t), λ n. refl))
      (λ t u. ((λ q. absurd (omega (arith, q))), λ n. absurd (n (right-lengths prims map m.lent t))))
      (λ t u. ((λ q. absurd (eqb-false _ _ (obey-plain prims map m x).0 q)), λ n. absurd (n (right-lengths prims map m.lent t))))

  wrong-constants : ((i : ℕ) → get_or m.lent.constants i 0 < 65536) → Lengths map m.lent
      → (code_of (answer_to prims map x m) ≡ 0x12) ↔ (ValidPairs m.lent.constants → ⊥)
  unfolding unchanged
  wrong-constants w h =
      step-judged prims map (λ (s : Step). (code_of s.result.answer ≡ 0x12) ↔ (ValidPairs m.lent.constants → ⊥)) x m
      (λ t. absurd (true-not-false (lengths-right map m.lent h) t))
      (λ t u. ((λ q v. true-not-false (pairs-valid m.lent.constants v) u), λ n. refl))
      (λ t u. ((λ q. absurd (eqb-false _ _ (obey-plain prims map m x).1 q)), λ n. absurd (n (valid-pairs m.lent.constants w u))))

  not-ready : Lengths map m.lent → ValidPairs m.lent.constants → not_power_up x → (m.session.phase ≡ phase.Ready → ⊥)
      → Says 0x07 0 (answer_to prims map x m) × (machine_after prims map x m ≡ m)
  unfolding act performed ready_act perform
  not-ready h v u n =
      let e = not-ready-phase m.session.phase n in
      let q = judged-obeys prims map x m (lengths-right map m.lent h) (pairs-valid m.lent.constants v) ∙ obeys-act prims map x m (no-power-up x u) in (
        rw (q, answer_to) (if-both (λ (a : Act). Says 0x07 0 (perform a m.lent).answer) (not (is_ready m.session.phase)) _ _
            (λ t. (refl, refl)) (λ t. absurd (true-not-false (ap not e) t))),
        step-not-ready prims map x m u e,
      )

  no_value : valued (code_of (answer_to prims map x m)) ≡ false → (x ≡ PowerUp → ⊥) → value_of (answer_to prims map x m) ≡ 0
  unfolding unchanged
  no_value v n =
      step-judged prims map (λ (s : Step). valued (code_of s.result.answer) ≡ false → value_of s.result.answer ≡ 0) x m (λ t e. refl) (λ t u e. refl)
      (λ t u. rw (obeys-act prims map x m n) (act-acted prims map m x).1) v

module _ (prims : Primitives) (map : Map) where
  up-value : (m : Machine)
      → let code = code_of (answer_to prims map PowerUp m) in
      (eqb code 0x10 || eqb code 0x12) ≡ true → value_of (answer_to prims map PowerUp m) ≡ 0
  unfolding unchanged obey
  up-value m =
      let Q : Step → Type 0 = λ s. (eqb (code_of s.result.answer) 0x10 || eqb (code_of s.result.answer) 0x12) ≡ true → value_of s.result.answer ≡ 0 in
      step-judged prims map Q PowerUp m (λ t e. refl) (λ t u e. refl)
      (λ t u e. absurd (true-not-false e (rw ((up-plain prims map m).0, (up-plain prims map m).1) refl)))

  pub order : Order prims map
  order = record {
    lengths = wrong-length prims map;
    constants = wrong-constants prims map;
    phases = λ m x w h v. not-ready prims map m x h v;
    values = no_value prims map;
    power_up_values = up-value;
  }
