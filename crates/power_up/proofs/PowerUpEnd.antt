-- How a power-up ends, against what the code finds. The idea: once it is known how it ends, the definitions say what is left.
use mathlib.Core.Path.{◌≡◌, refl, sym, ap, ap₂, ◌∙◌}
use mathlib.Core.Bool.{true}
use mathlib.Core.List.{List}
use Rattle.std.specs.Prelude.{Some, None, Ok, Err}
use Prim.Native.Nat.{ℕ, ◌+◌, ◌*◌, ◌-◌, ◌/◌}
use native.Mathlib.Omega.{arith}
use lib.ListN.{length, take, drop}
use borrow.Author.Tests.{eq-eqb, ne_eqb}
use Rattle.basics.specs.Range.{listed}
use Rattle.basics.proofs.Choice.{if-true, if-false}
use Rattle.words.proofs.Parts.{part_slice}
use Rattle.partitions.specs.Map.{Map, limit}
use Rattle.partitions.specs.Fitness.{fit}
use Rattle.life_cycle.specs.declared.LifeCycle.{LifeCycle}
use Rattle.life_cycle.specs.Words.{decoded}
use Rattle.model.specs.declared.Reason.{Reason}
use Rattle.model.specs.declared.Reason.TheVariants as reason
use Rattle.model.specs.declared.Phase.TheVariants.{Ready}
use Rattle.model.specs.declared.Session.{Session}
use Rattle.model.specs.declared.Failure.{Failure}
use Rattle.model.specs.declared.Failure.TheVariants as failure
use Rattle.model.specs.declared.Command.TheVariants.{PowerUp}
use Rattle.model.specs.declared.Outcome.{Outcome}
use Rattle.model.specs.Lent.{Lent, Machine, with_copy}
use Rattle.model.specs.Session.{unlocked}
use Rattle.model.specs.Commands.{counter_at, state_at}
use Rattle.model.specs.PowerUp.{digests, PowerUpEnd, fails, succeeds, life_cycle_end, end_of, verdict_of, life_cycle_in, copy_word, powered_copy}
use Rattle.model.specs.PowerUp.{powered_session, powered_answer, power_up_end}
use Rattle.model.specs.Step.{Answered, Step, obey, power_up}
use Rattle.model.proofs.Steps.{accepted-step}
use Rattle.chip.proofs.Acting.{judgement_of}
use Rattle.chip.proofs.LifeCyclePlace.{counter-words-end, state-words-end}
use Rattle.chip.specs.Chip.{primitives, result_of, result_for}
use Rattle.power_up.specs.PowerUpEnd.{ended_as, powered_result, dead_outcome}

-- ---- the life cycle words stand last

pub life-cycle-slices : (map : Map) → fit map ≡ true → (l : Lent) {counter state end : ℕ}
    → counter ≡ counter_at map → state ≡ state_at map → end ≡ limit map / 2 → length l.cells ≡ limit map / 2
    → decoded l.constants (take (state - counter) (drop counter l.cells)) (take (end - state) (drop state l.cells)) ≡ life_cycle_in map l
unfolding life_cycle_in
life-cycle-slices map fits l {counter} {state} {end} c s e n =
    let a = counter-words-end map fits in
    let b = state-words-end map fits in
    let x : state - counter ≡ 24 = omega arith in
    let y : end - state ≡ 20 = omega arith in
    rw (x, y, ← c, ← s)
    (ap₂ (decoded l.constants) (sym (part_slice l.cells counter 24 (omega arith))) (sym (part_slice l.cells state 20 (omega arith))))

-- ---- the two ends

pub ends_as : (map : Map) (w : Lent → PowerUpEnd) (l : Lent) {x : PowerUpEnd} → w l ≡ x → powered_result map w l ≡ powered_result map (λ l. x) l
ends_as map w l e = ap (λ (y : PowerUpEnd). powered_result map (λ l. y) l) e

dead_end : (map : Map) (r : Reason) (a : Failure) (l : Lent)
    → result_of (with_copy (listed (λ j. 0) 0 (limit map / 2)) l) (dead_outcome r a) ≡ powered_result map (λ l. fails r a) l
unfolding powered_copy powered_session powered_answer
dead_end map r a l = refl

pub dead-result : (map : Map) (w : Lent → PowerUpEnd) (l : Lent) {r : Reason} {a : Failure} {copy : List ℕ} {o : Outcome} → w l ≡ fails r a
    → length l.copy ≡ limit map / 2
    → copy ≡ listed (λ j. 0) 0 (length l.copy) → o ≡ dead_outcome r a → result_of (with_copy copy l) o ≡ powered_result map w l
dead-result map w l f n e q = rw (e, n, q) (dead_end map _ _ l ∙ sym (ends_as map w l f))

pub ready-result : (map : Map) (state count : ℕ) (l : Lent) {copy sensed : List ℕ} {value : ℕ} {session : Session}
    → copy ≡ listed (copy_word primitives map l.constants l.cells) 0 (limit map / 2) → sensed ≡ digests l.cells map
    → session ≡ unlocked Ready sensed state count → value ≡ 256 * count + state
    → result_of (with_copy copy l) (record { session = session; answer = Ok value }) ≡ powered_result map (λ l. succeeds state count) l
unfolding powered_copy powered_session powered_answer
ready-result map state count l e s r v = rw (e, r, s, v)

-- an end as the code returns it
ends_failed : (w : PowerUpEnd) (r : Reason) (f : Failure) → ended_as w ≡ Err (r, f) → w ≡ fails r f
ends_failed (fails r' f') r f e = let q : (r', f') ≡ (r, f) = cc in ap (λ (p : Reason × Failure). fails p.0 p.1) q
ends_failed (succeeds state count) r f e = cc

ends_usable : (w : PowerUpEnd) (life : LifeCycle) → ended_as w ≡ Ok life → w ≡ succeeds life.state life.count
ends_usable (fails r' f') life e = cc
ends_usable (succeeds state count) life e = let q : record { state = state; count = count } ≡ life = cc in rw (← q) refl

-- a power-up whose end is known
module _ (map : Map) (m : Machine) (accepted : judgement_of map m ≡ None) where
  powered-up : result_for map PowerUp m ≡ powered_result map (power_up_end primitives map) m.lent
  unfolding obey power_up
  powered-up = ap (λ (s : Step). s.result) (accepted-step primitives map PowerUp m accepted)

  pub powered-dead : (r : Reason) (f : Failure) → ended_as (power_up_end primitives map m.lent) ≡ Err (r, f) → length m.lent.copy ≡ limit map / 2
      → {copy : List ℕ} {o : Outcome} → copy ≡ listed (λ j. 0) 0 (length m.lent.copy) → o ≡ dead_outcome r f
      → result_of (with_copy copy m.lent) o ≡ result_for map PowerUp m
  powered-dead r f e n c o = dead-result map (power_up_end primitives map) m.lent (ends_failed _ r f e) n c o ∙ sym powered-up

  pub powered-ready : (life : LifeCycle) → ended_as (power_up_end primitives map m.lent) ≡ Ok life
      → {a : Answered} → a ≡ powered_result map (λ l. succeeds life.state life.count) m.lent → a ≡ result_for map PowerUp m
  powered-ready life e f = f ∙ sym (ends_as map (power_up_end primitives map) m.lent (ends_usable _ life e)) ∙ sym powered-up

-- ---- which end

module _ (map : Map) (l : Lent) where
  pub failed : (n : ℕ) → verdict_of primitives map l ≡ Some n → ended_as (power_up_end primitives map l) ≡ Err (reason.DigestFailed, failure.DigestFailed n)
  unfolding power_up_end end_of
  failed n e = rw (e, end_of)

  pub invalid : verdict_of primitives map l ≡ None → life_cycle_in map l ≡ None
      → ended_as (power_up_end primitives map l) ≡ Err (reason.LifeCycleFailed, failure.LifeCycleFailed 0xFFFF)
  unfolding power_up_end end_of life_cycle_end
  invalid e f = rw (e, f, end_of, life_cycle_end)

  pub scrapped : (life : LifeCycle) → verdict_of primitives map l ≡ None → life_cycle_in map l ≡ Some life → life.state ≡ 20
      → ended_as (power_up_end primitives map l) ≡ Err (reason.LifeCycleFailed, failure.LifeCycleFailed (256 * life.count + life.state))
  unfolding power_up_end end_of life_cycle_end
  scrapped life e f s = rw (e, f, end_of, life_cycle_end) (ap ended_as (if-true _ _ (eq-eqb life.state 20 s)))

  pub usable : (life : LifeCycle) → verdict_of primitives map l ≡ None → life_cycle_in map l ≡ Some life → (life.state ≡ 20 → ⊥)
      → ended_as (power_up_end primitives map l) ≡ Ok life
  unfolding power_up_end end_of life_cycle_end
  usable life e f s = rw (e, f, end_of, life_cycle_end) (ap ended_as (if-false _ _ (ne_eqb life.state 20 s)))

pub ruleset ends = (failed, invalid, scrapped, usable)
