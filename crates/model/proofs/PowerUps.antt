-- Power-ups: what they depend on, twice in a row, and where they fail. The idea: a power-up reads cells and constants alone.
use Rattle.std.specs.Prelude.{Option, None, Some}
use mathlib.Core.Path.{◌≡◌, refl, ap, ap₂, ◌∙◌}
use mathlib.Core.Bool.{true}
use mathlib.Core.List.{List}
use Prim.Native.Nat.{ℕ, ◌/◌}
use lib.Dec.{eqb}
use Rattle.basics.specs.Choice.{when◌then◌else◌}
use Rattle.basics.specs.Range.{listed}
use Rattle.basics.proofs.Choice.{by_cases, by-option}
use Rattle.partitions.specs.Map.{Map, limit}
use Rattle.constants.specs.Constants.{valid_constants}
use Rattle.life_cycle.specs.declared.LifeCycle.{LifeCycle}
use Rattle.model.specs.declared.Phase.TheVariants.{Dead}
use Rattle.model.specs.Answers.{code_of}
use Rattle.model.specs.Session.{no_digests, no_locks}
use Rattle.model.specs.declared.Session.{Session}
use Rattle.model.specs.declared.Command.TheVariants.{PowerUp}
use Rattle.model.specs.Lent.{Lent, Machine, Primitives, right_lengths, with_copy, sizes_of}
use Rattle.model.specs.PowerUp.{PowerUpEnd, fails, succeeds, verdict_of, life_cycle_in, life_cycle_end, end_of, power_up_end, powered_copy, powered_session}
use Rattle.model.specs.PowerUp.{powered_answer}
use Rattle.model.specs.Step.{Step, unchanged, power_up, obey, step, machine_after, answer_to, judgement}
use Rattle.model.specs.Claims.Terms.{ValidInputs}
use Rattle.model.proofs.Steps.{step-up, judged-obeys, obey-lengths, powered_up, refused-step, judgement-right, accepted-step}
use Rattle.model.specs.declared.Reason.TheVariants as reason
use Rattle.model.specs.declared.Failure.{Failure}

module _ (prims : Primitives) (map : Map) where
  -- neither copy nor record matters
  module _ (l l' : Lent) (e : l.cells ≡ l'.cells) (f : l.constants ≡ l'.constants) where
    same_end : power_up_end prims map l ≡ power_up_end prims map l'
    unfolding power_up_end life_cycle_in
    same_end = rw (e, f)

    same_copy : (w : PowerUpEnd) → powered_copy prims map w l ≡ powered_copy prims map w l'
    unfolding powered_copy
    same_copy (fails reason failure) = refl
    same_copy (succeeds state count) = rw (e, f)

    same-session : (w : PowerUpEnd) → powered_session map w l ≡ powered_session map w l'
    unfolding powered_session
    same-session (fails reason failure) = refl
    same-session (succeeds state count) = rw e

    same-lent : (copy : List ℕ) → with_copy copy l ≡ with_copy copy l'
    same-lent copy = rw (e, f)

  up-alone : (m n : Machine) → m.lent.cells ≡ n.lent.cells → m.lent.constants ≡ n.lent.constants
      → (powered_up prims map m ≡ powered_up prims map n) × ((power_up prims map m).result.answer ≡ (power_up prims map n).result.answer)
  unfolding power_up
  up-alone m n e f =
      let w = power_up_end prims map m.lent in
      rw (← same_end m.lent n.lent e f) (
        ap₂ (λ (l : Lent) (s : Session). record { lent = l; session = s })
            (ap (λ (k : List ℕ). with_copy k m.lent) (same_copy m.lent n.lent e f w) ∙ same-lent m.lent n.lent e f _)
            (same-session m.lent n.lent e f w),
        refl,
      )

  pub alone : (m n : Machine) → ValidInputs map m → ValidInputs map n → m.lent.cells ≡ n.lent.cells → m.lent.constants ≡ n.lent.constants
      → (machine_after prims map PowerUp m ≡ machine_after prims map PowerUp n) × (answer_to prims map PowerUp m ≡ answer_to prims map PowerUp n)
  alone m n r q e f = rw (step-up prims map m r, step-up prims map n q, machine_after, answer_to) (up-alone m n e f)

  -- ---- twice

  abbrev Again : Step → Type 0
  Again s =
      (machine_after prims map PowerUp s.result.machine ≡ s.result.machine) × (answer_to prims map PowerUp s.result.machine ≡ s.result.answer)

  up-cells : (m : Machine) → ((powered_up prims map m).lent.cells ≡ m.lent.cells) × ((powered_up prims map m).lent.constants ≡ m.lent.constants)
  unfolding power_up
  up-cells m = (refl, refl)

  up_up : (m : Machine) → right_lengths map m.lent ≡ true → valid_constants m.lent.constants ≡ true
      → step prims map PowerUp (powered_up prims map m) ≡ power_up prims map (powered_up prims map m)
  unfolding obey
  up_up m e v = judged-obeys prims map PowerUp (powered_up prims map m) (obey-lengths prims map PowerUp m e) (rw (up-cells m).1 v)

  up-again : (m : Machine) → right_lengths map m.lent ≡ true → valid_constants m.lent.constants ≡ true → Again (power_up prims map m)
  up-again m e v =
      let u = up-alone (powered_up prims map m) m (up-cells m).0 (up-cells m).1 in
      rw (up_up m e v, machine_after, answer_to) (u.0, u.1)

  -- a power-up that is refused leaves what is refused again
  refused-again : (m : Machine) (failure : Failure) → step prims map PowerUp m ≡ unchanged failure m → Again (unchanged failure m)
  unfolding unchanged
  refused-again m failure e = (ap (λ (s : Step). s.result.machine) e, ap (λ (s : Step). s.result.answer) e)

  pub again : (m : Machine) → Again (step prims map PowerUp m)
  unfolding obey
  again m =
      by-option (judgement map (sizes_of m.lent) m.lent.constants)
      (λ f. let q = judgement-right map (sizes_of m.lent) m.lent.constants f in rw (accepted-step prims map PowerUp m f) (up-again m q.0 q.1))
      (λ failure f. rw (refused-step prims map PowerUp m failure f) (refused-again m failure (refused-step prims map PowerUp m failure f)))

-- ---- a power-up that fails

module _ (prims : Primitives) (map : Map) where
  powered-cleared : (w : PowerUpEnd) (l : Lent) → (powered_session map w l).locks ≡ no_locks
  unfolding powered_session
  powered-cleared (fails reason failure) l = refl
  powered-cleared (succeeds state count) l = refl

  pub cleared : (m : Machine) → ValidInputs map m → (machine_after prims map PowerUp m).session.locks ≡ no_locks
  unfolding power_up
  cleared m r = rw (step-up prims map m r, machine_after) (powered-cleared _ m.lent)

  -- what such a power-up leaves
  abbrev Failed : PowerUpEnd → Lent → Type 0
  Failed w l =
      (code_of (powered_answer w) ≡ 0x00 → ⊥)
      → (powered_copy prims map w l ≡ listed (λ j. 0) 0 (limit map / 2))
      × (powered_session map w l ≡ record {
        phase = Dead (when eqb (code_of (powered_answer w)) 0x06 then reason.DigestFailed else reason.LifeCycleFailed);
        sensed = no_digests;
        locks = no_locks;
        state = 0;
        count = 0;
      })

  powered-failed : (v : Option ℕ) (life : Option LifeCycle) (l : Lent) → Failed (end_of v life) l
  unfolding end_of life_cycle_end powered_answer powered_copy powered_session when◌then◌else◌
  powered-failed (Some number) life l = λ n. (refl, refl)
  powered-failed None None l = λ n. (refl, refl)
  powered-failed None (Some life) l = by_cases (eqb life.state 20) (λ t. rw t (λ n. (refl, refl))) (λ t. rw t (λ n. absurd (n refl)))

  pub failed : (m : Machine) → ValidInputs map m
      → let code = code_of (answer_to prims map PowerUp m) in
      (code ≡ 0x00 → ⊥)
      → machine_after prims map PowerUp m
      ≡ record {
        lent = with_copy (listed (λ j. 0) 0 (limit map / 2)) m.lent;
        session =
            record {
              phase = Dead (when eqb code 0x06 then reason.DigestFailed else reason.LifeCycleFailed);
              sensed = no_digests;
              locks = no_locks;
              state = 0;
              count = 0;
            };
      }
  unfolding power_up power_up_end
  failed m r = rw (step-up prims map m r, machine_after, answer_to) (λ n.
      (let d = powered-failed (verdict_of prims map m.lent) (life_cycle_in map m.lent) m.lent n in
      ap₂ (λ (k : List ℕ) (s : Session). record { lent = with_copy k m.lent; session = s }) d.0 d.1))
