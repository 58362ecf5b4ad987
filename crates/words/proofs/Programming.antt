-- Laws of programming, by any rule of refusal. The idea: the answer goes word by word from the lowest, so each law is an induction on the value.
use mathlib.Core.Path.{◌≡◌, refl, sym, ap, ap₂, ◌∙◌}
use mathlib.Core.Bool.{true, false}
use mathlib.Core.List.{List, [], ◌∷◌, ◌++◌}
use Prim.Native.Nat.{ℕ, suc, ◌+◌, ◌-◌, ◌≤◌, ◌<◌}
use native.Mathlib.Nat.{le_refl, le_trans, add-zero, add-suc, suc-add}
use native.Mathlib.Omega.{arith}
use lib.Dec.{eqb, ltb}
use lib.ListN.{length, get_or, set, get_or-eq_default}
use lib.Seq.{sets, length-sets, get_or-set_same, get_or-set_other, set_out}
use borrow.Author.Tests.{eqb-true, eqb-false, ltb-true, ltb-false}
use Rattle.std.specs.Prelude.{Result, Ok, Err, ⊤}
use Rattle.basics.specs.Choice.{when◌then◌else◌}
use Rattle.basics.specs.Range.{listed}
use Rattle.basics.specs.Digits.{bit}
use Rattle.basics.proofs.Choice.{by_cases, true-not-false, if-true, if-false}
use Rattle.basics.proofs.Range.{length-listed, listed-from}
use Rattle.words.specs.declared.Rule.{Rule}
use Rattle.words.specs.declared.Rule.TheVariants.{KeepBits, BlankOnly}
use Rattle.words.specs.Words.{part_at}
use Rattle.words.specs.Programming.{loses_bit, refuses, program_answer, stored, program_cells, Lowest, Kept}
use Rattle.words.proofs.Parts.{part-sets, sets-elsewhere}
use Rattle.words.proofs.Rules.{keeps-bit, blank-passes, passed-keeps, kept-passes, blank-passed}

-- done or refused, and each case may use which
pub by_answer {ℓ} : {X : Type ℓ} (r : Result ⊤ ℕ) → (r ≡ Ok tt → X) → ((i : ℕ) → r ≡ Err i → X) → X
by_answer (Ok done) f g = f refl
by_answer (Err i) f g = g i refl

pub refused-not-done : {i : ℕ} → ◌≡◌ {A = Result ⊤ ℕ} (Err i) (Ok tt) → ⊥
refused-not-done e = cc

-- an array keeps its own bits, and what is kept twice over is kept
pub kept_refl : {c : List ℕ} → Kept c c
kept_refl = record { bits = λ j i h. le_refl _ }

pub kept_trans : {c d e : List ℕ} → Kept c d → Kept d e → Kept c e
kept_trans f g = record { bits = λ j i h. le_trans (f.bits j i h) (g.bits j i h) }

-- each part keeps its bits too
pub kept-part : {c d : List ℕ} → Kept c d → (at n : ℕ) → Kept (part_at c at n) (part_at d at n)
unfolding part_at
kept-part {c} {d} k at n =
    record {
      bits = λ j i h.
          by_cases (ltb j n)
          (λ t. rw (listed-from (λ j. get_or c j 0) 0 at n j (ltb-true _ _ t), listed-from (λ j. get_or d j 0) 0 at n j (ltb-true _ _ t)) (k.bits (at + j) i h))
          (λ t. rw (
            get_or-eq_default (listed (λ j. get_or c j 0) at n) 0 {n = j} (rw length-listed (ltb-false _ _ t)),
            get_or-eq_default (listed (λ j. get_or d j 0) at n) 0 {n = j} (rw length-listed (ltb-false _ _ t)),
          ) (le_refl _));
    }

module _ (rule : Rule) where
  -- ---- the answer

  pub answer-next : (c vs : List ℕ) (at v : ℕ) → refuses rule (get_or c at 0) v ≡ false → program_answer rule c at (v ∷ vs) ≡ program_answer rule c (suc at) vs
  unfolding program_answer
  answer-next c vs at v e = if-false _ _ e

  pub answer-stop : (c vs : List ℕ) (at v : ℕ) → refuses rule (get_or c at 0) v ≡ true → program_answer rule c at (v ∷ vs) ≡ Err at
  unfolding program_answer
  answer-stop c vs at v e = if-true _ _ e

  -- the answer depends on the programmed cells alone
  pub answer-same : (vs c d : List ℕ) (at : ℕ) → ((j : ℕ) → at ≤ j → j < at + length vs → get_or c j 0 ≡ get_or d j 0)
      → program_answer rule c at vs ≡ program_answer rule d at vs
  unfolding program_answer
  answer-same [] c d at h = refl
  answer-same (v ∷ vs) c d at h =
      ap₂ (λ (x : ℕ) (r : Result ⊤ ℕ). when refuses rule x v then Err at else r) (h at (omega arith) (omega arith))
      (answer-same vs c d (suc at) (λ j l u. h j (omega arith) (omega arith)))

  -- done: the first word was taken, and the rest
  done_first : (c vs : List ℕ) (at v : ℕ) → program_answer rule c at (v ∷ vs) ≡ Ok tt → refuses rule (get_or c at 0) v ≡ false
  done_first c vs at v e = by_cases (refuses rule (get_or c at 0) v) (λ t. absurd (refused-not-done (sym (answer-stop c vs at v t) ∙ e))) (λ t. t)

  done-rest : (c vs : List ℕ) (at v : ℕ) → program_answer rule c at (v ∷ vs) ≡ Ok tt → program_answer rule c (suc at) vs ≡ Ok tt
  done-rest c vs at v e = sym (answer-next c vs at v (done_first c vs at v e)) ∙ e

  -- a value and another behind it: the first is refused, or the second decides
  pub append-stop : (vs ws c : List ℕ) (at i : ℕ) → program_answer rule c at vs ≡ Err i → program_answer rule c at (vs ++ ws) ≡ Err i
  append-stop [] ws c at i e = unfold program_answer in (absurd (refused-not-done (sym e)))
  append-stop (v ∷ vs) ws c at i e =
      by_cases (refuses rule (get_or c at 0) v) (λ t. answer-stop c (vs ++ ws) at v t ∙ sym (answer-stop c vs at v t) ∙ e)
      (λ t. answer-next c (vs ++ ws) at v t ∙ append-stop vs ws c (suc at) i (sym (answer-next c vs at v t) ∙ e))

  pub append-next : (vs ws c : List ℕ) (at : ℕ) → program_answer rule c at vs ≡ Ok tt
      → program_answer rule c at (vs ++ ws) ≡ program_answer rule c (at + length vs) ws
  append-next [] ws c at e = rw add-zero
  append-next (v ∷ vs) ws c at e =
      answer-next c (vs ++ ws) at v (done_first c vs at v e) ∙ append-next vs ws c (suc at) (done-rest c vs at v e) ∙ rw (add-suc, suc-add)

  -- ---- word by word

  -- the first word of a value, and those of the rest
  first-word : (vs : List ℕ) (at v : ℕ) → get_or (v ∷ vs) (at - at) 0 ≡ v
  first-word vs at v = let q : at - at ≡ 0 = omega arith in rw q

  rest-word : (vs : List ℕ) (at v j : ℕ) → suc at ≤ j → get_or (v ∷ vs) (j - at) 0 ≡ get_or vs (j - suc at) 0
  rest-word vs at v j l = let q : j - at ≡ suc (j - suc at) = omega arith in rw q

  abbrev Passes : List ℕ → ℕ → List ℕ → ℕ → Type 0
  Passes c at vs j = refuses rule (get_or c j 0) (get_or vs (j - at) 0) ≡ false

  -- what is asked of every word up to an end is asked of the first and of the rest
  passes-all : (c vs : List ℕ) (at v end : ℕ) → refuses rule (get_or c at 0) v ≡ false → ((j : ℕ) → suc at ≤ j → j < end → Passes c (suc at) vs j)
      → (j : ℕ) → at ≤ j → j < end → Passes c at (v ∷ vs) j
  passes-all c vs at v end t h j l u =
      by_cases (eqb j at) (λ q. rw (eqb-true j at q, first-word) t)
      (λ q. let k : suc at ≤ j = omega (arith, eqb-false j at q) in rw (rest-word vs at v j k) (h j k u))

  -- done: every word passes
  done-passed : (vs c : List ℕ) (at : ℕ) → program_answer rule c at vs ≡ Ok tt → (j : ℕ) → at ≤ j → j < at + length vs → Passes c at vs j
  done-passed [] c at e = λ j l u. absurd (omega arith)
  done-passed (v ∷ vs) c at e =
      passes-all c vs at v _ (done_first c vs at v e) (λ j l u. done-passed vs c (suc at) (done-rest c vs at v e) j l (omega arith))

  -- refused: the lowest word that does not
  pub refused-lowest : (vs c : List ℕ) (at i : ℕ) → program_answer rule c at vs ≡ Err i → Lowest rule c at vs i
  refused-lowest [] c at i e = unfold program_answer in (absurd (refused-not-done (sym e)))
  refused-lowest (v ∷ vs) c at i e =
      by_cases (refuses rule (get_or c at 0) v) here (λ t. later t (refused-lowest vs c (suc at) i (sym (answer-next c vs at v t) ∙ e)))
    where
      here : refuses rule (get_or c at 0) v ≡ true → Lowest rule c at (v ∷ vs) i
      here t =
          let q : Err at ≡ Err i = sym (answer-stop c vs at v t) ∙ e in
          let p : at ≡ i = cc in
          rw (← p) (record { from = le_refl at; to = omega arith; refusing = rw first-word t; lower = λ j l u. absurd (omega arith) })

      later : refuses rule (get_or c at 0) v ≡ false → Lowest rule c (suc at) vs i → Lowest rule c at (v ∷ vs) i
      later t r =
          record {
            from = omega (arith, r.from);
            to = omega (arith, r.to);
            refusing = rw (rest-word vs at v i r.from) r.refusing;
            lower = passes-all c vs at v i t r.lower;
          }

  -- and no other word is named
  pub lowest-refused : (vs c : List ℕ) (at i : ℕ) → Lowest rule c at vs i → program_answer rule c at vs ≡ Err i
  lowest-refused vs c at i low =
      by_answer (program_answer rule c at vs) (λ e. absurd (true-not-false low.refusing (done-passed vs c at e i low.from low.to)))
      (λ k e. e ∙ ap Err (same k (refused-lowest vs c at k e)))
    where
      same : (k : ℕ) → Lowest rule c at vs k → k ≡ i
      same k r =
          by_cases (ltb k i) (λ t. absurd (true-not-false r.refusing (low.lower k r.from (ltb-true _ _ t))))
          (λ t. by_cases (ltb i k) (λ u. absurd (true-not-false low.refusing (r.lower i low.from (ltb-true _ _ u))))
          (λ u. omega (arith, ltb-false k i t, ltb-false i k u)))

  -- a refusing cell holds a bit, so it is one of the cells
  pub refused-inside : (c vs : List ℕ) (at i : ℕ) → program_answer rule c at vs ≡ Err i → i < length c
  refused-inside c vs at i e =
      let r = refused-lowest vs c at i e in
      by_cases (ltb i (length c)) (ltb-true _ _)
      (λ t. absurd (true-not-false r.refusing (rw (get_or-eq_default c 0 {n = i} (ltb-false _ _ t)) (blank-passes rule (get_or vs (i - at) 0)))))

  -- ---- the cells

  pub stored-done : (c vs : List ℕ) (at : ℕ) → program_answer rule c at vs ≡ Ok tt → program_cells rule c at vs ≡ sets c at vs
  unfolding program_cells stored
  stored-done c vs at e = rw e

  -- a refusal changes no cell
  pub stored_refused : (c vs : List ℕ) (at i : ℕ) → program_answer rule c at vs ≡ Err i → program_cells rule c at vs ≡ c
  unfolding program_cells stored
  stored_refused c vs at i e = rw e

  pub program-length : (c vs : List ℕ) (at : ℕ) → length (program_cells rule c at vs) ≡ length c
  program-length c vs at =
      by_answer (program_answer rule c at vs) (λ e. rw (stored-done c vs at e) (length-sets c at vs)) (λ i e. rw (stored_refused c vs at i e))

  -- only the part changes
  pub program-elsewhere : (c vs : List ℕ) (at j : ℕ) → (at ≤ j → j < at + length vs → ⊥) → get_or (program_cells rule c at vs) j 0 ≡ get_or c j 0
  program-elsewhere c vs at j h =
      by_answer (program_answer rule c at vs) (λ e. rw (stored-done c vs at e) (sets-elsewhere vs c at j h)) (λ i e. rw (stored_refused c vs at i e))

  -- after success the part is the value
  pub program-takes : (c vs : List ℕ) (at : ℕ) → at + length vs ≤ length c → program_answer rule c at vs ≡ Ok tt
      → part_at (program_cells rule c at vs) at (length vs) ≡ vs
  program-takes c vs at h e = rw (stored-done c vs at e) (part-sets vs c at h)

  -- ---- no bit is lost

  kept_set : (c : List ℕ) (at v : ℕ) → refuses rule (get_or c at 0) v ≡ false → Kept c (set c at v)
  kept_set c at v e =
      record {
        bits = λ j i h. by_cases (eqb j at) (λ t. rw (eqb-true j at t) (here i h)) (λ t. rw (get_or-set_other c at j v 0 (eqb-false j at t)) (le_refl _));
      }
    where
      here : (i : ℕ) → i < 16 → bit (get_or c at 0) i ≤ bit (get_or (set c at v) at 0) i
      here i h =
          by_cases (ltb at (length c)) (λ t. rw (get_or-set_same c at v 0 (ltb-true _ _ t)) (keeps-bit (get_or c at 0) v i (passed-keeps rule _ v e) h))
          (λ t. rw (set_out c at v (ltb-false _ _ t)) (le_refl _))

  kept_sets : (vs c : List ℕ) (at : ℕ) → program_answer rule c at vs ≡ Ok tt → Kept c (sets c at vs)
  kept_sets [] c at e = kept_refl
  kept_sets (v ∷ vs) c at e =
      kept_trans (kept_set c at v (done_first c vs at v e))
      (kept_sets vs (set c at v) (suc at)
      (answer-same vs (set c at v) c (suc at) (λ j l u. get_or-set_other c at j v 0 (λ q. omega arith)) ∙ done-rest c vs at v e))

  pub program-kept : (c vs : List ℕ) (at : ℕ) → Kept c (program_cells rule c at vs)
  program-kept c vs at =
      by_answer (program_answer rule c at vs) (λ e. rw (stored-done c vs at e) (kept_sets vs c at e)) (λ i e. rw (stored_refused c vs at i e) kept_refl)

-- ---- where a value is taken

-- by `KeepBits` a value is taken where no word of the part loses a bit
pub covered-done : (vs c : List ℕ) (at : ℕ) → ((i : ℕ) → i < length vs → loses_bit (get_or (part_at c at (length vs)) i 0) (get_or vs i 0) ≡ false)
    → program_answer KeepBits c at vs ≡ Ok tt
unfolding program_answer part_at listed
covered-done [] c at h = refl
covered-done (v ∷ vs) c at h =
    answer-next KeepBits c vs at v (kept-passes _ v (h 0 (omega arith))) ∙ covered-done vs c (suc at) (λ i l. h (suc i) (omega arith))

-- by any rule it is taken in a blank part, and by `BlankOnly` there alone
pub blank-done : (rule : Rule) (vs c : List ℕ) (at : ℕ) → ((j : ℕ) → at ≤ j → j < at + length vs → get_or c j 0 ≡ 0) → program_answer rule c at vs ≡ Ok tt
unfolding program_answer
blank-done rule [] c at h = refl
blank-done rule (v ∷ vs) c at h =
    answer-next rule c vs at v (rw (h at (omega arith) (omega arith)) (blank-passes rule v))
    ∙ blank-done rule vs c (suc at) (λ j l u. h j (omega arith) (omega arith))

pub done-blank : (vs c : List ℕ) (at j : ℕ) → program_answer BlankOnly c at vs ≡ Ok tt → at ≤ j → j < at + length vs → get_or c j 0 ≡ 0
done-blank vs c at j e l u = blank-passed _ _ (done-passed BlankOnly vs c at e j l u)
