-- Laws for code that lends a part of the cells. The idea: a word of the value past the last cell meets a blank that is not there, so it can be left out.
use mathlib.Core.Path.{◌≡◌, refl, sym, ap, ap₂, ◌∙◌}
use mathlib.Core.Bool.{Bool, true, false}
use mathlib.Core.List.{List, [], ◌∷◌, ◌++◌, append-nil, append_assoc}
use Prim.Native.Nat.{ℕ, suc, ◌+◌, ◌≤◌, ◌<◌}
use native.Mathlib.Nat.{add-zero, add-suc, zero-add}
use native.Mathlib.Numerals.{add-one}
use native.Mathlib.Omega.{arith}
use lib.Dec.{ltb}
use lib.ListN.{length, get_or, set, take, drop, length-drop, length-set, take-append-drop, get_or-eq_default}
use lib.Seq.{sets, sets-eq, get_or-take, get_or-drop, drop-drop, drop-length, take_all, length-take-le}
use borrow.Author.Tests.{ltb-true, ltb-false}
use Rattle.std.specs.Prelude.{Option, Some, None, Result, Ok, Err, ⊤, cond, position, zip, MatchResult, IsErrAnd}
use Rattle.std.proofs.lemmas.Result.{err_from_is_err_and}
use Rattle.std.specs.List.{position_from}
use Rattle.std.proofs.lemmas.Iterator.Adapters.{position_from-zero}
use Rattle.basics.specs.Choice.{when◌then◌else◌}
use Rattle.basics.proofs.Choice.{by_cases}
use Rattle.words.specs.declared.Rule.{Rule}
use Rattle.words.specs.Programming.{refuses, program_answer, program_cells}
use Rattle.words.proofs.Parts.{sets-past}
use Rattle.words.proofs.Programming.{by_answer, append-stop, append-next, blank-done, stored-done}
use Rattle.words.proofs.Programming.{stored_refused}

-- ---- the search over a part: what it finds is the answer

-- the answer that names a word that was found
abbrev pub named : Option ℕ → Result ⊤ ℕ
named None = Ok tt
named (Some i) = Err i

named_if : (b : Bool) (x y : Option ℕ) → (when b then named x else named y) ≡ named (cond b x y)
unfolding when◌then◌else◌
named_if true x y = refl
named_if false x y = refl

searched-from : (rule : Rule) (ss vs c : List ℕ) (i : ℕ) → length ss ≡ length vs → ((j : ℕ) → j < length ss → get_or c (i + j) 0 ≡ get_or ss j 0)
    → program_answer rule c i vs ≡ named (position_from (λ p. refuses rule p.0 p.1) i (zip ss vs))
unfolding program_answer
searched-from rule [] [] c i e h = refl
searched-from rule [] (v ∷ vs) c i e h = absurd (omega arith)
searched-from rule (s ∷ ss) [] c i e h = absurd (omega arith)
searched-from rule (s ∷ ss) (v ∷ vs) c i e h =
    let here : get_or c i 0 ≡ s = rw add-zero at (h 0 (omega arith)) in
    let rest = searched-from rule ss vs c (i + 1) (omega arith) (λ j l. (let q : i + 1 + j ≡ i + suc j = omega arith in rw q (h (suc j) (omega arith)))) in
    rw (← add-one i, here, rest) (named_if (refuses rule s v) (Some i) _)

pub searched : (rule : Rule) (ss vs : List ℕ) → length ss ≡ length vs
    → program_answer rule ss 0 vs ≡ named (position (λ p. refuses rule p.0 p.1) (zip ss vs))
searched rule ss vs e =
    searched-from rule ss vs ss 0 e (λ j l. rw zero-add) ∙ ap named (sym (position_from-zero (λ p. refuses rule p.0 p.1) (zip ss vs)))

-- the whole part becomes the value
pub sets-whole : (ss vs : List ℕ) → length ss ≡ length vs → sets ss 0 vs ≡ vs
sets-whole ss vs e =
    let l : 0 + length vs ≤ length ss = omega arith in
    let z : 0 + length vs ≡ length ss = omega arith in
    sets-eq vs ss 0 l ∙ rw (z, drop-length ss) (append-nil vs)

-- ---- a value that reaches past the last cell

past-done : (rule : Rule) (vs c : List ℕ) (at : ℕ) → length c ≤ at → program_answer rule c at vs ≡ Ok tt
past-done rule vs c at h = blank-done rule vs c at (λ j l u. get_or-eq_default c 0 {n = j} (omega arith))

pub past-cells : (rule : Rule) (c vs : List ℕ) (at : ℕ) → length c ≤ at → (Ok tt ≡ program_answer rule c at vs) × (c ≡ program_cells rule c at vs)
past-cells rule c vs at h = (sym (past-done rule vs c at h), sym (stored-done rule c vs at (past-done rule vs c at h) ∙ sets-past vs c at h))

front-answer : (rule : Rule) (xs ys c : List ℕ) (at : ℕ) → length c ≤ at + length xs → program_answer rule c at (xs ++ ys) ≡ program_answer rule c at xs
front-answer rule xs ys c at h =
    by_answer (program_answer rule c at xs) (λ e. append-next rule xs ys c at e ∙ past-done rule ys c (at + length xs) h ∙ sym e)
    (λ i e. append-stop rule xs ys c at i e ∙ sym e)

front-sets : (xs ys c : List ℕ) (at : ℕ) → length c ≤ at + length xs → sets c at (xs ++ ys) ≡ sets c at xs
front-sets [] ys c at h = sets-past ys c at (omega arith)
front-sets (x ∷ xs) ys c at h = front-sets xs ys (set c at x) (suc at) (rw length-set (omega arith))

-- ---- the part that is lent, against the whole array

-- an answer counted from the part's start, counted over the array
abbrev pub counted : ℕ → Result ⊤ ℕ → Result ⊤ ℕ
counted at (Ok done) = Ok done
counted at (Err i) = Err (at + i)

counted_if : (b : Bool) (at : ℕ) (x y : Result ⊤ ℕ) → counted at (when b then x else y) ≡ (when b then counted at x else counted at y)
unfolding when◌then◌else◌
counted_if true at x y = refl
counted_if false at x y = refl

part-answer : (rule : Rule) (vs c p : List ℕ) (at i : ℕ) → ((j : ℕ) → i ≤ j → j < i + length vs → get_or c (at + j) 0 ≡ get_or p j 0)
    → program_answer rule c (at + i) vs ≡ counted at (program_answer rule p i vs)
unfolding program_answer
part-answer rule [] c p at i h = refl
part-answer rule (v ∷ vs) c p at i h =
    ap₂ (λ (x : ℕ) (r : Result ⊤ ℕ). when refuses rule x v then Err (at + i) else r) (h i (omega arith) (omega arith))
    (ap (λ (n : ℕ). program_answer rule c n vs) (sym (add-suc at i)) ∙ part-answer rule vs c p at (suc i) (λ j l u. h j (omega arith) (omega arith)))
    ∙ sym (counted_if (refuses rule (get_or p i 0) v) at (Err i) (program_answer rule p (suc i) vs))

-- the n cells from `at` on are lent with the lowest n words of the value; n is short of the value only where the array ends
module _ (rule : Rule) (c vs : List ℕ) (at n : ℕ) (inside : at + n ≤ length c) (some : n ≤ length vs) (all : n < length vs → length c ≤ at + n) where
  abbrev part : List ℕ
  part = take n (drop at c)

  abbrev value : List ℕ
  value = take n vs

  value-length : length value ≡ n
  value-length = length-take-le n vs some

  pub same-lengths : length part ≡ length value
  same-lengths = length-take-le n (drop at c) (simp length-drop (omega arith)) ∙ sym value-length

  -- leaving the words past the last cell out changes nothing
  left-out {ℓ} : {X : Type ℓ} (f : List ℕ → X) → (length c ≤ at + length value → f (value ++ drop n vs) ≡ f value) → f vs ≡ f value
  left-out f h =
      by_cases (ltb n (length vs)) (λ t. ap f (sym (take-append-drop n vs)) ∙ h (omega (arith, all (ltb-true _ _ t), value-length)))
      (λ t. ap f (sym (take_all n vs (ltb-false _ _ t))))

  lent-answer : counted at (program_answer rule part 0 value) ≡ program_answer rule c at vs
  lent-answer =
      sym (part-answer rule value c part at 0 (λ j l u. sym (get_or-take n (drop at c) j 0 (omega (arith, value-length)) ∙ get_or-drop at c j 0)))
      ∙ ap (λ (i : ℕ). program_answer rule c i value) (add-zero at)
      ∙ sym (left-out (program_answer rule c at) (front-answer rule value (drop n vs) c at))

  -- the array once the part is handed back
  abbrev back : List ℕ → List ℕ
  back x = take at c ++ (x ++ drop n (drop at c))

  done-cells : program_answer rule part 0 value ≡ Ok tt → back (program_cells rule part 0 value) ≡ program_cells rule c at vs
  done-cells e =
      ap back (stored-done rule part value 0 e ∙ sets-whole part value same-lengths)
      ∙ ap (λ (x : List ℕ). take at c ++ (value ++ x)) (drop-drop n at c ∙ ap (λ (k : ℕ). drop (at + k) c) (sym value-length))
      ∙ sym (append_assoc (take at c) value _)
      ∙ sym (sets-eq value c at (omega (arith, value-length)))
      ∙ sym (left-out (sets c at) (front-sets value (drop n vs) c at))
      ∙ sym (stored-done rule c vs at (sym lent-answer ∙ ap (counted at) e))

  refused-cells : (i : ℕ) → program_answer rule part 0 value ≡ Err i → back (program_cells rule part 0 value) ≡ program_cells rule c at vs
  refused-cells i e =
      ap back (stored_refused rule part value 0 i e)
      ∙ ap (λ (x : List ℕ). take at c ++ x) (take-append-drop n (drop at c))
      ∙ take-append-drop at c
      ∙ sym (stored_refused rule c vs at (at + i) (sym lent-answer ∙ ap (counted at) e))

  -- as code meets them: the part of k cells has been programmed and handed back
  pub handed-back : (k : ℕ) → k ≡ n → {r : Result ⊤ ℕ} {new : List ℕ}
      → r ≡ program_answer rule (take k (drop at c)) 0 value → new ≡ program_cells rule (take k (drop at c)) 0 value
      → (counted at r ≡ program_answer rule c at vs) × (take at c ++ (new ++ drop k (drop at c)) ≡ program_cells rule c at vs)
  handed-back k e a b = rw (a, b, e) (lent-answer, by_answer (program_answer rule part 0 value) done-cells refused-cells)

-- as `map_err` counts an answer over the array
pub counted-by : {Q : ℕ → ℕ → Type 0} (at : ℕ) (r s : Result ⊤ ℕ) → MatchResult r (λ x. s ≡ Ok x) (λ i. IsErrAnd s (Q i))
    → ((i k : ℕ) → Q i k → k ≡ at + i) → s ≡ counted at r
counted-by at (Ok x) s h k = h
counted-by at (Err i) s h k = let p = err_from_is_err_and s h in p.1 ∙ ap Err (k i _ p.2)
