-- Arrays that a closure makes, entry by entry. The idea: a closure that keeps what it captures answers each index alike.
use Prim.Native.Nat.{ℕ, zero, suc, ◌+◌, ◌≤◌, ◌<◌}
use mathlib.Core.Path.{◌≡◌, sym, subst, ◌∙◌}
use mathlib.Core.List.{List}
use native.Mathlib.Omega.{arith}
use denote.Param.Members.{Mut, Called}
use lib.Dec.{eqb}
use lib.ListN.{get_or}
use lib.Seq.{ext_get_or}
use borrow.Author.Tests.{eqb-true, eqb-false}
use Rattle.std.specs.Array.{IsFromFnResult, IsFromFnResultFrom, IsMapOf}
use Rattle.basics.specs.Range.{listed}
use Rattle.basics.proofs.Choice.{by_cases}
use Rattle.basics.proofs.Range.{length-listed, listed_at}

module _ {F A : Type 0} (g : Mut F (ℕ × Unit {0}) A) (f : F) (ys : List A) (rule : ℕ → A) where
  abbrev Answers : Type 0
  Answers = (i : ℕ) (y : A) (q : F) → Called g f (i, tt) y q → (y ≡ rule i) × (q ≡ f)

  made-from : Answers → (i n : ℕ) → IsFromFnResultFrom g f ys i n → (k : ℕ) → i ≤ k → k < i + n → (d : A) → get_or ys k d ≡ rule k
  made-from h i zero made k low high d = absurd (omega arith)
  made-from h i (suc n) (q, y, element, call, rest) k low high d =
      let told = h i y q call in
      let others = subst (λ (p : F). IsFromFnResultFrom g p ys (i + 1) n) told.1 rest in
      by_cases (eqb k i) (λ e. rw (eqb-true k i e) (element.1 d ∙ told.0))
      (λ e. made-from h (i + 1) n others k (omega (arith, eqb-false)) (omega (arith, eqb-false)) d)

  pub made : (n : ℕ) → IsFromFnResult g f ys n → Answers → ys ≡ listed rule 0 n
  made n m h =
      let d = rule 0 in
      ext_get_or d ys (listed rule 0 n) (m.long ∙ sym (length-listed rule 0 n))
      (λ k l. (let low : k < n = omega (arith, m.long) in made-from h 0 n m.each k (omega arith) (omega arith) d ∙ sym (listed_at rule d n k low)))

-- the entries of an array that a function without captures makes of another's
pub mapped : {F A B : Type 0} (g : Mut F (A × Unit {0}) B) (f : F) (xs : List A) (ys : List B) (n : ℕ) (rule : A → B)
    → IsMapOf g f xs ys n → ((p : F) (x : A) (y : B) (q : F) → Called g p (x, tt) y q → y ≡ rule x)
    → (i : ℕ) (d : A) (e : B) → i < n → get_or ys i e ≡ rule (get_or xs i d)
mapped g f xs ys n rule m h i d e l = let k = m.at i d e l in h k.0 _ _ k.1 k.2
