-- Two arrays that are equal where P holds stay so. The idea: the same word is stored at the same place of both, or none is.
use mathlib.Core.Path.{◌≡◌, sym, ◌∙◌}
use mathlib.Core.Bool.{true, false}
use mathlib.Core.List.{List, [], ◌∷◌}
use Prim.Native.Nat.{ℕ, suc}
use native.Mathlib.Omega.{arith}
use lib.Dec.{eqb, ltb}
use lib.ListN.{length, get_or, set, length-set}
use lib.Seq.{sets, get_or-set_same, get_or-set_other, set_out}
use borrow.Author.Tests.{eqb-true, eqb-false, ltb-true, ltb-false}
use Rattle.basics.proofs.Choice.{by_cases}
use Rattle.words.specs.declared.Rule.{Rule}
use Rattle.words.specs.Programming.{program_answer, program_cells}
use Rattle.words.proofs.Programming.{by_answer, stored-done, stored_refused}

pub record Same (P : ℕ → Type 0) (c d : List ℕ) : Type 0 where
  pub at : (j : ℕ) → P j → get_or c j 0 ≡ get_or d j 0

-- past the end of both nothing is stored
set_here : (c d : List ℕ) (i v : ℕ) → length c ≡ length d → get_or c i 0 ≡ get_or d i 0 → get_or (set c i v) i 0 ≡ get_or (set d i v) i 0
set_here c d i v e h =
    by_cases (ltb i (length c)) (λ t. get_or-set_same c i v 0 (ltb-true _ _ t) ∙ sym (get_or-set_same d i v 0 (omega (arith, ltb-true))))
    (λ t. rw (set_out c i v (ltb-false _ _ t), set_out d i v (omega (arith, ltb-false))) h)

set-alike : {P : ℕ → Type 0} (c d : List ℕ) (i v : ℕ) → length c ≡ length d → Same P c d → Same P (set c i v) (set d i v)
set-alike {P} c d i v e h = record { at = λ j p. by_cases (eqb j i) (here j p) (there j p) }
  where
    here : (j : ℕ) → P j → eqb j i ≡ true → get_or (set c i v) j 0 ≡ get_or (set d i v) j 0
    here j p t = rw (← eqb-true j i t) (set_here c d j v e (h.at j p))

    there : (j : ℕ) → P j → eqb j i ≡ false → get_or (set c i v) j 0 ≡ get_or (set d i v) j 0
    there j p t = rw (get_or-set_other c i j v 0 (eqb-false j i t), get_or-set_other d i j v 0 (eqb-false j i t)) (h.at j p)

sets-alike : {P : ℕ → Type 0} (vs c d : List ℕ) (i : ℕ) → length c ≡ length d → Same P c d → Same P (sets c i vs) (sets d i vs)
sets-alike [] c d i e h = h
sets-alike (v ∷ vs) c d i e h = sets-alike vs (set c i v) (set d i v) (suc i) (rw (length-set c i v, length-set d i v) e) (set-alike c d i v e h)

pub program-alike : {P : ℕ → Type 0} (rule : Rule) (vs c d : List ℕ) (i : ℕ) → length c ≡ length d → Same P c d
    → program_answer rule c i vs ≡ program_answer rule d i vs → Same P (program_cells rule c i vs) (program_cells rule d i vs)
program-alike rule vs c d i e h q =
    by_answer (program_answer rule c i vs) (λ t. rw (stored-done rule c vs i t, stored-done rule d vs i (sym q ∙ t)) (sets-alike vs c d i e h))
    (λ n t. rw (stored_refused rule c vs i n t, stored_refused rule d vs i n (sym q ∙ t)) h)
