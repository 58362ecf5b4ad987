-- Lists of bytes. The idea: past its end a list has zeros, which are bytes too, so that a part of a list needs no bound.
use mathlib.Core.List.{List, [], ◌∷◌, ◌++◌}
use Prim.Native.Nat.{ℕ, zero, suc, ◌+◌, ◌<◌}
use native.Mathlib.Omega.{arith}
use lib.Dec.{ltb, lit<}
use lib.ListN.{get_or, drop, get_or-eq_default}
use lib.Seq.{get_or-drop}
use borrow.Author.Tests.{ltb-true, ltb-false}
use Rattle.basics.specs.Range.{listed}
use Rattle.basics.proofs.Choice.{by_cases}
use Rattle.basics.proofs.Range.{length-listed, listed_at}

abbrev pub Bytes : List ℕ → Type 0
Bytes m = (i : ℕ) → get_or m i 0 < 256

pub bytes-none : Bytes []
bytes-none i = lit< tt

pub bytes_drop : (n : ℕ) (m : List ℕ) → Bytes m → Bytes (drop n m)
bytes_drop n m b i = rw (get_or-drop n m i 0) (b (n + i))

-- ---- entries below any bound

pub below_one : {x b : ℕ} → x < b → (i : ℕ) → get_or (x ∷ []) i 0 < b
below_one h zero = h
below_one h (suc i) = omega arith

pub below-append : (b : ℕ) (xs ys : List ℕ) → ((i : ℕ) → get_or xs i 0 < b) → ((i : ℕ) → get_or ys i 0 < b) → (i : ℕ) → get_or (xs ++ ys) i 0 < b
below-append b [] ys h k i = k i
below-append b (x ∷ xs) ys h k zero = h 0
below-append b (x ∷ xs) ys h k (suc i) = below-append b xs ys (λ j. h (suc j)) k i

-- ---- a list by a rule

pub bytes-listed : (f : ℕ → ℕ) (n : ℕ) → ((k : ℕ) → f k < 256) → Bytes (listed f 0 n)
bytes-listed f n h i =
    by_cases (ltb i n) (λ t. rw (listed_at f 0 n i (ltb-true _ _ t)) (h i))
    (λ t. rw (get_or-eq_default (listed f 0 n) 0 {n = i} (rw length-listed (ltb-false _ _ t))) (lit< tt))
