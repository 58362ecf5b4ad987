-- Laws of parts of an array, and of what storing a value there leaves. The idea: a part and `sets` go word by word, so each law is an induction on the words.
use mathlib.Core.Path.{◌≡◌, refl, sym, ◌∙◌, ap₂}
use mathlib.Core.List.{List, [], ◌∷◌}
use Prim.Native.Nat.{ℕ, zero, suc, ◌+◌, ◌*◌, ◌-◌, ◌^◌, ◌≤◌, ◌<◌}
use native.Mathlib.Omega.{arith}
use lib.ListN.{length, get_or, set, take, drop, length-set, length-drop, drop_of_length-le, get_or-eq_default}
use lib.Seq.{sets, get_or-drop, get_or-set_same, get_or-set_other, set_out, drop-cons, take-nil, take_all}
use lib.Dec.{ltb}
use borrow.Author.Tests.{ltb-true, ltb-false}
use Rattle.basics.specs.Range.{listed}
use Rattle.basics.proofs.Choice.{by_cases}
use Rattle.basics.proofs.Range.{length-listed, listed-shift}
use Rattle.words.specs.Words.{number_of, part_at}
use Rattle.words.proofs.Words.{Words, number_lt}

pub length_part : (c : List ℕ) (at n : ℕ) → length (part_at c at n) ≡ n
unfolding part_at
length_part c at n = length-listed _ at n

pub listed-words : {f : ℕ → ℕ} → ((i : ℕ) → f i < 65536) → (at n : ℕ) → Words (listed f at n)
unfolding listed
listed-words h at n = record { small = small h at n }
  where
    small : {f : ℕ → ℕ} → ((i : ℕ) → f i < 65536) → (at n i : ℕ) → get_or (listed f at n) i 0 < 65536
    small h at zero i = omega arith
    small h at (suc n) zero = h at
    small h at (suc n) (suc i) = small h (suc at) n i

pub part-words : {c : List ℕ} → Words c → (at n : ℕ) → Words (part_at c at n)
unfolding part_at
part-words w at n = listed-words w.small at n

pub part-number-lt : {c : List ℕ} → Words c → (at n : ℕ) → number_of (part_at c at n) < 65536 ^ n
part-number-lt {c} w at n = rw length_part at (number_lt (part_at c at n) (part-words w at n))

-- a part depends on its words alone
pub part_same : (c d : List ℕ) (at n : ℕ) → ((j : ℕ) → at ≤ j → j < at + n → get_or c j 0 ≡ get_or d j 0) → part_at c at n ≡ part_at d at n
unfolding part_at listed
part_same c d at zero h = refl
part_same c d at (suc n) h = rw (h at (omega arith) (omega arith), part_same c d (suc at) n (λ j l u. h j (omega arith) (omega arith)))

-- a part is the words that stand there
pub part-at : (c ws : List ℕ) (at n : ℕ) → length ws ≡ n → ((i : ℕ) → i < n → get_or c (at + i) 0 ≡ get_or ws i 0) → part_at c at n ≡ ws
unfolding part_at listed
part-at c [] at zero e h = refl
part-at c [] at (suc n) e h = absurd (omega arith)
part-at c (w ∷ ws) at zero e h = absurd (omega arith)
part-at c (w ∷ ws) at (suc n) e h =
    let here : at + 0 ≡ at = omega arith in
    ap₂ ◌∷◌ (rw here at (h 0 (omega arith)))
    (part-at c ws (suc at) n (omega arith) (λ i l. (let there : suc at + i ≡ at + suc i = omega arith in rw there (h (suc i) (omega arith)))))

-- a part inside the array is the slice that code takes
pub part_slice : (c : List ℕ) (at n : ℕ) → at + n ≤ length c → part_at c at n ≡ take n (drop at c)
unfolding part_at listed
part_slice c at zero h = refl
part_slice c at (suc n) h = rw (drop-cons c at 0 (omega arith), part_slice c (suc at) n (omega arith))

-- the slice `&cells[at..]` that code takes
pub rest-slice : (c : List ℕ) (at : ℕ) → take (length c - at) (drop at c) ≡ drop at c
rest-slice c at = take_all (length c - at) (drop at c) (simp length-drop (omega arith))

-- a part counted from a later word
pub part-drop : (c : List ℕ) (from at n : ℕ) → part_at (drop from c) at n ≡ part_at c (from + at) n
unfolding part_at
part-drop c from at n = sym (listed-shift (λ j. get_or c j 0) (λ j. get_or (drop from c) j 0) at from n (λ j. sym (get_or-drop from c j 0)))

pub blank_part : (c : List ℕ) (at n : ℕ) → ((j : ℕ) → at ≤ j → j < at + n → get_or c j 0 ≡ 0) → number_of (part_at c at n) ≡ 0
unfolding part_at listed number_of
blank_part c at zero h = refl
blank_part c at (suc n) h = rw (h at (omega arith) (omega arith), blank_part c (suc at) n (λ j l u. h j (omega arith) (omega arith)))

pub zeros-past : (c : List ℕ) (at n : ℕ) → length c ≤ at → number_of (part_at c at n) ≡ 0
zeros-past c at n h = blank_part c at n (λ j l u. get_or-eq_default c 0 {n = j} (omega arith))

number_past : (c : List ℕ) (at n : ℕ) → length c ≤ at → number_of (take n (drop at c)) ≡ 0
unfolding number_of
number_past c at n h = rw (drop_of_length-le c {i = at} h, take-nil)

-- the zeros past the end add nothing to the number
pub number-part : (c : List ℕ) (at n : ℕ) → number_of (part_at c at n) ≡ number_of (take n (drop at c))
unfolding part_at listed number_of
number-part c at zero = refl
number-part c at (suc n) =
    let rest = number-part c (suc at) n in
    by_cases (ltb at (length c)) (λ t. rw (drop-cons c at 0 (ltb-true _ _ t), rest))
    (λ t. zeros-past c at (suc n) (ltb-false _ _ t) ∙ sym (number_past c at (suc n) (ltb-false _ _ t)))

-- the number of eight words, by its high and its low half
pub number-halves : (c : List ℕ) (at : ℕ) → number_of (part_at c (at + 4) 4) * 2 ^ 64 + number_of (part_at c at 4) ≡ number_of (part_at c at 8)
unfolding part_at listed number_of
number-halves c at =
    let e : at + 4 ≡ suc (suc (suc (suc at))) = omega arith in
    rw e (omega arith)

-- the laws of parts as code takes them
pub ruleset parts = (rest-slice, number-part, zeros-past)

-- ---- storing a value

pub sets-elsewhere : (vs c : List ℕ) (at j : ℕ) → (at ≤ j → j < at + length vs → ⊥) → get_or (sets c at vs) j 0 ≡ get_or c j 0
sets-elsewhere [] c at j h = refl
sets-elsewhere (v ∷ vs) c at j h =
    sets-elsewhere vs (set c at v) (suc at) j (λ l u. h (omega arith) (omega arith)) ∙ get_or-set_other c at j v 0 (λ e. h (omega arith) (omega arith))

pub part-sets : (vs c : List ℕ) (at : ℕ) → at + length vs ≤ length c → part_at (sets c at vs) at (length vs) ≡ vs
unfolding part_at listed
part-sets [] c at h = refl
part-sets (v ∷ vs) c at h =
    rw (
      sets-elsewhere vs (set c at v) (suc at) at (λ l u. omega arith),
      get_or-set_same c at v 0 (omega arith),
      part-sets vs (set c at v) (suc at) (rw length-set (omega arith)),
    )

pub sets-past : (vs c : List ℕ) (at : ℕ) → length c ≤ at → sets c at vs ≡ c
sets-past [] c at h = refl
sets-past (v ∷ vs) c at h = rw (set_out c at v h) (sets-past vs c (suc at) (omega arith))
