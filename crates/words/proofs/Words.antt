-- Laws of words and numbers, over the number of words. The idea: one word is one digit to the base 65536, so each law is an induction on the words.
use mathlib.Core.Path.{◌≡◌, refl, sym, ap, ◌∙◌}
use mathlib.Core.List.{List, [], ◌∷◌, reverse, reverse-cons}
use Prim.Native.Nat.{ℕ, zero, suc, ◌+◌, ◌*◌, ◌/◌, ◌%◌, ◌^◌, ◌≤◌, ◌<◌}
use native.Mathlib.Nat.{pow-suc, pow-le-pow_right, lt_of_lt_of_le, mod-eq_of_lt}
use native.Mathlib.Omega.{arith}
use lib.Bits.{bit_or}
use lib.Pow.{mod-pow-add, shr-shr}
use lib.Dec.{ltb}
use lib.ListN.{length, get_or, take, length-take, get_or-eq_default}
use lib.Seq.{get_or-take}
use borrow.Author.Tests.{ltb-true, ltb-false}
use Rattle.std.specs.Prelude.{fold}
use Rattle.std.proofs.lemmas.List.Sums.{fold-append}
use Rattle.std.proofs.lemmas.Nat.{or_shifted}
use Rattle.basics.proofs.Choice.{by_cases}
use Rattle.words.specs.Words.{number_of, words_of}

-- a word of a number by its place
pub word-of : (n x i : ℕ) → i < n → get_or (words_of n x) i 0 ≡ x / 2 ^ (16 * i) % 65536
unfolding words_of
word-of zero x i h = absurd (omega arith)
word-of (suc n) x zero h = omega arith
word-of (suc n) x (suc i) h =
    let e : 16 * suc i ≡ 16 + 16 * i = omega arith in
    word-of n (x / 65536) i (omega arith) ∙ ap (λ (y : ℕ). y % 65536) (shr-shr x 16 (16 * i)) ∙ ap (λ (k : ℕ). x / 2 ^ k % 65536) (sym e)

-- a list of words of 16 bits
pub record Words (ws : List ℕ) : Type 0 where
  pub small : (i : ℕ) → get_or ws i 0 < 65536

pub words_tail : {w : ℕ} {ws : List ℕ} → Words (w ∷ ws) → Words ws
words_tail h = record { small = λ i. h.small (suc i) }

pub words-take : (n : ℕ) {ws : List ℕ} → Words ws → Words (take n ws)
words-take n {ws} h =
    record {
      small = λ i. by_cases (ltb i n) (λ t. rw (get_or-take n ws i 0 (ltb-true _ _ t)) (h.small i))
          (λ t. rw (past i (ltb-false _ _ t)) (omega arith));
    }
  where
    past : (i : ℕ) → n ≤ i → get_or (take n ws) i 0 ≡ 0
    past i l = get_or-eq_default (take n ws) 0 {n = i} (simp length-take (omega arith))

pub length-words : (n x : ℕ) → length (words_of n x) ≡ n
unfolding words_of
length-words zero x = refl
length-words (suc n) x = ap suc (length-words n (x / 65536))

pub number_lt : (ws : List ℕ) → Words ws → number_of ws < 65536 ^ length ws
unfolding number_of
number_lt [] h = omega arith
number_lt (w ∷ ws) h = rw pow-suc (omega (arith, number_lt ws (words_tail h), h.small 0))

-- the words of a number stand for its lowest 16 n bits
pub number-words : (n x : ℕ) → number_of (words_of n x) ≡ x % 2 ^ (16 * n)
unfolding words_of number_of
number-words zero x = omega arith
number-words (suc n) x =
    let ih : number_of (words_of n (x / 65536)) ≡ x / 65536 % 2 ^ (16 * n) = number-words n (x / 65536) in
    let e : 16 * suc n ≡ 16 * n + 16 = omega arith in
    rw e (omega (arith, mod-pow-add x (16 * n) 16))

pub number-block : (x : ℕ) → x < 2 ^ 64 → number_of (words_of 4 x) ≡ x
number-block x h = number-words 4 x ∙ mod-eq_of_lt h

-- as many words as there are give the words back
pub words-number : (ws : List ℕ) → Words ws → words_of (length ws) (number_of ws) ≡ ws
unfolding words_of number_of
words-number [] h = refl
words-number (w ∷ ws) h =
    let l : w < 65536 = h.small 0 in
    let e₀ : (w + 65536 * number_of ws) % 65536 ≡ w = omega arith in
    let e₁ : (w + 65536 * number_of ws) / 65536 ≡ number_of ws = omega arith in
    rw (e₀, e₁, words-number ws (words_tail h))

-- the lowest words of a number are the first of more of them
pub words_take : (n k x : ℕ) → n ≤ k → take n (words_of k x) ≡ words_of n x
unfolding words_of
words_take zero k x h = refl
words_take (suc n) zero x h = absurd (omega arith)
words_take (suc n) (suc k) x h = ap (λ (l : List ℕ). x % 65536 ∷ l) (words_take n k (x / 65536) (omega arith))

-- as code joins at most four words, from the highest down: each is shifted in below those above it
pub joined : (ws : List ℕ) → Words ws → length ws ≤ 4 → fold (λ (x w : ℕ). bit_or (x * 65536 % 2 ^ 64) w) 0 (reverse ws) ≡ number_of ws
unfolding number_of
joined [] h l = refl
joined (w ∷ ws) h l =
    let ih = joined ws (words_tail h) (omega arith) in
    let small : number_of ws < 65536 ^ 3 =
    let n : length ws ≤ 3 = omega arith in lt_of_lt_of_le (number_lt ws (words_tail h)) (pow-le-pow_right {n = 65536} (omega arith) n) in
    let fits : number_of ws * 65536 % 2 ^ 64 ≡ number_of ws * 65536 = mod-eq_of_lt (omega arith) in
    rw (reverse-cons w ws, fold-append, ih, fits) (or_shifted (number_of ws) 16 w (h.small 0) ∙ omega arith)
