-- A byte added to a state with a block added is a byte added to the block. The idea: bytes of a lane don't meet, so that the exclusive or goes byte by byte.
use mathlib.Core.Path.{◌≡◌, refl, sym, ap, ap₂, subst, ◌∙◌}
use mathlib.Core.Bool.{true, false}
use mathlib.Core.List.{List, [], ◌∷◌, ◌++◌}
use Prim.Native.Nat.{ℕ, zero, suc, ◌+◌, ◌*◌, ◌/◌, ◌%◌, ◌^◌, ◌<◌}
use native.Mathlib.Nat.{le_refl, add-zero, zero-add, zero-mul, lt_of_lt_of_le, pow-succ', pow-le-pow_right}
use native.Mathlib.Omega.{arith}
use lib.Arith.{digits_lt}
use lib.Bits.{bit_xor, xor_zero_r, xor_block}
use lib.Dec.{eqb, lit<}
use lib.ListN.{length, get_or, set, length-set, get_or-eq_default}
use lib.Seq.{get_or-set_same, get_or-set_other, get_or-append_seam}
use borrow.Author.Tests.{eqb-true, eqb-false}
use Rattle.basics.specs.Range.{sum, listed}
use Rattle.basics.specs.Digits.{number}
use Rattle.basics.proofs.Choice.{by_cases}
use Rattle.basics.proofs.Range.{length-listed, listed_at, is-listed}
use Rattle.basics.proofs.Digits.{number_lt, number_same, power_pos}
use Rattle.sponge.specs.Sponge.{added}
use Rattle.sponge.specs.Streaming.{with_byte}
use Rattle.sponge.proofs.Bytes.{Bytes}
use Rattle.sponge.proofs.Shifting.{power_256}
use Rattle.sponge.proofs.Xor.{xor_assoc}

xor-digits : (n a b r s : ℕ) → r < 256 ^ n → s < 256 ^ n → bit_xor (a * 256 ^ n + r) (b * 256 ^ n + s) ≡ bit_xor a b * 256 ^ n + bit_xor r s
xor-digits n a b r s =
    subst (λ (p : ℕ). r < p → s < p → bit_xor (a * p + r) (b * p + s) ≡ bit_xor a b * p + bit_xor r s) (power_256 n) (xor_block (8 * n) a b r s)

byte-lt : (n j x : ℕ) → x < 256 → j < n → x * 256 ^ j < 256 ^ n
byte-lt n j x l h =
    let e : x * 256 ^ j + 0 < 256 * 256 ^ j = digits_lt l (power_pos 256 (lit< tt) j) in
    lt_of_lt_of_le (rw (pow-succ' 256 j) (rw add-zero at e)) (pow-le-pow_right {n = 256} (lit< tt) {i = suc j} {j = n} h)

-- a number with a byte added to its byte j
number-with : (n : ℕ) (d e : ℕ → ℕ) (j x : ℕ) → ((i : ℕ) → d i < 256) → x < 256 → j < n
    → e j ≡ bit_xor (d j) x → ((i : ℕ) → (i ≡ j → ⊥) → e i ≡ d i)
    → number 256 n e ≡ bit_xor (number 256 n d) (x * 256 ^ j)
unfolding sum
number-with zero d e j x small l h here others = absurd (omega arith)
number-with (suc n) d e j x small l h here others = by_cases (eqb j n) top (below (number-with n d e j x small l))
  where
    rest : ℕ
    rest = number 256 n d

    rest_lt : rest < 256 ^ n
    rest_lt = number_lt 256 (lit< tt) n d small

    top : eqb j n ≡ true → e n * 256 ^ n + number 256 n e ≡ bit_xor (d n * 256 ^ n + rest) (x * 256 ^ j)
    top q =
        let j-is : j ≡ n = eqb-true j n q in
        let same : number 256 n e ≡ rest = number_same 256 (lit< tt) n e d (λ i k. others i (λ p. omega arith)) in
        let first : e n ≡ bit_xor (d n) x = subst (λ (m : ℕ). e m ≡ bit_xor (d m) x) j-is here in
        ap₂ (λ (a b : ℕ). a * 256 ^ n + b) first (same ∙ sym (xor_zero_r rest))
        ∙ sym (xor-digits n (d n) x rest 0 rest_lt (power_pos 256 (lit< tt) n))
        ∙ ap (bit_xor (d n * 256 ^ n + rest)) (add-zero (x * 256 ^ n) ∙ ap (λ (m : ℕ). x * 256 ^ m) (sym j-is))

    below : (j < n → e j ≡ bit_xor (d j) x → ((i : ℕ) → (i ≡ j → ⊥) → e i ≡ d i) → number 256 n e ≡ bit_xor rest (x * 256 ^ j))
        → eqb j n ≡ false → e n * 256 ^ n + number 256 n e ≡ bit_xor (d n * 256 ^ n + rest) (x * 256 ^ j)
    below ih q =
        let k : j < n = omega (arith, eqb-false) in
        let first : e n ≡ bit_xor (d n) 0 = others n (λ p. omega arith) ∙ sym (xor_zero_r (d n)) in
        ap₂ (λ (a b : ℕ). a * 256 ^ n + b) first (ih k here others)
        ∙ sym (xor-digits n (d n) 0 rest (x * 256 ^ j) rest_lt (byte-lt n j x l k))
        ∙ ap (bit_xor (d n * 256 ^ n + rest)) (ap (λ (y : ℕ). y + x * 256 ^ j) (zero-mul (256 ^ n)) ∙ zero-add (x * 256 ^ j))

-- a block with a byte added to its byte i
pub added-with : (state block block' : List ℕ) (i x : ℕ) → Bytes block → x < 256 → i < 200
    → get_or block' i 0 ≡ bit_xor (get_or block i 0) x → ((j : ℕ) → (j ≡ i → ⊥) → get_or block' j 0 ≡ get_or block j 0)
    → with_byte (added state block) i x ≡ added state block'
unfolding with_byte added
added-with state block block' i x bytes small inside here others =
    is-listed (entry block') 25 _ (length-set (listed (entry block) 0 25) (i / 8) _ ∙ length-listed (entry block) 0 25)
    (λ k h. by_cases (eqb k (i / 8)) (λ q. at-lane k h (eqb-true k (i / 8) q)) (λ q. elsewhere k h (eqb-false k (i / 8) q)))
  where
    lane : List ℕ → ℕ → ℕ
    lane b k = number 256 8 (λ j. get_or b (8 * k + j) 0)

    entry : List ℕ → ℕ → ℕ
    entry b k = bit_xor (get_or state k 0) (lane b k)

    new : ℕ
    new = bit_xor (get_or (listed (entry block) 0 25) (i / 8) 0) (x * 256 ^ (i % 8))

    lane-with : (k : ℕ) → k ≡ i / 8 → lane block' k ≡ bit_xor (lane block k) (x * 256 ^ (i % 8))
    lane-with k e =
        let place : i ≡ 8 * k + i % 8 = omega arith in
        number-with 8 (λ j. get_or block (8 * k + j) 0) (λ j. get_or block' (8 * k + j) 0) (i % 8) x (λ j. bytes (8 * k + j)) small (omega arith)
        (subst (λ (p : ℕ). get_or block' p 0 ≡ bit_xor (get_or block p 0) x) place here)
        (λ j q. others (8 * k + j) (λ p. q (omega arith)))

    at-lane : (k : ℕ) → k < 25 → k ≡ i / 8 → get_or (set (listed (entry block) 0 25) (i / 8) new) k 0 ≡ entry block' k
    at-lane k h e =
        ap (λ (n : ℕ). get_or (set (listed (entry block) 0 25) (i / 8) new) n 0) e
        ∙ get_or-set_same (listed (entry block) 0 25) (i / 8) new 0 (rw length-listed (omega arith))
        ∙ ap (λ (n : ℕ). bit_xor (get_or (listed (entry block) 0 25) n 0) (x * 256 ^ (i % 8))) (sym e)
        ∙ ap (λ (y : ℕ). bit_xor y (x * 256 ^ (i % 8))) (listed_at (entry block) 0 25 k h)
        ∙ xor_assoc (get_or state k 0) (lane block k) (x * 256 ^ (i % 8))
        ∙ ap (bit_xor (get_or state k 0)) (sym (lane-with k e))

    elsewhere : (k : ℕ) → k < 25 → (k ≡ i / 8 → ⊥) → get_or (set (listed (entry block) 0 25) (i / 8) new) k 0 ≡ entry block' k
    elsewhere k h ne =
        get_or-set_other (listed (entry block) 0 25) (i / 8) k new 0 ne
        ∙ listed_at (entry block) 0 25 k h
        ∙ ap (bit_xor (get_or state k 0)) (number_same 256 (lit< tt) 8 _ _ (λ j l. sym (others (8 * k + j) (λ p. ne (omega arith)))))

-- a byte behind a list is its only new entry
other-entry : (block : List ℕ) (x j : ℕ) → (j ≡ length block → ⊥) → get_or (block ++ x ∷ []) j 0 ≡ get_or block j 0
other-entry [] x zero ne = absurd (ne refl)
other-entry [] x (suc j) ne = refl
other-entry (b ∷ block) x zero ne = refl
other-entry (b ∷ block) x (suc j) ne = other-entry block x j (λ e. ne (ap suc e))

-- a byte more
pub added_more : (state block : List ℕ) (x : ℕ) → Bytes block → x < 256 → length block < 200
    → with_byte (added state block) (length block) x ≡ added state (block ++ x ∷ [])
added_more state block x bytes small l =
    added-with state block (block ++ x ∷ []) (length block) x bytes small l
    (get_or-append_seam block x [] 0 ∙ ap (λ (y : ℕ). bit_xor y x) (sym (get_or-eq_default block 0 {n = length block} (le_refl (length block)))))
    (other-entry block x)
