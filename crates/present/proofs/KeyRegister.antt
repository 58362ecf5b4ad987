-- The key register. The idea: its parts are numbers below a power of two, whose bits do not meet when they are put together.
use mathlib.Core.Path.{◌≡◌, ap, ◌∙◌}
use mathlib.Core.List.{List}
use Prim.Native.Nat.{ℕ, zero, suc, ◌+◌, ◌*◌, ◌/◌, ◌%◌, ◌^◌, ◌<◌}
use native.Mathlib.Nat.{mod-lt}
use native.Mathlib.Omega.{arith}
use lib.Arith.{digits_lt}
use lib.Bits.{bit_or, xor_lt, or_shifted}
use lib.Dec.{lit<}
use lib.ListN.{length, get_or}
use lib.Pow.{pow_pos, shl_lt, shr_lt}
use Rattle.basics.specs.Digits.{digit}
use Rattle.basics.proofs.Range.{length-listed, listed_at}
use Rattle.basics.proofs.Digits.{digit_lt}
use Rattle.present.specs.Present.{s_box, round_key, rotate_left61, substitute_top, key_step, key_after, round_keys}
use Rattle.present.proofs.Boxes.{s_box-lt}

-- the top two groups of a number of n + 2 groups through the S-box
abbrev pub top : ℕ → ℕ → ℕ
top n x = s_box (digit 16 x (n + 1)) * 16 + s_box (digit 16 x n)

pub top_lt : (n x : ℕ) → top n x < 256
top_lt n x = digits_lt {m = 16} (s_box-lt _ (digit_lt 16 (lit< tt) x (n + 1))) (s_box-lt _ (digit_lt 16 (lit< tt) x n))

-- ---- the register stays one of 128 bits

key_step-lt : (round key : ℕ) → round < 2 ^ 66 → key_step round key < 2 ^ 128
unfolding key_step substitute_top
key_step-lt round key h =
    let x : ℕ = rotate_left61 key in
    xor_lt 128 (substitute_top x) (round * 2 ^ 62) (digits_lt {m = 256} (top_lt 30 x) (mod-lt x (pow_pos 120))) (shl_lt 66 62 h)

key_after-lt : (key i : ℕ) → key < 2 ^ 128 → i < 32 → key_after key i < 2 ^ 128
unfolding key_after
key_after-lt key zero l h = l
key_after-lt key (suc i) l h = key_step-lt (suc i) (key_after key i) (omega arith)

pub round_key-lt : (key i : ℕ) → key < 2 ^ 128 → i < 32 → round_key (key_after key i) < 2 ^ 64
unfolding round_key
round_key-lt key i l h = shr_lt 64 64 (key_after-lt key i l h)

-- an entry of the list of round keys
pub key-at : (keys : List ℕ) (key i : ℕ) → keys ≡ round_keys key → i < 32 → get_or keys i 0 ≡ round_key (key_after key i)
unfolding round_keys
key-at keys key i e h = ap (λ (ks : List ℕ). get_or ks i 0) e ∙ listed_at (λ j. round_key (key_after key j)) 0 32 i h

pub keys-length : (keys : List ℕ) (key : ℕ) → keys ≡ round_keys key → length keys ≡ 32
unfolding round_keys
keys-length keys key e = ap length e ∙ length-listed (λ j. round_key (key_after key j)) 0 32

-- `rotate_left(61)`
pub rotated : (key : ℕ) → key < 2 ^ 128 → bit_or (key * 2 ^ 61 % 2 ^ 128) (key / 2 ^ 67) ≡ rotate_left61 key
unfolding rotate_left61
rotated key h =
    let kept : key * 2 ^ 61 % 2 ^ 128 ≡ key % 2 ^ 67 * 2 ^ 61 = omega arith in
    ap (λ (x : ℕ). bit_or x (key / 2 ^ 67)) kept ∙ or_shifted (key % 2 ^ 67) 61 (key / 2 ^ 67) (shr_lt 61 67 h)
