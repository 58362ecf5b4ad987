-- The block cipher PRESENT (ISO/IEC 29192-2) as document 01 condenses it: "PRESENT, 64-bit block, 128-bit key, 31 rounds and a last key
-- addition." A block is a number below 2 ^ 64 and a key one below 2 ^ 128; bit 0 is the lowest.
use Rattle.std.specs.Prelude.{ℕ, zero, suc, ◌+◌, ◌*◌, ◌/◌, ◌%◌, ◌^◌, List, [], ◌∷◌, eqb, get_or}
use Rattle.std.specs.Int.Bits.{bit_xor}
use Rattle.basics.specs.Choice.{when◌then◌else◌}
use Rattle.basics.specs.Range.{listed, sum}
use Rattle.basics.specs.Digits.{digit, number, bit}

-- "S-box: C 5 6 B 9 0 A D 3 E F 8 4 7 1 2."
unfoldable pub s_box_table : List ℕ
s_box_table = 0xC ∷ 0x5 ∷ 0x6 ∷ 0xB ∷ 0x9 ∷ 0x0 ∷ 0xA ∷ 0xD ∷ 0x3 ∷ 0xE ∷ 0xF ∷ 0x8 ∷ 0x4 ∷ 0x7 ∷ 0x1 ∷ 0x2 ∷ []

unfoldable pub s_box : ℕ → ℕ
unfolding s_box_table
s_box v = get_or s_box_table v 0

-- each of the 16 groups of four bits through a box
unfoldable pub substitute : (ℕ → ℕ) → ℕ → ℕ
substitute box x = number 16 16 (λ i. box (digit 16 x i))

-- "Bit i goes to 16i mod 63, bit 63 stays."
unfoldable pub place : ℕ → ℕ
place i = when eqb i 63 then 63 else 16 * i % 63

unfoldable pub permute : ℕ → ℕ
permute x = sum 64 (λ i. bit x i * 2 ^ place i)

-- "The round key is the key's top 64 bits."
unfoldable pub round_key : ℕ → ℕ
round_key key = key / 2 ^ 64

-- "Key step: rotate left by 61, S-box on bits 127..124 and 123..120, round number 1..31 XORed into bits 66..62."
unfoldable pub rotate_left61 : ℕ → ℕ
rotate_left61 key = key % 2 ^ 67 * 2 ^ 61 + key / 2 ^ 67

unfoldable pub substitute_top : ℕ → ℕ
substitute_top key = (s_box (digit 16 key 31) * 16 + s_box (digit 16 key 30)) * 2 ^ 120 + key % 2 ^ 120

unfoldable pub key_step : ℕ → ℕ → ℕ
key_step round key = bit_xor (substitute_top (rotate_left61 key)) (round * 2 ^ 62)

-- the key after i key steps
unfoldable pub key_after : ℕ → ℕ → ℕ
key_after key zero = key
key_after key (suc i) = key_step (suc i) (key_after key i)

-- the 32 round keys
unfoldable pub round_keys : ℕ → List ℕ
round_keys key = listed (λ i. round_key (key_after key i)) 0 32

-- the state after i rounds
unfoldable pub state_after : ℕ → ℕ → ℕ → ℕ
state_after key block zero = block
state_after key block (suc i) = permute (substitute s_box (bit_xor (state_after key block i) (round_key (key_after key i))))

unfoldable pub encrypt_block : ℕ → ℕ → ℕ
encrypt_block key block = bit_xor (state_after key block 31) (round_key (key_after key 31))

-- Decryption goes the same way back. The value that the S-box takes to v:
unfoldable pub s_box_inverse : ℕ → ℕ
s_box_inverse v = sum 16 (λ u. when eqb (s_box u) v then u else 0)

-- bit i comes back from its place
unfoldable pub permute_back : ℕ → ℕ
permute_back x = number 2 64 (λ i. bit x (place i))

-- the block from which i rounds led to the state
unfoldable pub block_before : ℕ → ℕ → ℕ → ℕ
block_before key state zero = state
block_before key state (suc i) = block_before key (bit_xor (substitute s_box_inverse (permute_back state)) (round_key (key_after key i))) i

unfoldable pub decrypt_block : ℕ → ℕ → ℕ
decrypt_block key block = block_before key (bit_xor block (round_key (key_after key 31))) 31
