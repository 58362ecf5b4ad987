-- The tables of a round, which document 02 asks for in request One: "one table of 256 numbers of 64 bits, one for each nibble place and nibble
-- value", in place of the S-box and the bit move.
use Rattle.std.specs.Prelude.{ℕ, zero, suc, ◌+◌, ◌*◌, ◌/◌, ◌%◌, ◌^◌, List, get_or}
use Rattle.std.specs.Int.Bits.{bit_xor}
use Rattle.basics.specs.Range.{listed}
use Rattle.basics.specs.Digits.{digit}

-- entry 16 * i + v is for group i of four bits with the value v: what a box gives for v, alone in a block at group i, with its bits moved
unfoldable pub table_of : (ℕ → ℕ) → (ℕ → ℕ) → List ℕ
table_of box move = listed (λ k. move (box (k % 16) * 16 ^ (k / 16))) 0 256

-- the exclusive or of the entries for the lowest n groups of x
unfoldable pub lookups : List ℕ → ℕ → ℕ → ℕ
lookups table zero x = 0
lookups table (suc n) x = bit_xor (lookups table n x) (get_or table (16 * n + digit 16 x n) 0)
