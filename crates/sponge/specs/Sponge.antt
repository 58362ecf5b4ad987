-- The sponge construction (FIPS 202, section 4) with Keccak-f[1600] and the padding pad10*1, over strings of bytes. A byte has its lowest bit first
-- (FIPS 202, B.1), so that a lane of the state has eight bytes, the lowest first. The rate is counted in bytes.
use Rattle.std.specs.Prelude.{ℕ, zero, suc, ◌+◌, ◌*◌, ◌-◌, ◌/◌, ◌%◌, List, ◌++◌, eqb, length, get_or, take, drop}
use Rattle.std.specs.Int.Bits.{bit_xor}
use Rattle.basics.specs.Choice.{when◌then◌else◌}
use Rattle.basics.specs.Range.{listed}
use Rattle.basics.specs.Digits.{digit, number}
use Rattle.keccak.specs.Permutation.{keccak_f}

-- "pad10*1": a bit 1, zeros, and a bit 1 that ends a block. What stands before the first bit 1 in its byte, with it, is the suffix (B.2), and the last
-- bit is the highest of the last byte. At least one byte is added to a message of n bytes.
unfoldable pub padding : ℕ → ℕ → ℕ → List ℕ
padding rate suffix n =
    let count = rate - n % rate in
    listed (λ i. bit_xor (when eqb i 0 then suffix else 0) (when eqb (i + 1) count then 0x80 else 0)) 0 count

-- "S = 0^b"
unfoldable pub zero_state : List ℕ
zero_state = listed (λ k. 0) 0 25

-- "S ⊕ (P_i || 0^c)"
unfoldable pub added : List ℕ → List ℕ → List ℕ
added state block = listed (λ k. bit_xor (get_or state k 0) (number 256 8 (λ j. get_or block (8 * k + j) 0))) 0 25

-- "For i from 0 to n - 1, let S = f(S ⊕ (P_i || 0^c))"
unfoldable pub absorbed : ℕ → List ℕ → ℕ → List ℕ
absorbed rate p zero = zero_state
absorbed rate p (suc i) = keccak_f (added (absorbed rate p i) (take rate (drop (rate * i) p)))

-- the state after n permutations more: "let S = f(S)"
unfoldable pub permuted_times : ℕ → List ℕ → List ℕ
permuted_times zero state = state
permuted_times (suc n) state = keccak_f (permuted_times n state)

-- byte i of the state
abbrev pub state_byte : List ℕ → ℕ → ℕ
state_byte state i = digit 256 (get_or state (i / 8) 0) (i % 8)

-- "Let Z = Z || Trunc_r(S)": each permutation gives as many bytes as the rate has, until there are d
unfoldable pub squeezed : ℕ → List ℕ → ℕ → List ℕ
squeezed rate state d = listed (λ i. state_byte (permuted_times (i / rate) state) (i % rate)) 0 d

-- "P = N || pad(r, len(N))", "n = len(P)/r"
unfoldable pub sponge : ℕ → ℕ → List ℕ → ℕ → List ℕ
sponge rate suffix message d =
    let p = message ++ padding rate suffix (length message) in
    squeezed rate (absorbed rate p (length p / rate)) d
