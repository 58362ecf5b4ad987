-- The step mappings (FIPS 202, section 3.2), each by its bits. Where the standard subtracts before it reduces, 5 or 64 is added first.
use Rattle.std.specs.Prelude.{ℕ, zero, suc, ◌+◌, ◌*◌, ◌-◌, ◌/◌, ◌%◌, ◌^◌, ◌&&◌, ◌||◌, List, eqb}
use Rattle.std.specs.Int.Bits.{bit_xor}
use Rattle.basics.specs.Choice.{when◌then◌else◌}
use Rattle.basics.specs.Range.{sum}
use Rattle.basics.specs.Digits.{bit, number}
use Rattle.keccak.specs.State.{bit_at, state_of}

-- ---- theta, algorithm 1

-- "C[x, z] = A[x, 0, z] ⊕ A[x, 1, z] ⊕ A[x, 2, z] ⊕ A[x, 3, z] ⊕ A[x, 4, z]"
abbrev pub column_parity : List ℕ → ℕ → ℕ → ℕ
column_parity a x z = bit_xor (bit_xor (bit_xor (bit_xor (bit_at a x 0 z) (bit_at a x 1 z)) (bit_at a x 2 z)) (bit_at a x 3 z)) (bit_at a x 4 z)

-- "D[x, z] = C[(x - 1) mod 5, z] ⊕ C[(x + 1) mod 5, (z - 1) mod w]"
abbrev pub column_effect : List ℕ → ℕ → ℕ → ℕ
column_effect a x z = bit_xor (column_parity a ((x + 4) % 5) z) (column_parity a ((x + 1) % 5) ((z + 63) % 64))

-- "A'[x, y, z] = A[x, y, z] ⊕ D[x, z]"
abbrev pub theta_bit : List ℕ → ℕ → ℕ → ℕ → ℕ
theta_bit a x y z = bit_xor (bit_at a x y z) (column_effect a x z)

unfoldable pub theta : List ℕ → List ℕ
theta a = state_of (theta_bit a)

-- ---- rho, algorithm 2

-- the lane of step t: "Let (x, y) = (1, 0)", and after each step "let (x, y) = (y, (2x + 3y) mod 5)"
unfoldable pub rho_position : ℕ → ℕ × ℕ
rho_position zero = (1, 0)
rho_position (suc t) = ((rho_position t).1, (2 * (rho_position t).0 + 3 * (rho_position t).1) % 5)

-- "For t from 0 to 23: .. (t + 1)(t + 2)/2": the offset of the one step at the lane; lane (0, 0), where no step is, stays
unfoldable pub offset : ℕ → ℕ → ℕ
offset x y = sum 24 (λ t. when eqb (rho_position t).0 x && eqb (rho_position t).1 y then (t + 1) * (t + 2) / 2 else 0)

-- "A'[x, y, z] = A[x, y, (z - (t + 1)(t + 2)/2) mod w]"
abbrev pub rho_bit : List ℕ → ℕ → ℕ → ℕ → ℕ
rho_bit a x y z = bit_at a x y ((z + (64 - offset x y % 64)) % 64)

unfoldable pub rho : List ℕ → List ℕ
rho a = state_of (rho_bit a)

-- ---- pi, algorithm 3: "A'[x, y, z] = A[(x + 3y) mod 5, x, z]"

abbrev pub pi_bit : List ℕ → ℕ → ℕ → ℕ → ℕ
pi_bit a x y z = bit_at a ((x + 3 * y) % 5) x z

unfoldable pub pi : List ℕ → List ℕ
pi a = state_of (pi_bit a)

-- ---- chi, algorithm 4: "A'[x, y, z] = A[x, y, z] ⊕ ((A[(x + 1) mod 5, y, z] ⊕ 1) · A[(x + 2) mod 5, y, z])"

abbrev pub chi_bit : List ℕ → ℕ → ℕ → ℕ → ℕ
chi_bit a x y z = bit_xor (bit_at a x y z) (bit_xor (bit_at a ((x + 1) % 5) y z) 1 * bit_at a ((x + 2) % 5) y z)

unfoldable pub chi : List ℕ → List ℕ
chi a = state_of (chi_bit a)

-- ---- iota, algorithms 5 and 6

-- one step of the register R of eight bits, held as a number with R[0] lowest: "R = 0 || R", R[8] is added to R[0], R[4], R[5] and R[6], and "R = Trunc8[R]"
unfoldable pub register_step : ℕ → ℕ
register_step r = number 2 8 (λ i. when eqb i 0 || eqb i 4 || eqb i 5 || eqb i 6 then bit_xor (bit (2 * r) i) (bit (2 * r) 8) else bit (2 * r) i)

-- the register after t steps: "R = 10000000" at first
unfoldable pub register : ℕ → ℕ
register zero = 1
register (suc t) = register_step (register t)

-- "If t mod 255 = 0, return 1"; else t mod 255 steps, and "Return R[0]"
unfoldable pub rc : ℕ → ℕ
rc t = bit (register (t % 255)) 0

-- "For j from 0 to l, let RC[2 ^ j - 1] = rc(j + 7 i_r)", with l = 6
unfoldable pub round_constant : ℕ → ℕ
round_constant i = sum 7 (λ j. rc (j + 7 * i) * 2 ^ (2 ^ j - 1))

-- "For all z such that 0 ≤ z < w, let A'[0, 0, z] = A'[0, 0, z] ⊕ RC[z]"
abbrev pub iota_bit : ℕ → List ℕ → ℕ → ℕ → ℕ → ℕ
iota_bit i a x y z = when eqb x 0 && eqb y 0 then bit_xor (bit_at a x y z) (bit (round_constant i) z) else bit_at a x y z

unfoldable pub iota : ℕ → List ℕ → List ℕ
iota i a = state_of (iota_bit i a)
