-- The state of Keccak-f[1600] (FIPS 202, section 3.1): bits A[x, y, z] with x and y below 5 and z below w = 64. The 64 bits at x and y are a lane. A
-- state is the list of its 25 lanes: "A[x, y, z] = S[w(5y + x) + z]", so that lane 5y + x has the bits A[x, y, 0], A[x, y, 1], .., the lowest first.
use Rattle.std.specs.Prelude.{ℕ, ◌+◌, ◌*◌, ◌/◌, ◌%◌, List, get_or}
use Rattle.basics.specs.Range.{listed}
use Rattle.basics.specs.Digits.{bit, number}

-- the bit A[x, y, z]
abbrev pub bit_at : List ℕ → ℕ → ℕ → ℕ → ℕ
bit_at state x y z = bit (get_or state (5 * y + x) 0) z

-- the lane with the bits f 0, f 1, ..
abbrev pub lane_of : (ℕ → ℕ) → ℕ
lane_of f = number 2 64 f

-- the state with the bit f x y z at x, y and z
unfoldable pub state_of : (ℕ → ℕ → ℕ → ℕ) → List ℕ
state_of f = listed (λ k. lane_of (f (k % 5) (k / 5))) 0 25
