-- The tables that the code uses, by the rules of FIPS 202.
use Rattle.std.specs.Prelude.{ℕ, ◌/◌, ◌%◌, List}
use Rattle.basics.specs.Range.{listed}
use Rattle.keccak.specs.StepMappings.{offset, round_constant}

-- how far rho rotates each lane, modulo the lane's 64 bits
unfoldable pub offsets : List ℕ
offsets = listed (λ k. offset (k % 5) (k / 5) % 64) 0 25

unfoldable pub round_constants : List ℕ
round_constants = listed round_constant 0 24
