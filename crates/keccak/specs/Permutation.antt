-- The permutation Keccak-f[1600] (FIPS 202, sections 3.3 and 3.4): Keccak-p[1600, 24].
use Rattle.std.specs.Prelude.{ℕ, zero, suc, List}
use Rattle.keccak.specs.StepMappings.{theta, rho, pi, chi, iota}

-- "Rnd(A, i_r) = ι(χ(π(ρ(θ(A)))), i_r)"
unfoldable pub round : ℕ → List ℕ → List ℕ
round i a = iota i (chi (pi (rho (theta a))))

-- the state after the rounds 0 to n - 1
unfoldable pub rounds : ℕ → List ℕ → List ℕ
rounds zero a = a
rounds (suc n) a = round n (rounds n a)

unfoldable pub keccak_f : List ℕ → List ℕ
keccak_f a = rounds 24 a
