-- Examples that pin the definitions: the checker computes each.
use mathlib.Core.Path.{◌≡◌, refl}
use mathlib.Core.List.{List}
use Prim.Native.Nat.{ℕ}
use lib.Dec.{eqb}
use lib.ListN.{get_or}
use Rattle.basics.specs.Choice.{when◌then◌else◌}
use Rattle.basics.specs.Range.{listed, sum}
use Rattle.keccak.specs.State.{state_of}
use Rattle.keccak.specs.StepMappings.{theta, rho_position, offset, rho, pi, chi, register_step, register, rc, round_constant, iota}

-- "Table 2: Offsets of ρ", before they are reduced modulo the lane's bits
pub table-two : (offset 0 0 ≡ 0) × (offset 1 0 ≡ 1) × (offset 2 0 ≡ 190) × (offset 0 1 ≡ 36) × (offset 3 2 ≡ 153) × (offset 4 4 ≡ 78)
unfolding when◌then◌else◌ sum rho_position offset
table-two = (refl, refl, refl, refl, refl, refl)

pub constants : (round_constant 0 ≡ 1) × (round_constant 1 ≡ 0x8082) × (round_constant 2 ≡ 0x8000_0000_0000_808a)
unfolding when◌then◌else◌ sum register_step register rc round_constant
constants = (refl, refl, refl)

-- lane k of a step mapping on the state with the lanes f 0, f 1, ..
abbrev lane_after : (List ℕ → List ℕ) → (ℕ → ℕ) → ℕ → ℕ
lane_after step f k = get_or (step (listed f 0 25)) k 0

-- the one bit at the origin flips the column after it, and the column before it one place higher
pub theta-steps : (lane_after theta (λ k. when eqb k 0 then 1 else 0) 21 ≡ 1) × (lane_after theta (λ k. when eqb k 0 then 1 else 0) 24 ≡ 2)
unfolding when◌then◌else◌ listed sum state_of theta
theta-steps = (refl, refl)

-- rho moves bit 0 of the lane at x = 2 and y = 0 to bit 190 - 128; pi brings the lane at 1 and 1 to 1 and 0; chi on the lanes 2, 3 and 4 of a row;
-- iota adds the constant to the first lane alone
pub steps : (lane_after rho (λ k. 1) 2 ≡ 0x4000_0000_0000_0000)
    × (lane_after pi (λ k. k) 1 ≡ 6)
    × (lane_after chi (λ k. k) 2 ≡ 6)
    × (lane_after (iota 1) (λ k. 0) 0 ≡ 0x8082)
    × (lane_after (iota 1) (λ k. 0) 1 ≡ 0)
unfolding when◌then◌else◌ listed sum state_of rho_position offset rho pi chi register_step register rc round_constant iota
steps = (refl, refl, refl, refl, refl)
