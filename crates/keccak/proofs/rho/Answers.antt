-- Lane by lane, what the closure computes has the bits of the definition.
use Rattle.std.proofs.Common.{rules}
use Rattle.keccak.specs.StepMappings.{rho, rho_bit}
use Rattle.keccak.proofs.Lanes.{Lanes, lanes_fit}
use Rattle.keccak.proofs.Steps.{is-state, rho-lane}
use Rattle.keccak.proofs.rho.Goals as goal

pub returns : goal.returns
unfolding rho
returns c =
    let l : Lanes c.args.a = lanes_fit (λ k. search rules) in
    is-state (rho_bit c.args.a) (search rules) (λ x y h k. rho-lane l _ c.offsets-offsets.ensures x y h k (let e = c.state_of.ensures x y h k in search rules))
