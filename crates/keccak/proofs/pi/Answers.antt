-- Lane by lane, what the closure computes has the bits of the definition.
use Rattle.std.proofs.Common.{rules}
use Rattle.keccak.specs.StepMappings.{pi, pi_bit}
use Rattle.keccak.proofs.Lanes.{Lanes, lanes_fit}
use Rattle.keccak.proofs.Steps.{is-state, pi-lane}
use Rattle.keccak.proofs.pi.Goals as goal

pub returns : goal.returns
unfolding pi
returns c =
    let l : Lanes c.args.a = lanes_fit (λ k. search rules) in
    is-state (pi_bit c.args.a) (search rules) (λ x y h k. pi-lane l x y (let e = c.state_of.ensures x y h k in search rules))
