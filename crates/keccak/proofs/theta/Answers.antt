-- Lane by lane, what the closures compute has the bits of the definition.
use Rattle.std.proofs.Common.{rules}
use Rattle.keccak.specs.StepMappings.{theta, theta_bit}
use Rattle.keccak.proofs.Lanes.{Lanes, lanes_fit}
use Rattle.keccak.proofs.Steps.{is-state, column-bits, theta-lane}
use Rattle.keccak.proofs.theta.Goals as goal

pub returns : goal.returns
unfolding theta
returns c =
    let l : Lanes c.args.a = lanes_fit (λ k. search rules) in
    is-state (theta_bit c.args.a) (search rules)
    (λ x y h k. theta-lane l c.from_fn-parities.result
    (λ i m. column-bits l i (let e = c.from_fn-parities.ensures.items.at i 0 m in search rules)) x y
    (let e = c.state_of.ensures x y h k in search rules))
