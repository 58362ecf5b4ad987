-- The five step mappings, one after the other.
use mathlib.Core.Path.{ap, ◌∙◌}
use Rattle.keccak.specs.StepMappings.{rho, pi, chi, iota}
use Rattle.keccak.specs.Permutation.{round}
use Rattle.keccak.proofs.round.Goals as goal

pub returns : goal.returns
unfolding round
returns c =
    c.iota.ensures
    ∙ ap (iota c.args.i) (c.chi.ensures ∙ ap chi (c.pi.ensures ∙ ap pi (c.rho.ensures ∙ ap rho c.theta.ensures)))
