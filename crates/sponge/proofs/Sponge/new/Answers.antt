-- The lanes of the definition are computed.
use mathlib.Core.Path.{refl}
use Rattle.basics.specs.Range.{listed}
use Rattle.sponge.specs.Sponge.{zero_state}
use Rattle.sponge.proofs.Sponge.new.Goals as goal

pub returns : goal.returns
unfolding zero_state listed
returns c = refl
