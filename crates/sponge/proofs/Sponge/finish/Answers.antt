-- The suffix is taken as a byte, after a full block is permuted, and the last bit is added to the end of its block.
use Rattle.std.proofs.Common.{ℕ, List, refl, ap, ◌∙◌}
use Rattle.sponge.specs.declared.Sponge.{Sponge}
use Rattle.sponge.specs.Streaming.{taken}
use Rattle.sponge.proofs.Permuting.{finished-steps}
use Rattle.sponge.proofs.Sponge.finish.Goals as goal

pub returns : goal.returns
unfolding taken
returns c =
    let lanes : Sponge → List ℕ = λ s. s.lanes in
    c.permuted.ensures ∙ finished-steps c.args.self c.args.suffix refl (ap lanes c.take.ensures) (ap lanes c.add_byte.ensures)
