-- After a full block is permuted the byte fits in the block.
use Rattle.std.proofs.Common.{ℕ, ◌+◌, ap, ◌∙◌, arith}
use Rattle.sponge.specs.declared.Sponge.{Sponge}
use Rattle.sponge.specs.Streaming.{sponge_of, with_byte, taken}
use Rattle.sponge.proofs.Permuting.{byte_fits, place}
use Rattle.sponge.proofs.Sponge.take.Goals as goal

pub add_byte-requires : goal.add_byte-requires
add_byte-requires c = omega (arith, place c.permute_if_full.ensures, byte_fits c.args.self.now)

pub overflow_add-self : goal.overflow_add-self
overflow_add-self c = omega (arith, place c.add_byte.ensures, place c.permute_if_full.ensures, byte_fits c.args.self.now)

pub returns : goal.returns
unfolding taken
returns c =
    let byte : ℕ = c.args.byte in
    ap (λ (s : Sponge). sponge_of s.lanes (s.at + 1)) c.add_byte.ensures
    ∙ ap (λ (s : Sponge). sponge_of (with_byte s.lanes s.at byte) (s.at + 1)) c.permute_if_full.ensures
