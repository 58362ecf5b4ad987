-- The invariant: the bytes before the loop's are those of the definition, and with a full block permuted the lanes are those that give the next one.
use Rattle.std.proofs.Common.{◌≡◌, ◌+◌, refl, ap, ◌∙◌, arith}
use Rattle.basics.proofs.Range.{follows-none, follows-more, follows-all}
use Rattle.sponge.specs.declared.Sponge.{Sponge}
use Rattle.sponge.specs.Sponge.{state_byte, permuted_times, squeezed}
use Rattle.sponge.specs.Streaming.{sponge_of, permuted_if_full}
use Rattle.sponge.proofs.Permuting.{not_full, place, next-given}
use Rattle.sponge.proofs.squeeze.Goals as goal

pub loop-byte-init : goal.loop-byte-init
unfolding permuted_times
loop-byte-init c =
    let start : c.new.result.at ≡ 0 = place c.new.ensures in
    (follows-none refl, not_full _ (omega arith) ∙ ap (sponge_of c.args.state) start)

pub loop-byte-preserved : goal.loop-byte-preserved
loop-byte-preserved c =
    let v = c.loop-byte in
    let byte = ap (λ (s : Sponge). state_byte s.lanes s.at) v.invariant.1 in
    let after = ap (λ (s : Sponge). permuted_if_full (sponge_of s.lanes (s.at + 1))) v.invariant.1 in (
      follows-more v.invariant.0 (omega arith) (c.give.ensures.byte ∙ byte),
      ap permuted_if_full c.give.ensures.state ∙ after ∙ next-given c.args.state v.byte-index,
    )

pub returns : goal.returns
unfolding squeezed
returns c = follows-all c.loop-byte.invariant.0 (omega arith)
