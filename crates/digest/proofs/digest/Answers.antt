-- The invariant: the chunks so far are absorbed, so what is left to absorb from the state are the words that are left.
use Rattle.std.proofs.Common.{ℕ, sym, ap, ◌∙◌}
use Rattle.digest.specs.Digest.{absorb, absorb_all, blocks_of, digest_blocks, digest_words}
use Rattle.digest.proofs.Chunks.{absorb-next, absorb-none}
use Rattle.digest.proofs.digest.Goals as goal

pub loop-chunk-init : goal.loop-chunk-init
loop-chunk-init c =
    let made = c.into_iter-chunk-iterator.ensures.into_iter_gives in
    (rw made c.chunks-chunk-items.ensures.size, rw (made, c.chunks-chunk-items.ensures.rest))

pub loop-chunk-preserved : goal.loop-chunk-preserved
loop-chunk-preserved c =
    let size = c.loop-chunk.invariant.0 in
    let step = c.in-Some.ensures.steps in
    let left = c.next.new.self.rest.now in
    let state = c.absorbed-state.ensures ∙ ap (λ (k : ℕ). absorb k c.loop-chunk.state) c.eight_words.ensures in (
      step.0 ∙ size,
      c.loop-chunk.invariant.1
          ∙ absorb-next c.loop-chunk.state _ _ _ step.1.0 (rw size at step.1.1) step.1.2
          ∙ ap (λ (s : ℕ). absorb_all s (blocks_of left)) (sym state),
    )

pub returns : goal.returns
unfolding digest_words digest_blocks
returns c =
    let left = c.in-None.ensures.steps.1.0 in
    c.absorbed.ensures ∙ ap (absorb c.args.final_key) (sym (c.loop-chunk.invariant.1 ∙ absorb-none _ _ left))
