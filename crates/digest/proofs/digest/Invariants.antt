-- The invariant: the chunks so far are absorbed, so what is left to absorb from the state are the words that are left.
use Rattle.std.proofs.Common.{◌≡◌}
use Rattle.digest.specs.Digest.{absorb_all, blocks_of}
use Rattle.digest.proofs.digest.Given as goal

abbrev pub invariant-loop-chunk : goal.invariant-loop-chunk
invariant-loop-chunk l =
    (l.chunk-iterator.size ≡ 8) × (absorb_all l.start (blocks_of l.words) ≡ absorb_all l.state (blocks_of l.chunk-iterator.rest.now))
