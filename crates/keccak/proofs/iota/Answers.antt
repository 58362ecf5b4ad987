-- The constant is added to lane 0, and the other lanes stay.
use borrow.Author.Rules.{rules}
use Rattle.keccak.proofs.Lanes.{lanes_fit}
use Rattle.keccak.proofs.Steps.{constant-at, iota-state}
use Rattle.keccak.proofs.iota.Goals as goal

pub returns : goal.returns
returns c =
    iota-state (lanes_fit (λ k. search rules)) c.args.i _ (search rules)
    (constant-at c.round_constants.result.now c.round_constants.ensures c.args.i c.requires)
