-- What is lent holds the words of the frame.
use Rattle.frames.proofs.Lent.{step-read}
use Rattle.frames.proofs.step.Goals as goal

pub returns : goal.returns
returns c =
    step-read
    c.args.frame.now
    c.words_at-cells.result
    c.words_at-copy.result
    c.words_at-constants.result
    _
    _
    _
    _
    c.words_at-cells.ensures
    c.words_at-copy.ensures
    c.words_at-constants.ensures
    c.lent_in-cell_count.ensures
    c.lent_in-copy_count.ensures
    c.lent_in-constant_count.ensures
    c.step_on.ensures
