-- In a round back each group first goes through the inverse S-box, and that undoes the S-box.
use Rattle.std.proofs.Common.{ℕ, ap, ◌∙◌}
use Rattle.basics.specs.Range.{all_below}
use Rattle.present.specs.Present.{s_box, s_box_inverse, substitute, permute_back}
use Rattle.present.proofs.Boxes.{s_box-lt, s_box-back, substitute-held, substitute-back}
use Rattle.present.proofs.permuted_back.Goals as goal

pub returns : goal.returns
unfolding all_below s_box
returns c =
    let x : ℕ = c.args.x in
    let boxed = c.substituted.ensures ∙ substitute-held _ s_box tt x in
    c.inverse_round.ensures
    ∙ ap (λ (z : ℕ). permute_back (substitute s_box_inverse z)) boxed
    ∙ ap permute_back (substitute-back s_box s_box-lt x s_box_inverse s_box-back c.ranges.x.fits)
