-- The fold over the lowest four words, or over all of them where they are fewer.
use mathlib.Core.Path.{◌≡◌, ap, ◌∙◌}
use Rattle.std.specs.Prelude.{ℕ, ◌*◌, ◌^◌, ◌%◌, fold, reverse, length, min, take, bit_or}
use Rattle.std.proofs.lemmas.List.{take_min}
use borrow.Author.Rules.{rules}
use native.Mathlib.Omega.{arith}
use lib.ListN.{length-take}
use Rattle.words.specs.Words.{number_of}
use Rattle.words.proofs.Words.{Words, words-take, joined}
use Rattle.words.proofs.join.Goals as goal

pub returns : goal.returns
returns c =
    let ws = c.args.words.now in
    let n = c.min.result in
    let small : Words ws = record { small = λ i. (c.type_inv.words i).fits } in
    let folded : c.fold.result ≡ fold (λ (x w : ℕ). bit_or (x * 65536 % 2 ^ 64) w) 0 (reverse (take n ws)) = search rules in
    let e : n ≡ min 4 (length ws) = omega arith in
    let same : take n ws ≡ take 4 ws = ap (λ (k : ℕ). take k ws) e ∙ take_min 4 ws in
    folded ∙ joined (take n ws) (words-take n small) (simp length-take (omega arith)) ∙ ap number_of same
