-- Two numbers of four words, the high one shifted above the low one.
use mathlib.Core.Path.{◌≡◌, ap₂, ◌∙◌}
use Prim.Native.Nat.{ℕ, ◌+◌, ◌*◌, ◌^◌, ◌%◌}
use native.Mathlib.Omega.{arith}
use Rattle.std.proofs.lemmas.Nat.{or_shifted}
use Rattle.words.proofs.Parts.{number-halves}
use Rattle.words.proofs.eight_words.Goals as goal

pub returns : goal.returns
returns c =
    let high = c.from-high.result in
    let fits : high * 2 ^ 64 % 2 ^ 128 ≡ high * 2 ^ 64 = omega arith in
    rw fits
    (or_shifted high 64 c.from-low.result (omega arith)
    ∙ ap₂ (λ (x y : ℕ). x * 2 ^ 64 + y) (c.from-high.ensures ∙ c.block_at-2.ensures) (c.from-low.ensures ∙ c.block_at.ensures)
    ∙ number-halves c.args.words.now c.args.at)
