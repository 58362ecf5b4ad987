-- The part lent ends within the cells and is as long as the words lent with it; the laws of `Lent` carry its answer and its words to the whole array.
use mathlib.Core.Path.{◌≡◌, ◌∙◌}
use Prim.Native.Nat.{◌+◌, ◌-◌}
use native.Mathlib.Omega.{arith}
use borrow.Author.Rules.{rules}
use Rattle.words.proofs.Lent.{past-cells, handed-back, counted-by}
use Rattle.words.proofs.program.Goals as goal

pub returns-then-cells-at : goal.returns-then-cells-at
returns-then-cells-at c =
    let both = past-cells c.args.rule c.args.cells.now c.args.value.now c.args.at c.if-cells-at.true in
    record { answer = both.0; words = both.1 }

pub returns : goal.returns
returns c =
    let at = c.args.at in
    let n = c.min-n.result in
    let size : at + n - at ≡ n = omega arith in
    let both = handed-back c.args.rule c.args.cells.now c.args.value.now at n (omega arith) (omega arith) (λ l. omega arith) _ size
    c.program_part.ensures.answer c.program_part.ensures.words in
    record { answer = counted-by at _ _ c.map_err.ensures.cases (λ i k q. search rules) ∙ both.0; words = both.1 }
