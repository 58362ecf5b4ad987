-- A refusing cell is one of the cells, so that one more than its index fits.
use Rattle.std.proofs.Common.{arith, sym}
use Rattle.words.proofs.Programming.{refused-inside}
use Rattle.function_cases.proofs.foundations.program.Goals as goal

pub overflow_add-result : goal.overflow_add-result
overflow_add-result c =
    let cells = c.args.cells.now in
    let inside = refused-inside c.args.rule cells c.args.value.now c.args.at c.in-Err.cell (sym c.in-Err.ensures.answer) in
    omega (arith, inside)
