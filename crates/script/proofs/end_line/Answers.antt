-- The bytes that are stored are the end line and zeros.
use native.Mathlib.Omega.{arith}
use Rattle.script.proofs.Lines.{end-length, end-written, end-front, end-whole}
use Rattle.script.proofs.end_line.Goals as goal

pub invariant_of-result : goal.invariant_of-result
invariant_of-result c =
    let e = c.decimal_length-end.ensures.length in
    end-whole _ c.args.count _ (omega (arith, end-length c.args.count, e))
    (end-written _ _ _ _ (omega arith) e c.copy_from_slice.ensures.after c.put_digits.ensures)

pub returns : goal.returns
returns c =
    let e = c.decimal_length-end.ensures.length in
    end-front _ c.args.count _ (omega (arith, end-length c.args.count, e))
    (end-written _ _ _ _ (omega arith) e c.copy_from_slice.ensures.after c.put_digits.ensures)
