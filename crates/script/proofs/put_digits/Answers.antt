-- The invariant: from i on stand the lowest digits of x, and the rest is what is left of x above them.
use mathlib.Core.Path.{◌∙◌}
use Prim.Native.Nat.{◌-◌}
use native.Mathlib.Omega.{arith}
use lib.ListN.{length-set}
use Rattle.script.proofs.Digits.{digits-none, digits_more, rest_more}
use Rattle.script.proofs.put_digits.Goals as goal

pub loop-i-init : goal.loop-i-init
loop-i-init c =
    let n = digits-none c.args.base c.args.x c.args.part.now in
    (omega arith, omega arith, n.0, n.1)

pub loop-i-preserved : goal.loop-i-preserved
loop-i-preserved c =
    let a = c.args in
    let l = c.loop-i in
    let s = length-set l.part (l.i - 1) c.digit_byte.result in
    let t = c.loop-i-test.true in (
      omega (arith, s),
      s ∙ l.invariant.1,
      digits_more a.base a.x l.i _ l.part l.rest _ t l.invariant.0 l.invariant.1 l.invariant.3 l.invariant.2 c.digit_byte.ensures,
      rest_more a.base a.x l.i _ l.part l.rest c.digit_byte.result t l.invariant.0 l.invariant.1 l.invariant.3,
    )
