-- The loop's invariant: the groups below i have gone through the box.
use Rattle.std.proofs.Common.{◌≡◌, ℕ, ◌*◌, ◌^◌}
use Rattle.basics.specs.Range.{sum}
use Rattle.basics.specs.Digits.{digit}
use Rattle.present.proofs.substituted.Given as goal

abbrev pub boxed : ℕ → ℕ → ℕ → ℕ
boxed word x i = digit 16 word (digit 16 x i) * 16 ^ i

abbrev pub invariant-loop-i : goal.invariant-loop-i
invariant-loop-i l = l.out ≡ sum l.i (boxed l.word l.x)
