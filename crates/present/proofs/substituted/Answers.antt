-- Each iteration adds one term of a sum, and a part of the sum is at most the whole.
use Rattle.std.proofs.Common.{◌≡◌, ℕ, suc, ◌+◌, ◌*◌, ◌%◌, ◌^◌, ◌<◌, ap, ◌∙◌, add-one, arith, lit<}
use Rattle.basics.specs.Range.{sum}
use Rattle.basics.specs.Digits.{digit}
use Rattle.basics.proofs.Sum.{sum-upto}
use Rattle.basics.proofs.Digits.{digit_lt}
use Rattle.present.specs.Present.{substitute}
use Rattle.present.proofs.Groups.{group-shifted}
use Rattle.present.proofs.Boxes.{substitute-lt}
use Rattle.present.proofs.substituted.Invariants.{boxed}
use Rattle.present.proofs.substituted.Goals as goal

-- one more group, from what the two groups answer
one_more : (word x : ℕ) {out i g d : ℕ} → out ≡ sum i (boxed word x) → i < 16 → g ≡ digit 16 x i → d ≡ digit 16 word g
    → out + d * 2 ^ (4 * i) % 2 ^ 64 ≡ sum (suc i) (boxed word x)
unfolding sum
one_more word x {i = i} total h eg ed =
    let through = ed ∙ ap (digit 16 word) eg in
    let term = ap (λ (v : ℕ). v * 2 ^ (4 * i) % 2 ^ 64) through ∙ group-shifted _ i (digit_lt 16 (lit< tt) word (digit 16 x i)) h in
    omega (arith, total, term)

pub loop-i-preserved : goal.loop-i-preserved
loop-i-preserved c = one_more c.args.word c.args.x c.loop-i.invariant (omega arith) c.group.ensures c.group-in-loop-i.ensures ∙ rw add-one

pub overflow_add-out : goal.overflow_add-out
unfolding substitute
overflow_add-out c =
    let a = c.args in
    let i : ℕ = c.loop-i.i in
    let next = one_more a.word a.x c.loop-i.invariant (omega arith) c.group.ensures c.group-in-loop-i.ensures in
    let part = sum-upto 16 (suc i) (boxed a.word a.x) (omega arith) in
    let whole = substitute-lt (digit 16 a.word) (λ v h. digit_lt 16 (lit< tt) a.word v) a.x in
    record { fits = omega (arith, next, part, whole) }
