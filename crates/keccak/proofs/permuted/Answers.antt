-- The loop's invariant: the state has gone through the rounds before i.
use mathlib.Core.Path.{◌≡◌, refl, sym, ap, ◌∙◌}
use mathlib.Core.List.{List}
use Prim.Native.Nat.{ℕ}
use native.Mathlib.Numerals.{add-one}
use native.Mathlib.Omega.{arith}
use lib.Dec.{lit≤}
use Rattle.keccak.specs.Permutation.{round, rounds, keccak_f}
use Rattle.keccak.proofs.permuted.Goals as goal

pub loop-i-init : goal.loop-i-init
unfolding rounds
loop-i-init c = (lit≤ tt, refl)

pub loop-i-preserved : goal.loop-i-preserved
unfolding rounds
loop-i-preserved c =
    let a : List ℕ = c.args.a in
    (omega arith, c.round-next.ensures ∙ ap (round c.loop-i.i) c.loop-i.invariant.1 ∙ ap (λ (n : ℕ). rounds n a) (sym (add-one c.loop-i.i)))

pub returns : goal.returns
unfolding keccak_f
returns c =
    let last : c.loop-i.i ≡ 24 = omega arith in
    c.loop-i.invariant.1 ∙ ap (λ (n : ℕ). rounds n c.args.a) last
