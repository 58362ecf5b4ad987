-- What the fold has kept: all pairs passed so far are valid.
use mathlib.Core.Path.{◌≡◌, refl, sym, ap, ◌∙◌}
use mathlib.Core.Bool.{Bool, true, ◌&&◌}
use mathlib.Core.List.{List, [], ◌∷◌}
use Prim.Native.Nat.{ℕ, ◌+◌}
use lib.ListN.{get_or}
use native.Mathlib.Omega.{arith}
use borrow.Author.Rules.{rules}
use Rattle.std.specs.Prelude.{fold}
use Rattle.std.specs.List.{range_with_len}
use Rattle.std.proofs.iter.Yields.{nat_range_steps}
use Rattle.std.proofs.lemmas.Fn.{fold_over}
use Rattle.std.proofs.lemmas.Iterator.{YieldsList-from_range}
use Rattle.std.proofs.lemmas.List.Sums.{fold-append}
use Rattle.constants.specs.Constants.{pair_valid}
use Rattle.constants.proofs.Constants.{fold-below}
use Rattle.constants.proofs.pairs_valid.Goals as goal

pub returns : goal.returns
returns c =
    let ws = c.args.constants.now in
    let n = c.args.n in
    let test : ℕ → Bool = λ i. pair_valid (get_or ws (c.args.low + i) 0) (get_or ws (c.args.up + i) 0) in
    let both : Bool → ℕ → Bool = λ valid i. valid && test i in
    let all = YieldsList-from_range {s = record { start = 0; end = n }} 0 n n refl (omega arith) in
    let J : List ℕ → Bool → Type 0 = λ ys r. r ≡ fold both true ys in
    let folded : c.fold.result ≡ fold both true (range_with_len 0 n) =
    fold_over nat_range_steps (λ i. i) _ J _ (λ ys a x b f h k.
    (let e : b ≡ (a && test x) = search rules in e ∙ ap (λ v. both v x) h ∙ sym (fold-append both true ys (x ∷ [])), search rules))
    (record { start = 0; end = n }) (range_with_len 0 n) true c.fold.result all.runs refl c.fold.ensures.ran in
    folded ∙ fold-below n test
