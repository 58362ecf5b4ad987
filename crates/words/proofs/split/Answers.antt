-- Each call of the closure gives the word that stands there.
use mathlib.Core.Path.{◌≡◌, sym, ◌∙◌}
use Prim.Native.Nat.{ℕ, ◌*◌, ◌/◌, ◌^◌, ◌<◌}
use native.Mathlib.Omega.{arith}
use lib.Bits.{bit_and}
use lib.ListN.{get_or}
use lib.Seq.{ext_get_or}
use borrow.Author.Rules.{rules}
use Rattle.std.proofs.lemmas.Nat.{and_mask}
use Rattle.words.proofs.Words.{word-of, length-words}
use Rattle.words.proofs.split.Goals as goal

pub returns : goal.returns
returns c =
    let x = c.args.x in
    let each : (k : ℕ) → k < 4 → get_or c.from_fn.result k 0 ≡ bit_and (x / 2 ^ (16 * k)) 65535 = search rules in
    ext_get_or 0 _ _ (c.from_fn.ensures.items.long ∙ sym (length-words 4 x)) (λ k h.
    (let i : k < 4 = omega (arith, c.from_fn.ensures.items.long) in
    each k i ∙ and_mask (x / 2 ^ (16 * k)) 16 ∙ sym (word-of 4 x k i)))
