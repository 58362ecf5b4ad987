-- The top groups of the register are those of its high half.
use Rattle.std.proofs.Common.{◌≡◌, ℕ, ◌+◌, ◌*◌, ◌%◌, ◌^◌, ap, ap₂, ◌∙◌, arith, lit≤}
use Rattle.std.proofs.Math.Pow.{shl_exact}
use Rattle.std.proofs.lemmas.Nat.{shr-shr, and_mask}
use Rattle.basics.specs.Digits.{digit}
use Rattle.present.specs.Present.{s_box, round_key, substitute_top}
use Rattle.present.proofs.KeyRegister.{top_lt}
use Rattle.present.proofs.top_substituted.Goals as goal

pub returns : goal.returns
unfolding substitute_top round_key
returns c =
    let key : ℕ = c.args.key in
    let high = c.round_key-high.ensures in
    let group15 = c.group.ensures ∙ ap (λ (x : ℕ). digit 16 x 15) high ∙ ap (λ (x : ℕ). x % 16) (shr-shr key 64 60) in
    let group14 = c.group-2.ensures ∙ ap (λ (x : ℕ). digit 16 x 14) high ∙ ap (λ (x : ℕ). x % 16) (shr-shr key 64 56) in
    let first : c.s_box.result ≡ s_box (digit 16 key 31) = c.s_box.ensures.0 ∙ ap s_box group15 in
    let second : c.s_box-2.result ≡ s_box (digit 16 key 30) = c.s_box-2.ensures.0 ∙ ap s_box group14 in
    let top : c.from.result ≡ s_box (digit 16 key 31) * 16 + s_box (digit 16 key 30) = omega arith in
    ap₂ (λ (x y : ℕ). x + y)
    (ap (λ (x : ℕ). x * 2 ^ 120 % 2 ^ 128) top ∙ shl_exact 8 120 128 (top_lt 30 key) (lit≤ tt))
    (and_mask key 120)
