-- The invariant: the first i words are the file's, the others as they were.
use Prim.Native.Nat.{◌<◌, ◌%◌, ◌/◌}
use mathlib.Core.Path.{◌≡◌, refl, sym, ap, ◌∙◌}
use mathlib.Core.Bool.{true}
use mathlib.Core.List.{[], ◌++◌}
use native.Mathlib.Omega.{arith}
use lib.Dec.{eqb}
use lib.ListN.{length, get_or, drop}
use Rattle.std.specs.Int.{w16, from_le_bytes}
use Rattle.std.proofs.Common.{inl, inr}
use Rattle.basics.proofs.Filling.{filled_more, filled-whole}
use Rattle.transcript.specs.Files.{pairs, lent_words}
use Rattle.transcript.proofs.Files.{pairs-length, pair-chunk, lent-odd, lent-long, lent_fits, none_lent}
use Rattle.transcript.proofs.file_words.Goals as goal
use Rattle.transcript.proofs.file_words.Goals.{Joined-then-not-is_empty}

none : (c : Joined-then-not-is_empty) → lent_words (length c.args.words.now) c.args.bytes.now ≡ []
none c =
    let b = c.args.bytes.now in
    let w = c.args.words.now in
    let rest = ap (λ n. eqb n 0) (sym c.as_chunks.ensures.back_len) ∙ sym c.is_empty.ensures in
    elim c.then-not-is_empty.either [
      | inl e ↦ lent-odd (length w) b (rest ∙ e)
      | inr h ↦ lent-long (length w) b (rest ∙ h.0) (rw c.as_chunks.ensures.front_len at h.1)
    ]

pub returns-then-not-is_empty-clause-count : goal.returns-then-not-is_empty-clause-count
returns-then-not-is_empty-clause-count c = (none_lent _ _ c.args.words.now (none c)).0

pub returns-then-not-is_empty-clause-words : goal.returns-then-not-is_empty-clause-words
returns-then-not-is_empty-clause-words c = (none_lent _ _ c.args.words.now (none c)).1

pub loop-i-preserved : goal.loop-i-preserved
loop-i-preserved c =
    let b = c.args.bytes.now in
    let i = c.loop-i.i in
    let n = c.as_chunks.ensures.front_len in
    let l : i < length (pairs b) = omega (arith, pairs-length b) in
    let v = c.from_le_bytes.ensures
    ∙ ap (λ ps. from_le_bytes w16 (get_or ps i [])) c.as_chunks.ensures.front
    ∙ pair-chunk (length b / 2) b i [] refl (omega (arith, pairs-length b)) in
    (omega arith, rw (c.loop-i.invariant.1, v) (filled_more c.args.words.now (pairs b) i (omega (arith, pairs-length b)) l))

pub returns : goal.returns
returns c =
    let b = c.args.bytes.now in
    let w = c.args.words.now in
    let n = c.as_chunks.ensures.front_len in
    let even : eqb (length b % 2) 0 ≡ true = ap (λ n. eqb n 0) (sym c.as_chunks.ensures.back_len) ∙ sym c.is_empty.ensures ∙ c.if-not-is_empty.false in
    let e = lent_fits (length w) b even (omega arith) in
    let q : c.loop-i.i ≡ length b / 2 = omega arith in
    let whole = filled-whole w (pairs b) c.loop-i.i (omega (arith, pairs-length b)) in
    record {
      count = rw e (n ∙ sym (pairs-length b));
      words = rw (e, n) (c.loop-i.invariant.1 ∙ whole ∙ ap (λ k. pairs b ++ drop k w) q);
    }
