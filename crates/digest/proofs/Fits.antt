-- A digest is a number of 64 bits. The idea: each step is an exclusive or of two such numbers.
use mathlib.Core.List.{List, [], ◌∷◌}
use Prim.Native.Nat.{ℕ, suc, ◌+◌, ◌*◌, ◌/◌, ◌^◌, ◌<◌}
use native.Mathlib.Nat.{lt_of_lt_of_le, pow-le-pow_right}
use native.Mathlib.Omega.{arith}
use lib.Arith.{digits_lt}
use lib.Bits.{xor_lt}
use lib.Dec.{ltb, lit<}
use lib.ListN.{length, get_or, get_or-eq_default}
use borrow.Author.Tests.{ltb-true, ltb-false}
use Rattle.basics.specs.Range.{listed}
use Rattle.basics.proofs.Choice.{by_cases}
use Rattle.basics.proofs.Range.{length-listed, listed_at}
use Rattle.words.specs.Words.{number_of, part_at}
use Rattle.words.proofs.Words.{Words}
use Rattle.words.proofs.Parts.{part-number-lt}
use Rattle.present.specs.Present.{encrypt_block}
use Rattle.present.proofs.Inverse.{encrypt-lt}
use Rattle.digest.specs.Digest.{absorb, absorb_all, digest_blocks, blocks_of, digest_words}

absorb-lt : (k s : ℕ) → k < 2 ^ 128 → s < 2 ^ 64 → absorb k s < 2 ^ 64
unfolding absorb
absorb-lt k s h l = xor_lt 64 (encrypt_block k s) s (encrypt-lt k s h l) l

absorb-all-lt : (s : ℕ) → s < 2 ^ 64 → (blocks : List ℕ) → ((i : ℕ) → get_or blocks i 0 < 2 ^ 64) → absorb_all s blocks < 2 ^ 64
unfolding absorb_all
absorb-all-lt s l [] h = l
absorb-all-lt s l (low ∷ []) h = absorb-lt low s (lt_of_lt_of_le (h 0) (pow-le-pow_right {n = 2} (omega arith) {i = 64} {j = 128} (omega arith))) l
absorb-all-lt s l (low ∷ high ∷ blocks) h =
    absorb-all-lt (absorb (high * 2 ^ 64 + low) s) (absorb-lt _ s (digits_lt {m = 2 ^ 64} (h 1) (h 0)) l) blocks (λ i. h (suc (suc i)))

blocks-lt : {ws : List ℕ} → Words ws → (i : ℕ) → get_or (blocks_of ws) i 0 < 2 ^ 64
unfolding blocks_of
blocks-lt {ws} w i =
    by_cases (ltb i n) (λ t. rw (listed_at block 0 n i (ltb-true _ _ t)) (part-number-lt w (4 * i) 4))
    (λ t. rw (get_or-eq_default (listed block 0 n) 0 {n = i} (rw length-listed (ltb-false _ _ t))) (lit< tt))
  where
    block : ℕ → ℕ
    block j = number_of (part_at ws (4 * j) 4)

    n : ℕ
    n = (length ws + 3) / 4

pub digest-lt : (start final : ℕ) (ws : List ℕ) → start < 2 ^ 64 → final < 2 ^ 128 → Words ws → digest_words start final ws < 2 ^ 64
unfolding digest_words digest_blocks
digest-lt start final ws l h w = absorb-lt final _ h (absorb-all-lt start l (blocks_of ws) (blocks-lt w))
