-- Eight words are one chunk of two blocks. The idea: the blocks of the words from the ninth on are the blocks from the third on.
use Rattle.std.proofs.Common.{◌≡◌, sym, ap, ap₂, ◌∙◌, ℕ, suc, ◌+◌, ◌*◌, ◌-◌, ◌/◌, ◌^◌, ◌≤◌, ◌<◌, arith}
use Rattle.std.proofs.Common.{min, List, ◌++◌, length, get_or, drop, ltb-true, ltb-false}
use Rattle.std.proofs.Math.Nat.{zero-add}
use Rattle.std.proofs.Math.Dec.{ltb}
use Rattle.std.proofs.Math.Seq.{drop-append_seam}
use Rattle.std.proofs.lemmas.List.{length-drop, length-append, append-nil, get_or_append_left, nil_from_length}
use Rattle.basics.specs.Range.{listed}
use Rattle.basics.proofs.Choice.{by_cases}
use Rattle.basics.proofs.Range.{listed-shift}
use Rattle.words.specs.Words.{number_of, part_at}
use Rattle.words.proofs.Parts.{part_same, part-drop, zeros-past, number-halves}
use Rattle.digest.specs.Digest.{absorb, absorb_all, blocks_of}

-- block i of words
abbrev block_at : List ℕ → ℕ → ℕ
block_at ws i = number_of (part_at ws (4 * i) 4)

-- the chunk that starts with the first word
abbrev pub chunk : List ℕ → ℕ
chunk ws = number_of (part_at ws 4 4) * 2 ^ 64 + number_of (part_at ws 0 4)

blocks-later : (ws : List ℕ) (n : ℕ) → listed (block_at ws) 2 n ≡ listed (block_at (drop 8 ws)) 0 n
blocks-later ws n = listed-shift (block_at ws) (block_at (drop 8 ws)) 0 2 n later
  where
    later : (j : ℕ) → block_at ws (2 + j) ≡ block_at (drop 8 ws) j
    later j = let e : 4 * (2 + j) ≡ 8 + 4 * j = omega arith in rw (part-drop, e)

-- a whole chunk, and the rest
absorb-chunk : (s : ℕ) (ws : List ℕ) → 8 ≤ length ws → absorb_all s (blocks_of ws) ≡ absorb_all (absorb (chunk ws) s) (blocks_of (drop 8 ws))
unfolding blocks_of absorb_all listed
absorb-chunk s ws h =
    let n = (length ws - 8 + 3) / 4 in
    let e : (length ws + 3) / 4 ≡ suc (suc n) = omega arith in
    rw (e, length-drop 8 ws) (ap (absorb_all (absorb (chunk ws) s)) (blocks-later ws n))

one_block : (s : ℕ) (ws : List ℕ) → 0 < length ws → length ws ≤ 4 → absorb (chunk ws) s ≡ absorb_all s (blocks_of ws)
unfolding blocks_of absorb_all listed
one_block s ws l u =
    let e : (length ws + 3) / 4 ≡ 1 = omega arith in
    rw (e, zeros-past ws 4 4 u) (ap (λ (k : ℕ). absorb k s) (zero-add _))

two_blocks : (s : ℕ) (ws : List ℕ) → 4 < length ws → length ws < 8 → absorb (chunk ws) s ≡ absorb_all s (blocks_of ws)
unfolding blocks_of absorb_all listed
two_blocks s ws l u =
    let e : (length ws + 3) / 4 ≡ 2 = omega arith in
    rw e

-- a last chunk of fewer than eight words: an odd last block has a zero high half
absorb-rest : (s : ℕ) (ws : List ℕ) → 0 < length ws → length ws < 8 → absorb_all s (blocks_of ws) ≡ absorb (chunk ws) s
absorb-rest s ws l u =
    sym (by_cases (ltb 4 (length ws)) (λ t. two_blocks s ws (ltb-true _ _ t) u) (λ t. one_block s ws l (ltb-false _ _ t)))

pub absorb-none : (s : ℕ) (ws : List ℕ) → length ws ≡ 0 → absorb_all s (blocks_of ws) ≡ s
unfolding blocks_of absorb_all listed
absorb-none s ws e = rw e

-- the next of the chunks that words are cut into
pub absorb-next : (s : ℕ) (ws piece rest : List ℕ) → ws ≡ piece ++ rest → length piece ≡ min 8 (length ws) → 0 < length ws
    → absorb_all s (blocks_of ws) ≡ absorb_all (absorb (number_of (part_at piece 0 8)) s) (blocks_of rest)
absorb-next s ws piece rest e size some =
    by_cases (ltb (length ws) 8) (λ t. last (ltb-true _ _ t)) (λ t. whole (ltb-false _ _ t))
  where
    parted : length ws ≡ length piece + length rest
    parted = ap length e ∙ length-append piece rest

    key : chunk ws ≡ number_of (part_at ws 0 8)
    key = number-halves ws 0

    last : length ws < 8 → absorb_all s (blocks_of ws) ≡ absorb_all (absorb (number_of (part_at piece 0 8)) s) (blocks_of rest)
    last short =
        let none : length rest ≡ 0 = omega (arith, parted) in
        let all : ws ≡ piece = e ∙ ap (λ xs. piece ++ xs) (nil_from_length rest none) ∙ append-nil piece in
        absorb-rest s ws some short ∙ ap (λ k. absorb k s) (key ∙ ap (λ xs. number_of (part_at xs 0 8)) all) ∙ sym (absorb-none _ rest none)

    whole : 8 ≤ length ws → absorb_all s (blocks_of ws) ≡ absorb_all (absorb (number_of (part_at piece 0 8)) s) (blocks_of rest)
    whole long =
        let eight : length piece ≡ 8 = omega arith in
        let same : part_at ws 0 8 ≡ part_at piece 0 8 =
        part_same ws piece 0 8 (λ j l u. ap (λ xs. get_or xs j 0) e ∙ get_or_append_left piece rest 0 j (omega arith)) in
        let later : drop 8 ws ≡ rest = ap (drop 8) e ∙ ap (λ n. drop n (piece ++ rest)) (sym eight) ∙ drop-append_seam piece rest in
        absorb-chunk s ws long ∙ ap₂ (λ k xs. absorb_all (absorb k s) (blocks_of xs)) (key ∙ ap number_of same) later
