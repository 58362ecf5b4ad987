-- The digest construction of document 01, over any start value, final key and blocks: "Digest: start value; each 128-bit chunk k (lower block
-- in the low half) makes state s into E_k(s) XOR s; an odd last block has a zero high half; then the same step with the final key."
use Rattle.std.specs.Prelude.{ℕ, ◌+◌, ◌*◌, ◌/◌, ◌^◌, List, [], ◌∷◌, length}
use Rattle.std.specs.Int.Bits.{bit_xor}
use Rattle.basics.specs.Range.{listed}
use Rattle.words.specs.Words.{number_of, part_at}
use Rattle.present.specs.Present.{encrypt_block}

-- the step: s becomes E_k(s) XOR s
unfoldable pub absorb : ℕ → ℕ → ℕ
absorb k s = bit_xor (encrypt_block k s) s

-- the state after all chunks of two blocks
unfoldable pub absorb_all : ℕ → List ℕ → ℕ
absorb_all s [] = s
absorb_all s (low ∷ []) = absorb low s
absorb_all s (low ∷ high ∷ blocks) = absorb_all (absorb (high * 2 ^ 64 + low) s) blocks

unfoldable pub digest_blocks : ℕ → ℕ → List ℕ → ℕ
digest_blocks start final blocks = absorb final (absorb_all start blocks)

-- the blocks of words: block i is the number of the four words from 4 i on, zeros past the last word
unfoldable pub blocks_of : List ℕ → List ℕ
blocks_of ws = listed (λ i. number_of (part_at ws (4 * i) 4)) 0 ((length ws + 3) / 4)

unfoldable pub digest_words : ℕ → ℕ → List ℕ → ℕ
digest_words start final ws = digest_blocks start final (blocks_of ws)
