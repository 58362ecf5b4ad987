-- What the copy holds, in blocks of four words. The idea: starts, digests and ends of a fit map stand at multiples of eight bytes, so the words of
-- a block are in one partition and on one side of its digest address, and a secret block is one granule.
use mathlib.Core.Path.{◌≡◌, refl, sym, ap, ap₂, ◌∙◌}
use mathlib.Core.Bool.{true, false, not, ◌&&◌}
use mathlib.Core.List.{List, [], ◌∷◌, ◌++◌}
use Prim.Native.Nat.{ℕ, zero, suc, ◌+◌, ◌*◌, ◌-◌, ◌/◌, ◌%◌, ◌≤◌, ◌<◌}
use native.Mathlib.Nat.{add-zero, zero-add, suc-add}
use native.Mathlib.Omega.{arith}
use lib.Seq.{take_all}
use lib.Dec.{leb}
use borrow.Rule.Slice.PartMut.{put_mid}
use Rattle.std.proofs.lemmas.Slice.{take-put_mid}
use lib.ListN.{length, get_or, take, replicate}
use borrow.Author.Tests.{leb-true, leb-false, le-leb, lt-leb}
use Rattle.basics.specs.Range.{listed}
use Rattle.basics.proofs.Choice.{by_cases, and-false, if-true, if-false}
use Rattle.basics.proofs.Range.{length-listed, listed_at, listed-from, is-listed-from}
use Rattle.words.specs.Words.{number_of, words_of, part_at}
use Rattle.words.proofs.Words.{Words, length-words, words-number}
use Rattle.words.proofs.Parts.{length_part, part-words}
use Rattle.partitions.specs.declared.Partition.{Partition}
use Rattle.partitions.specs.Map.{Map, rights_of, partition_at, limit, in_digest, first_word, word_count}
use Rattle.partitions.specs.Fitness.{fit}
use Rattle.partitions.proofs.Map.{inside, only, partition-at}
use Rattle.partitions.proofs.Granules.{granule-scrambled, size-words}
use Rattle.model.specs.Lent.{Primitives}
use Rattle.model.specs.Commands.{granule, unscrambled}
use Rattle.model.specs.PowerUp.{copy_word}

-- ---- one word of a block

before-eight : (at k end : ℕ) → k < 4 → at % 4 ≡ 0 → end % 8 ≡ 0 → 2 * at < end → 2 * (at + k) < end
before-eight at k end h a e l =
    let n : at ≡ 4 * (at / 4) = omega arith in
    let m : end ≡ 8 * (end / 8) = omega arith in
    omega arith

module _ (prims : Primitives) (map : Map) (fits : fit map ≡ true) (constants cells : List ℕ) (at : ℕ) (aligned : at % 4 ≡ 0) (known : 2 * at < limit map) where
  abbrev here : Partition
  here = partition_at map (2 * at)

  abbrev rule : ℕ → ℕ
  rule = copy_word prims map constants cells

  module _ {k : ℕ} (h : k < 4) where
    same-partition : partition_at map (2 * (at + k)) ≡ here
    unfolding partition_at
    same-partition =
        let i = inside map fits known in
        let f = i.fits in
        partition-at map (2 * (at + k)) (only map fits i.known (omega (arith, i.from)) (before-eight at k _ h aligned f.end-aligned i.below))

    same-side : in_digest here (2 * (at + k)) ≡ in_digest here (2 * at)
    unfolding in_digest
    same-side =
        let e = (inside map fits known).fits.digest-aligned in
        by_cases (leb here.digest (2 * at))
        (λ t. le-leb here.digest (2 * (at + k)) (omega (arith, leb-true)) ∙ sym t)
        (λ t. lt-leb here.digest (2 * (at + k)) (before-eight at k _ h aligned e (leb-false _ _ t)) ∙ sym t)

    -- the granule of a secret word is the block
    block_words : (rights_of here.kind).scrambled ≡ true → (first_word here (2 * (at + k)) ≡ at) × (word_count here (2 * (at + k)) ≡ 4)
    block_words s = let w = size-words here (2 * (at + k)) 8 (granule-scrambled (inside map fits known).fits s (2 * (at + k))) in (w.0 ∙ omega arith, w.1)

    zero_word : (rights_of here.kind).lockable ≡ true → 0 ≡ rule (at + k)
    unfolding copy_word
    zero_word e = sym (rw same-partition (if-true _ _ e))

    plain_word : (rights_of here.kind).lockable ≡ false → ((rights_of here.kind).scrambled && not (in_digest here (2 * at))) ≡ false
        → get_or cells (at + k) 0 ≡ rule (at + k)
    unfolding copy_word
    plain_word e s = sym (rw (same-partition, same-side) (if-false _ _ e ∙ if-false _ _ s))

    secret-word : (rights_of here.kind).lockable ≡ false → (rights_of here.kind).scrambled ≡ true → in_digest here (2 * at) ≡ false
        → get_or (words_of 4 (unscrambled prims constants here (number_of (part_at cells at 4)))) k 0 ≡ rule (at + k)
    unfolding copy_word granule
    secret-word e s d =
        let z : at + k - at ≡ k = omega arith in
        let w = block_words s in
        sym (rw (same-partition, same-side, w.0, w.1, z, s, d) (if-false _ _ e ∙ if-true _ _ refl))

  -- ---- the block

  pub zero-block : (rights_of here.kind).lockable ≡ true → 0 ∷ 0 ∷ 0 ∷ 0 ∷ [] ≡ listed rule at 4
  unfolding listed
  zero-block e = is-listed-from rule at 4 (listed (λ j. 0) 0 4) refl (λ k h. listed_at (λ j. 0) 0 4 k h ∙ zero_word h e)

  part-block : (rights_of here.kind).lockable ≡ false → ((rights_of here.kind).scrambled && not (in_digest here (2 * at))) ≡ false
      → part_at cells at 4 ≡ listed rule at 4
  unfolding part_at
  part-block e s = is-listed-from rule at 4 _ (length-listed _ at 4) (λ k h. listed-from (λ j. get_or cells j 0) 0 at 4 k h ∙ plain_word h e s)

  plain-block : Words cells → (rights_of here.kind).lockable ≡ false → ((rights_of here.kind).scrambled && not (in_digest here (2 * at))) ≡ false
      → words_of 4 (number_of (part_at cells at 4)) ≡ listed rule at 4
  plain-block w e s =
      let q : words_of 4 (number_of (part_at cells at 4)) ≡ part_at cells at 4 = rw length_part at (words-number (part_at cells at 4) (part-words w at 4)) in
      q ∙ part-block e s

  -- digests are latched as stored
  pub digest-block : Words cells → (rights_of here.kind).lockable ≡ false → in_digest here (2 * at) ≡ true
      → words_of 4 (number_of (part_at cells at 4)) ≡ listed rule at 4
  digest-block w e d = plain-block w e (and-false (rights_of here.kind).scrambled (ap not d))

  -- data are latched in the clear
  pub data-block : Words cells → (rights_of here.kind).lockable ≡ false → in_digest here (2 * at) ≡ false
      → words_of 4 (unscrambled prims constants here (number_of (part_at cells at 4))) ≡ listed rule at 4
  unfolding unscrambled
  data-block w e d =
      by_cases (rights_of here.kind).scrambled
      (λ s. is-listed-from rule at 4 _ (length-words 4 _) (λ k h. secret-word h e s d))
      (λ s. ap (words_of 4) (if-false _ _ s) ∙ plain-block w e (rw s))

-- ---- a block is stored

listed-append : (f : ℕ → ℕ) (i m n : ℕ) → listed f i m ++ listed f (i + m) n ≡ listed f i (m + n)
unfolding listed
listed-append f i zero n = ap₂ (listed f) (add-zero i) (sym (zero-add n))
listed-append f i (suc m) n =
    let e : i + suc m ≡ suc i + m = omega arith in
    rw (e, suc-add m n) (ap (λ (xs : List ℕ). f i ∷ xs) (listed-append f (suc i) m n))

-- the words below a number are latched
pub record Latched (f : ℕ → ℕ) (xs : List ℕ) (n : ℕ) : Type 0 where
  pub words : take n xs ≡ listed f 0 n

pub latched-none : (f : ℕ → ℕ) (xs : List ℕ) → Latched f xs 0
unfolding listed
latched-none f xs = record { words = refl }

pub latched-more : (f : ℕ → ℕ) (xs ws : List ℕ) (number k : ℕ) → Latched f xs (4 * number) → 4 * number ≤ length xs → ws ≡ listed f (4 * number) 4
    → Latched f (put_mid (4 * number) k xs ws) (4 * (number + 1))
latched-more f xs ws number k h l e =
    let at = 4 * number in
    let n : 4 * (number + 1) ≡ at + 4 = omega arith in
    let m : at + 4 ≡ at + length ws = omega (arith, ap length e ∙ length-listed f at 4) in
    let joined : listed f 0 at ++ listed f at 4 ≡ listed f 0 (at + 4) =
    ap (λ (i : ℕ). listed f 0 at ++ listed f i 4) (sym (zero-add at)) ∙ listed-append f 0 at 4 in
    record {
      words = ap (λ (i : ℕ). take i (put_mid at k xs ws)) n ∙ take-put_mid at k xs ws (at + 4) m l ∙ ap₂ (λ (a b : List ℕ). a ++ b) h.words e ∙ joined
          ∙ ap (listed f 0) (sym n);
    }

pub latched-all : (f : ℕ → ℕ) (xs : List ℕ) (n : ℕ) → Latched f xs n → length xs ≡ n → xs ≡ listed f 0 n
latched-all f xs n h e = sym (take_all n xs (omega (arith, e))) ∙ h.words

-- ---- nothing is sensed

zeros-from : (i n : ℕ) → replicate {A = ℕ} n 0 ≡ listed (λ j. 0) i n
unfolding listed
zeros-from i zero = refl
zeros-from i (suc n) = ap (λ (xs : List ℕ). 0 ∷ xs) (zeros-from (suc i) n)

pub zeros-listed : (n : ℕ) → replicate {A = ℕ} n 0 ≡ listed (λ j. 0) 0 n
zeros-listed n = zeros-from 0 n

pub ruleset zeros = (zeros-listed)
