-- The sponge that takes bytes has absorbed the full blocks and added the rest. The idea: induction over the bytes, from the first to the last, on the state
-- with a full block already permuted.
use mathlib.Core.Path.{◌≡◌, refl, sym, ap, ap₂, subst, ◌∙◌}
use mathlib.Core.List.{List, [], ◌∷◌, ◌++◌, append-nil}
use Prim.Native.Nat.{ℕ, zero, suc, ◌+◌, ◌*◌, ◌-◌, ◌/◌, ◌≤◌, ◌<◌}
use native.Mathlib.Omega.{arith}
use lib.Bits.{xor_zero_r}
use lib.Dec.{ltb, lit<}
use lib.ListN.{length, get_or, take, drop, length-append, length-drop, drop_of_length-le}
use lib.Seq.{take_all, take-append-le, drop-append-le, append_snoc}
use borrow.Author.Tests.{ltb-true, ltb-false}
use Rattle.basics.specs.Range.{sum}
use Rattle.basics.proofs.Choice.{by_cases}
use Rattle.basics.proofs.Range.{length-listed, is-listed}
use Rattle.keccak.specs.Permutation.{keccak_f}
use Rattle.keccak.proofs.Lengths.{length-keccak_f}
use Rattle.sponge.specs.declared.Sponge.{Sponge}
use Rattle.sponge.specs.Sponge.{zero_state, added, absorbed}
use Rattle.sponge.specs.Streaming.{sponge_of, fresh, with_byte, permuted_if_full, taken, taken_all}
use Rattle.sponge.proofs.Permuting.{not_full, full-permuted}
use Rattle.sponge.proofs.Taking.{taken_all-append}
use Rattle.sponge.proofs.Bytes.{Bytes, bytes-none, bytes_drop, below_one, below-append}
use Rattle.sponge.proofs.Lanes.{added_more}

-- a block of no bytes
added_none : (state : List ℕ) → length state ≡ 25 → added state [] ≡ state
unfolding added sum
added_none state e = sym (is-listed _ 25 state e (λ k h. sym (xor_zero_r (get_or state k 0))))

-- the blocks absorbed don't depend on what comes after them
pub absorbed-append : (p q : List ℕ) (n : ℕ) → 168 * n ≤ length p → absorbed 168 (p ++ q) n ≡ absorbed 168 p n
unfolding absorbed
absorbed-append p q zero h = refl
absorbed-append p q (suc n) h =
    let rest : 168 ≤ length (drop (168 * n) p) = rw length-drop (omega arith) in
    let block : take 168 (drop (168 * n) (p ++ q)) ≡ take 168 (drop (168 * n) p) =
    ap (take 168) (drop-append-le (168 * n) p q (omega arith)) ∙ take-append-le 168 (drop (168 * n) p) q rest
    in
    ap₂ (λ (s b : List ℕ). keccak_f (added s b)) (absorbed-append p q n (omega arith)) block

-- the last block, if it is full
pub absorbed-last : (p : List ℕ) (n : ℕ) → length p ≡ 168 * n + 168 → absorbed 168 p (suc n) ≡ keccak_f (added (absorbed 168 p n) (drop (168 * n) p))
unfolding absorbed
absorbed-last p n e = ap (λ (b : List ℕ). keccak_f (added (absorbed 168 p n) b)) (take_all 168 (drop (168 * n) p) (rw length-drop (omega arith)))

-- n blocks absorbed, and the rest of the bytes added
abbrev pub after : List ℕ → ℕ → Sponge
after m n = sponge_of (added (absorbed 168 m n) (drop (168 * n) m)) (length m - 168 * n)

-- ---- one byte more

module _ (m : List ℕ) (x n : ℕ) (low : 168 * n ≤ length m) (high : length m < 168 * n + 168) where
  abbrev longer : List ℕ
  longer = m ++ x ∷ []

  longer-length : length longer ≡ length m + 1
  longer-length = length-append m (x ∷ [])

  -- the state before and the block with the byte
  abbrev state-with : List ℕ
  state-with = added (absorbed 168 m n) (drop (168 * n) m ++ x ∷ [])

  state-with-is : added (absorbed 168 longer n) (drop (168 * n) longer) ≡ state-with
  state-with-is = ap₂ added (absorbed-append m (x ∷ []) n low) (drop-append-le (168 * n) m (x ∷ []) low)

  taken-byte : (s : Sponge) → Bytes m → x < 256 → permuted_if_full s ≡ after m n → taken s x ≡ sponge_of state-with (length longer - 168 * n)
  unfolding taken
  taken-byte s bytes small e =
      let size : length (drop (168 * n) m) ≡ length m - 168 * n = length-drop (168 * n) m in
      let more : length m - 168 * n + 1 ≡ length longer - 168 * n = omega (arith, longer-length) in
      let lanes : with_byte (added (absorbed 168 m n) (drop (168 * n) m)) (length m - 168 * n) x ≡ state-with =
      ap (λ (i : ℕ). with_byte (added (absorbed 168 m n) (drop (168 * n) m)) i x) (sym size)
      ∙ added_more (absorbed 168 m n) (drop (168 * n) m) x (bytes_drop (168 * n) m bytes) small (omega arith)
      in
      ap (λ (t : Sponge). sponge_of (with_byte t.lanes t.at x) (t.at + 1)) e ∙ ap₂ sponge_of lanes more

  -- the block takes another byte
  space : length longer < 168 * n + 168 → permuted_if_full (sponge_of state-with (length longer - 168 * n)) ≡ after longer n
  space h = not_full _ (omega arith) ∙ ap (λ (l : List ℕ). sponge_of l (length longer - 168 * n)) (sym state-with-is)

  -- the block is full
  full : length longer ≡ 168 * n + 168 → permuted_if_full (sponge_of state-with (length longer - 168 * n)) ≡ after longer (suc n)
  full h =
      let none : drop (168 * suc n) longer ≡ [] = drop_of_length-le longer {i = 168 * suc n} (omega arith) in
      let zero_left : 0 ≡ length longer - 168 * suc n = omega arith in
      let state : keccak_f state-with ≡ absorbed 168 longer (suc n) = ap keccak_f (sym state-with-is) ∙ sym (absorbed-last longer n h) in
      let lanes : keccak_f state-with ≡ added (absorbed 168 longer (suc n)) (drop (168 * suc n) longer) =
      state
      ∙ sym (added_none (absorbed 168 longer (suc n)) (ap length (sym state) ∙ length-keccak_f state-with))
      ∙ ap (added (absorbed 168 longer (suc n))) (sym none)
      in
      full-permuted _ (omega arith) ∙ ap₂ sponge_of lanes zero_left

-- what has come of a message, with a full block permuted
abbrev Stands : List ℕ → Type 0
Stands m = permuted_if_full (taken_all fresh m) ≡ after m (length m / 168)

stands-none : Stands []
unfolding taken_all absorbed zero_state
stands-none = not_full fresh (lit< tt) ∙ ap (λ (l : List ℕ). sponge_of l 0) (sym (added_none zero_state (length-listed (λ k. 0) 0 25)))

stands-more : (m : List ℕ) (x : ℕ) → Bytes m → x < 256 → Stands m → Stands (m ++ x ∷ [])
unfolding taken_all
stands-more m x bytes small e =
    ap permuted_if_full (taken_all-append fresh m (x ∷ []) ∙ taken-byte m x n low high (taken_all fresh m) bytes small e)
    ∙ by_cases (ltb (length (m ++ x ∷ [])) (168 * n + 168))
    (λ t. space m x n low high (ltb-true _ _ t) ∙ ap (after (m ++ x ∷ [])) (omega (arith, size, ltb-true)))
    (λ t. full m x n low high (omega (arith, size, ltb-false)) ∙ ap (after (m ++ x ∷ [])) (omega (arith, size, ltb-false)))
  where
    n : ℕ
    n = length m / 168

    low : 168 * n ≤ length m
    low = omega arith

    high : length m < 168 * n + 168
    high = omega arith

    size : length (m ++ x ∷ []) ≡ length m + 1
    size = length-append m (x ∷ [])

stands-append : (xs ys : List ℕ) → Bytes xs → Bytes ys → Stands xs → Stands (xs ++ ys)
stands-append xs [] b c e = subst Stands (sym (append-nil xs)) e
stands-append xs (y ∷ ys) b c e =
    subst Stands (append_snoc xs y ys)
    (stands-append (xs ++ y ∷ []) ys (below-append 256 xs (y ∷ []) b (below_one (c 0))) (λ i. c (suc i)) (stands-more xs y b (c 0) e))

pub stands : (m : List ℕ) → Bytes m → permuted_if_full (taken_all fresh m) ≡ after m (length m / 168)
stands m bytes = stands-append [] m bytes-none bytes stands-none
