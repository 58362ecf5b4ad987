-- A sponge that takes its message a byte at a time gives what the sponge of the whole message gives. The idea: after the full blocks are absorbed, the rest
-- with the padding is one block more.
use mathlib.Core.Path.{◌≡◌, sym, ap, ap₂, ◌∙◌}
use mathlib.Core.List.{List, [], ◌∷◌, ◌++◌}
use Prim.Native.Nat.{ℕ, zero, suc, ◌+◌, ◌*◌, ◌-◌, ◌/◌, ◌%◌, ◌≤◌, ◌<◌}
use native.Mathlib.Nat.{zero-mul, add-zero}
use native.Mathlib.Omega.{arith}
use lib.Bits.{xor_zero_r}
use lib.Dec.{lit≤}
use lib.ListN.{length, drop, length-append, length-drop}
use lib.Seq.{drop-append-le, set-get_or}
use borrow.Author.Tests.{ne_eqb}
use Rattle.basics.specs.Range.{listed}
use Rattle.basics.proofs.Choice.{if-false}
use Rattle.keccak.specs.Permutation.{keccak_f}
use Rattle.sponge.specs.declared.Sponge.{Sponge}
use Rattle.sponge.specs.Sponge.{padding, added, absorbed, squeezed, sponge}
use Rattle.sponge.specs.Streaming.{sponge_of, fresh, with_byte, permuted_if_full, taken, taken_all, filled, finished}
use Rattle.sponge.proofs.Permuting.{not_full, place-after}
use Rattle.sponge.proofs.Bytes.{bytes_drop}
use Rattle.sponge.proofs.Blocks.{absorbed-append, absorbed-last, stands}
use Rattle.sponge.proofs.LastBlock.{length-padding, last_block}
pub use Rattle.sponge.proofs.Bytes.{Bytes}
pub use Rattle.sponge.proofs.Taking.{taken_all-append}

-- ---- the end of a block

-- a zero changes no lane
with-zero : (lanes : List ℕ) (i : ℕ) → with_byte lanes i 0 ≡ lanes
unfolding with_byte
with-zero lanes i = rw (zero-mul, xor_zero_r) (set-get_or lanes (i / 8) 0)

take-zeros : (n i : ℕ) (s : Sponge) → s.at + n ≤ 168 → taken_all s (listed (λ j. 0) i n) ≡ sponge_of s.lanes (s.at + n)
unfolding taken_all listed taken
take-zeros zero i s h = ap (sponge_of s.lanes) (sym (add-zero s.at))
take-zeros (suc n) i s h =
    let t : taken s 0 ≡ sponge_of s.lanes (s.at + 1) =
    ap (λ (u : Sponge). sponge_of (with_byte u.lanes u.at 0) (u.at + 1)) (not_full s (omega arith))
    ∙ ap (λ (l : List ℕ). sponge_of l (s.at + 1)) (with-zero s.lanes s.at)
    in
    let at : s.at + 1 + n ≡ s.at + suc n = omega arith in
    ap (λ (u : Sponge). taken_all u (listed (λ j. 0) (suc i) n)) t
    ∙ take-zeros n (suc i) (sponge_of s.lanes (s.at + 1)) (omega arith)
    ∙ ap (sponge_of s.lanes) at

-- how many bytes of the block in hand are taken: none only if none is taken at all
taken_at : (z : List ℕ) (s : Sponge) → s.at ≤ 168 → 0 < s.at + length z → (taken_all s z).at ≡ (s.at + length z - 1) % 168 + 1
unfolding taken_all taken
taken_at [] s h p = omega arith
taken_at (y ∷ ys) s h p =
    let e : (permuted_if_full s).at ≡ s.at % 168 = place-after s h in
    taken_at ys (taken s y) (omega arith) (omega arith) ∙ omega arith

pub filled_is : (z : List ℕ) → 0 < length z → filled (taken_all fresh z) ≡ taken_all fresh (z ++ listed (λ i. 0) 0 ((168 - length z % 168) % 168))
unfolding filled
filled_is z h =
    let s : Sponge = taken_all fresh z in
    let n : ℕ = (168 - length z % 168) % 168 in
    let at : s.at ≡ (0 + length z - 1) % 168 + 1 = taken_at z fresh (lit≤ tt) (omega arith) in
    let whole : s.at + n ≡ 168 = omega arith in
    if-false _ _ (ne_eqb s.at 0 (λ e. omega arith))
    ∙ ap (sponge_of s.lanes) (sym whole)
    ∙ sym (taken_all-append fresh z (listed (λ i. 0) 0 n) ∙ take-zeros n 0 s (omega arith))

-- ---- the whole message

finished-absorbed : (m : List ℕ) → Bytes m → (suffix : ℕ) → suffix < 256
    → finished (taken_all fresh m) suffix
    ≡ absorbed 168 (m ++ padding 168 suffix (length m)) (length (m ++ padding 168 suffix (length m)) / 168)
unfolding finished
finished-absorbed m bytes suffix small =
    ap (λ (s : Sponge). keccak_f (with_byte (with_byte s.lanes s.at suffix) 167 0x80)) (stands m bytes)
    ∙ ap (λ (i : ℕ). keccak_f (with_byte (with_byte (added state rest) i suffix) 167 0x80)) at
    ∙ ap keccak_f (last_block suffix (length m) state rest (bytes_drop (168 * n) m bytes) small (length-drop (168 * n) m ∙ at))
    ∙ sym (ap (absorbed 168 p) (omega (arith, size)) ∙ absorbed-last p n (omega (arith, size)) ∙ ap keccak_f (ap₂ added before behind))
  where
    n : ℕ
    n = length m / 168

    state : List ℕ
    state = absorbed 168 m n

    rest : List ℕ
    rest = drop (168 * n) m

    p : List ℕ
    p = m ++ padding 168 suffix (length m)

    at : length m - 168 * n ≡ length m % 168
    at = omega arith

    size : length p ≡ length m + (168 - length m % 168)
    size = length-append m (padding 168 suffix (length m)) ∙ ap (λ (k : ℕ). length m + k) (length-padding suffix (length m))

    before : absorbed 168 p n ≡ state
    before = absorbed-append m (padding 168 suffix (length m)) n (omega arith)

    behind : drop (168 * n) p ≡ rest ++ padding 168 suffix (length m)
    behind = drop-append-le (168 * n) m (padding 168 suffix (length m)) (omega arith)

pub finished-is : (m : List ℕ) → Bytes m → (suffix : ℕ) → suffix < 256 → (d : ℕ) → squeezed 168 (finished (taken_all fresh m) suffix) d ≡ sponge 168 suffix m d
unfolding sponge
finished-is m bytes suffix small d = ap (λ (state : List ℕ). squeezed 168 state d) (finished-absorbed m bytes suffix small)
