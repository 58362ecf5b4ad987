-- The rest of a message with its padding is one block, which two bytes added to the state make. The idea: the padding's entries are those of the suffix alone,
-- but for the last.
use mathlib.Core.Path.{◌≡◌, refl, sym, ap, ap₂, subst, ◌∙◌}
use mathlib.Core.List.{List, [], ◌∷◌, ◌++◌}
use Prim.Native.Nat.{ℕ, zero, suc, ◌+◌, ◌-◌, ◌%◌, ◌≤◌, ◌<◌}
use native.Mathlib.Nat.{zero-add}
use native.Mathlib.Omega.{arith}
use lib.Bits.{bit_xor, xor_zero_r}
use lib.Dec.{eqb, ltb, lit<, eqb-suc-zero}
use lib.ListN.{length, get_or, get_or-eq_default}
use lib.Seq.{get_or-append-add}
use borrow.Author.Tests.{ltb-true, ltb-false, eq-eqb, ne_eqb}
use Rattle.basics.specs.Choice.{when◌then◌else◌}
use Rattle.basics.proofs.Choice.{by_cases, if-true, if-false}
use Rattle.basics.proofs.Range.{length-listed, listed_at}
use Rattle.sponge.specs.Sponge.{padding, added}
use Rattle.sponge.specs.Streaming.{with_byte}
use Rattle.sponge.proofs.Bytes.{Bytes, below_one, below-append}
use Rattle.sponge.proofs.Lanes.{added-with, added_more}

-- lists with one front differ where what follows it does
append-entry : (front xs ys : List ℕ) (j : ℕ) → ((r : ℕ) → j ≡ length front + r → get_or xs r 0 ≡ get_or ys r 0)
    → get_or (front ++ xs) j 0 ≡ get_or (front ++ ys) j 0
append-entry [] xs ys j h = h j (sym (zero-add j))
append-entry (a ∷ front) xs ys zero h = refl
append-entry (a ∷ front) xs ys (suc j) h = append-entry front xs ys j (λ r e. h r (omega arith))

only-first : (x r : ℕ) → (when eqb r 0 then x else 0) ≡ get_or (x ∷ []) r 0
only-first x zero = if-true x 0 refl
only-first x (suc r) = if-false x 0 (eqb-suc-zero r)

module _ (suffix n : ℕ) where
  -- the bytes of the padding, at least one
  abbrev count : ℕ
  count = 168 - n % 168

  abbrev last : ℕ → ℕ
  last r = when eqb (r + 1) count then 0x80 else 0

  pub length-padding : length (padding 168 suffix n) ≡ count
  unfolding padding
  length-padding = length-listed _ 0 count

  padding-at : (r : ℕ) → get_or (padding 168 suffix n) r 0 ≡ bit_xor (get_or (suffix ∷ []) r 0) (last r)
  unfolding padding
  padding-at r =
      by_cases (ltb r count) (λ t. listed_at _ 0 count r (ltb-true r count t) ∙ ap (λ (x : ℕ). bit_xor x (last r)) (only-first suffix r))
      (λ t. let past : count ≤ r = ltb-false r count t in
      get_or-eq_default (padding 168 suffix n) 0 {n = r} (rw length-padding past)
      ∙ ap₂ bit_xor (sym (get_or-eq_default (suffix ∷ []) 0 {n = r} (omega arith))) (sym (if-false 0x80 0 (ne_eqb (r + 1) count (λ e. omega arith)))))

  module _ (state rest : List ℕ) (bytes : Bytes rest) (small : suffix < 256) (size : length rest ≡ n % 168) where
    last_byte : get_or (rest ++ padding 168 suffix n) 167 0 ≡ bit_xor (get_or (rest ++ suffix ∷ []) 167 0) 0x80
    last_byte =
        let r = 167 - n % 168 in
        let place : length rest + r ≡ 167 = omega arith in
        subst (λ (j : ℕ). get_or (rest ++ padding 168 suffix n) j 0 ≡ bit_xor (get_or (rest ++ suffix ∷ []) j 0) 0x80) place
        (get_or-append-add rest (padding 168 suffix n) r 0
        ∙ padding-at r
        ∙ ap₂ bit_xor (sym (get_or-append-add rest (suffix ∷ []) r 0)) (if-true 0x80 0 (eq-eqb (r + 1) count (omega arith))))

    other-bytes : (j : ℕ) → (j ≡ 167 → ⊥) → get_or (rest ++ padding 168 suffix n) j 0 ≡ get_or (rest ++ suffix ∷ []) j 0
    other-bytes j ne =
        append-entry rest (padding 168 suffix n) (suffix ∷ []) j
        (λ r e. padding-at r
        ∙ ap (bit_xor (get_or (suffix ∷ []) r 0)) (if-false 0x80 0 (ne_eqb (r + 1) count (λ q. ne (omega arith))))
        ∙ xor_zero_r (get_or (suffix ∷ []) r 0))

    pub last_block : with_byte (with_byte (added state rest) (n % 168) suffix) 167 0x80 ≡ added state (rest ++ padding 168 suffix n)
    last_block =
        ap (λ (i : ℕ). with_byte (with_byte (added state rest) i suffix) 167 0x80) (sym size)
        ∙ ap (λ (l : List ℕ). with_byte l 167 0x80) (added_more state rest suffix bytes small (omega arith))
        ∙ added-with state (rest ++ suffix ∷ []) (rest ++ padding 168 suffix n) 167 0x80 (below-append 256 rest (suffix ∷ []) bytes (below_one small)) (lit< tt)
        (lit< tt) last_byte other-bytes
