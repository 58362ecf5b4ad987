-- Lookups in a table in place of a box and a move of bits. The idea: a block is the exclusive or of its groups, and the move distributes over it.
use mathlib.Core.Path.{◌≡◌, sym, ap, ap₂, subst, ◌∙◌}
use mathlib.Core.List.{List}
use Prim.Native.Nat.{ℕ, zero, suc, ◌+◌, ◌*◌, ◌/◌, ◌%◌, ◌^◌, ◌≤◌, ◌<◌}
use native.Mathlib.Omega.{arith}
use lib.Bits.{bit_xor, xor_comm, xor_self, xor_shifted}
use lib.Dec.{lit≤, lit<}
use lib.ListN.{get_or}
use Rattle.basics.specs.Range.{sum}
use Rattle.basics.specs.Digits.{digit, number}
use Rattle.basics.proofs.Range.{listed_at}
use Rattle.basics.proofs.Digits.{digit_lt, number_lt}
use Rattle.present.specs.Present.{s_box, s_box_inverse, substitute, permute, permute_back}
use Rattle.present.specs.Tables.{table_of, lookups}
use Rattle.present.proofs.Groups.{sixteen-power}
use Rattle.present.proofs.Boxes.{s_box-lt, s_box_inverse-lt}
use Rattle.present.proofs.Permutation.{permute-xor, permute_back-xor}

-- one more group: it meets the groups below in no bit
next-group : (d : ℕ → ℕ) → ((i : ℕ) → d i < 16) → (n : ℕ) → bit_xor (number 16 n d) (d n * 16 ^ n) ≡ number 16 (suc n) d
unfolding sum
next-group d small n =
    let below : number 16 n d < 2 ^ (4 * n) = subst (λ (p : ℕ). number 16 n d < p) (sixteen-power n) (number_lt 16 (lit< tt) n d small) in
    xor_comm (number 16 n d) (d n * 16 ^ n)
    ∙ ap (λ (p : ℕ). bit_xor (d n * p) (number 16 n d)) (sixteen-power n)
    ∙ xor_shifted (d n) (4 * n) (number 16 n d) below
    ∙ ap (λ (p : ℕ). d n * p + number 16 n d) (sym (sixteen-power n))

module _ (box move : ℕ → ℕ) (small : (v : ℕ) → v < 16 → box v < 16) (distributes : (x y : ℕ) → move (bit_xor x y) ≡ bit_xor (move x) (move y)) where
  entry_at : (i v : ℕ) → i < 16 → v < 16 → get_or (table_of box move) (16 * i + v) 0 ≡ move (box v * 16 ^ i)
  unfolding table_of
  entry_at i v hi hv =
      let value : (16 * i + v) % 16 ≡ v = omega arith in
      let place : (16 * i + v) / 16 ≡ i = omega arith in
      listed_at _ 0 256 (16 * i + v) (omega arith)
      ∙ ap₂ (λ (u j : ℕ). move (box u * 16 ^ j)) value place

  groups-below : (n x : ℕ) → n ≤ 16 → lookups (table_of box move) n x ≡ move (number 16 n (λ i. box (digit 16 x i)))
  unfolding lookups sum
  groups-below zero x h = sym (distributes 0 0 ∙ xor_self (move 0))
  groups-below (suc n) x h =
      let d : ℕ → ℕ = λ i. box (digit 16 x i) in
      ap₂ bit_xor (groups-below n x (omega arith)) (entry_at n (digit 16 x n) h (digit_lt 16 (lit< tt) x n))
      ∙ sym (distributes (number 16 n d) (d n * 16 ^ n))
      ∙ ap move (next-group d (λ i. small (digit 16 x i) (digit_lt 16 (lit< tt) x i)) n)

-- ---- the two tables

module _ (table : List ℕ) (x : ℕ) where
  pub round-lookups : table ≡ table_of s_box permute → lookups table 16 x ≡ permute (substitute s_box x)
  unfolding substitute
  round-lookups e = rw e (groups-below s_box permute s_box-lt permute-xor 16 x (lit≤ tt))

  pub inverse-lookups : table ≡ table_of s_box_inverse permute_back → lookups table 16 x ≡ permute_back (substitute s_box_inverse x)
  unfolding substitute
  inverse-lookups e = rw e (groups-below s_box_inverse permute_back s_box_inverse-lt permute_back-xor 16 x (lit≤ tt))

pub ruleset lookups_in_tables = (round-lookups, inverse-lookups)
