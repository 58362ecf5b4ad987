-- The lanes of each step mapping. The idea: what the code computes of lanes is, bit by bit, what the definition says.
use mathlib.Core.Path.{◌≡◌, refl, sym, ap, ap₂, ◌∙◌}
use mathlib.Core.Bool.{false, ◌&&◌}
use mathlib.Core.List.{List}
use Prim.Native.Nat.{ℕ, ◌+◌, ◌-◌, ◌*◌, ◌/◌, ◌%◌, ◌^◌, ◌<◌}
use native.Mathlib.Nat.{mod-lt}
use native.Mathlib.Omega.{arith}
use lib.Bits.{bit_and, bit_xor}
use Rattle.std.specs.Int.{w64, bit_not, rotate_left}
use lib.Dec.{eqb, lit<}
use lib.ListN.{length, get_or, set, length-set}
use lib.Seq.{get_or-set_same, get_or-set_other}
use borrow.Author.Tests.{eqb-true, eqb-false}
use Rattle.basics.specs.Range.{sum}
use Rattle.basics.proofs.Choice.{by_cases, not-passed, and_left, and_right, if-true, if-false}
use Rattle.basics.proofs.Range.{listed_at, is-listed}
use Rattle.basics.proofs.Digits.{digit_lt}
use Rattle.keccak.specs.State.{bit_at, lane_of, state_of}
use Rattle.keccak.specs.StepMappings.{column_parity, theta_bit, offset, rho_bit, pi_bit, chi_bit, register, rc, round_constant, iota_bit, iota}
use Rattle.keccak.specs.Tables.{offsets, round_constants}
use Rattle.keccak.proofs.Lanes.{HasBits, Lanes, own_bits, xor-bits, and-bits, not-bits, rotated-bits, is-lane, lane-at, changed}

-- ---- a state by its lanes

-- lane k of the state with the bits f
abbrev lane_at : (ℕ → ℕ → ℕ → ℕ) → ℕ → ℕ
lane_at f k = lane_of (f (k % 5) (k / 5))

pub is-state : (f : ℕ → ℕ → ℕ → ℕ) {state : List ℕ} → length state ≡ 25
    → ((x y : ℕ) → x < 5 → y < 5 → get_or state (5 * y + x) 0 ≡ lane_of (f x y)) → state ≡ state_of f
unfolding state_of
is-state f {state} size lane = is-listed (lane_at f) 25 state size (λ k h. place k ∙ lane (k % 5) (k / 5) (omega arith) (omega arith))
  where
    place : (k : ℕ) → get_or state k 0 ≡ get_or state (5 * (k / 5) + k % 5) 0
    place k =
        let e : k ≡ 5 * (k / 5) + k % 5 = omega arith in
        ap (λ (i : ℕ). get_or state i 0) e

module _ {a : List ℕ} (l : Lanes a) where
  -- ---- theta

  pub column-bits : (x : ℕ) {parity : ℕ}
      → parity ≡ bit_xor (bit_xor (bit_xor (bit_xor (get_or a x 0) (get_or a (x + 5) 0)) (get_or a (x + 10) 0)) (get_or a (x + 15) 0)) (get_or a (x + 20) 0)
      → HasBits parity (column_parity a x)
  column-bits x e =
      let first = xor-bits (at 0 x (omega arith)) (at 1 (x + 5) (omega arith)) in
      let third = xor-bits first (at 2 (x + 10) (omega arith)) in
      rw e (xor-bits (xor-bits third (at 3 (x + 15) (omega arith))) (at 4 (x + 20) (omega arith)))
    where
      at : (y k : ℕ) → k ≡ 5 * y + x → HasBits (get_or a k 0) (bit_at a x y)
      at = lane-at l x

  pub theta-lane : (parities : List ℕ) → ((x : ℕ) → x < 5 → HasBits (get_or parities x 0) (column_parity a x)) → (x y : ℕ) {lane : ℕ}
      → lane ≡ bit_xor (get_or a (5 * y + x) 0) (bit_xor (get_or parities ((x + 4) % 5) 0) (rotate_left w64 (get_or parities ((x + 1) % 5) 0) 1))
      → lane ≡ lane_of (theta_bit a x y)
  theta-lane parities column x y e =
      let before = column ((x + 4) % 5) (mod-lt (x + 4) (lit< tt)) in
      let after = column ((x + 1) % 5) (mod-lt (x + 1) (lit< tt)) in
      e ∙ is-lane (xor-bits (lane-at l x y _ refl) (xor-bits before (rotated-bits after 1 (lit< tt))))

  -- ---- rho

  pub rho-lane : (table : List ℕ) → table ≡ offsets → (x y : ℕ) → x < 5 → y < 5 → {lane : ℕ}
      → lane ≡ rotate_left w64 (get_or a (5 * y + x) 0) (get_or table (5 * y + x) 0) → lane ≡ lane_of (rho_bit a x y)
  unfolding offsets
  rho-lane table held x y h k e =
      e ∙ is-lane (rotated-bits (lane-at l x y _ refl) (get_or table (5 * y + x) 0 % 64) (mod-lt (get_or table (5 * y + x) 0) (lit< tt))) ∙ by
    where
      offset_at : get_or table (5 * y + x) 0 % 64 ≡ offset x y % 64
      offset_at =
          let m : (5 * y + x) % 5 ≡ x = omega arith in
          let d : (5 * y + x) / 5 ≡ y = omega arith in
          ap (λ (t : List ℕ). get_or t (5 * y + x) 0 % 64) held
          ∙ ap (λ (n : ℕ). n % 64) (listed_at (λ i. offset (i % 5) (i / 5) % 64) 0 25 (5 * y + x) (omega arith))
          ∙ ap₂ (λ (i j : ℕ). offset i j % 64 % 64) m d
          ∙ omega arith

      by : lane_of (λ z. bit_at a x y ((z + (64 - get_or table (5 * y + x) 0 % 64)) % 64)) ≡ lane_of (rho_bit a x y)
      by = ap (λ (n : ℕ). lane_of (λ z. bit_at a x y ((z + (64 - n)) % 64))) offset_at

  -- ---- pi and chi

  pub pi-lane : (x y : ℕ) {lane : ℕ} → lane ≡ get_or a (5 * x + (x + 3 * y) % 5) 0 → lane ≡ lane_of (pi_bit a x y)
  pi-lane x y e = e ∙ is-lane (lane-at l ((x + 3 * y) % 5) x _ refl)

  pub chi-lane : (x y : ℕ) {lane : ℕ}
      → lane ≡ bit_xor (get_or a (5 * y + x) 0) (bit_and (bit_not w64 (get_or a (5 * y + (x + 1) % 5) 0)) (get_or a (5 * y + (x + 2) % 5) 0))
      → lane ≡ lane_of (chi_bit a x y)
  chi-lane x y e =
      let complement = not-bits (lane-at l ((x + 1) % 5) y _ refl) in
      e ∙ is-lane (xor-bits (lane-at l x y _ refl) (and-bits complement (lane-at l ((x + 2) % 5) y _ refl)))

-- ---- iota

pub constant-at : (table : List ℕ) → table ≡ round_constants → (i : ℕ) → i < 24 → get_or table i 0 ≡ round_constant i
unfolding round_constants
constant-at table e i h = ap (λ (t : List ℕ). get_or t i 0) e ∙ listed_at round_constant 0 24 i h

constant-lt : (i : ℕ) → round_constant i < 2 ^ 64
unfolding round_constant sum
constant-lt i = omega (arith, bound 0, bound 1, bound 2, bound 3, bound 4, bound 5, bound 6)
  where
    bound : (j : ℕ) → rc (j + 7 * i) < 2
    bound j = unfold rc in (digit_lt 2 (lit< tt) (register ((j + 7 * i) % 255)) 0)

-- every lane but the first is at another place than x = 0 and y = 0
elsewhere : (k : ℕ) → (k ≡ 0 → ⊥) → (eqb (k % 5) 0 && eqb (k / 5) 0) ≡ false
elsewhere k n =
    not-passed _ (λ t. n (omega (arith, eqb-true (k % 5) 0 (and_left _ _ t), eqb-true (k / 5) 0 (and_right (eqb (k % 5) 0) _ t))))

pub iota-state : {a : List ℕ} → Lanes a → (i constant : ℕ) → length a ≡ 25 → constant ≡ round_constant i
    → set a 0 (bit_xor (get_or a 0 0) constant) ≡ iota i a
unfolding iota state_of
iota-state {a} l i constant size e =
    is-listed (lane_at (iota_bit i a)) 25 _ (length-set a 0 _ ∙ size)
    (λ k h. by_cases (eqb k 0) (λ t. rw (eqb-true k 0 t) (get_or-set_same a 0 _ 0 (omega (arith, size)) ∙ first)) (λ t. other k (eqb-false k 0 t)))
  where
    first : bit_xor (get_or a 0 0) constant ≡ lane_at (iota_bit i a) 0
    first = rw e (is-lane (changed (xor-bits (lane-at l 0 0 0 refl) (own_bits (round_constant i) (constant-lt i))) (λ z. sym (if-true _ _ refl))))

    other : (k : ℕ) → (k ≡ 0 → ⊥) → get_or (set a 0 (bit_xor (get_or a 0 0) constant)) k 0 ≡ lane_at (iota_bit i a) k
    other k n =
        get_or-set_other a 0 k _ 0 n ∙ is-lane (changed (lane-at l (k % 5) (k / 5) k (omega arith)) (λ z. sym (if-false _ _ (elsewhere k n))))
