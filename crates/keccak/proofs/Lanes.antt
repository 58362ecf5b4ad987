-- Lanes by their bits. The idea: `HasBits x f` says which bits the lane x has; each operation of the code on lanes is a law of it, and at the end the lane
-- is the one that the definition makes of those bits.
use mathlib.Core.Path.{◌≡◌, refl, sym, ap, ap₂, ◌∙◌}
use mathlib.Core.List.{List}
use Prim.Native.Nat.{ℕ, zero, suc, ◌+◌, ◌-◌, ◌*◌, ◌/◌, ◌%◌, ◌^◌, ◌<◌}
use native.Mathlib.Nat.{mod-lt}
use native.Mathlib.Omega.{arith}
use lib.Bits.{bit_and, bit_or, bit_xor, and_lt, or_lt, xor_lt}
use lib.Dec.{lit<}
use lib.Pow.{pow_pos, shr_le}
use lib.ListN.{get_or}
use Rattle.std.specs.Int.{w64, bit_not}
use Rattle.std.proofs.lemmas.Nat.Bits.{bit_at_not}
use mir.Val.{Fits}
use Rattle.basics.specs.Digits.{bit}
use Rattle.basics.proofs.Digits.{digit_lt, number_is}
use Rattle.basics.proofs.Bits.{bit-and, bit-xor}
use Rattle.keccak.specs.State.{bit_at, lane_of}
use Rattle.keccak.proofs.Rotation.{rotated-bit}

-- the 64 bits of x are f 0, f 1, ..
pub record HasBits (x : ℕ) (f : ℕ → ℕ) : Type 0 where
  pub below : x < 2 ^ 64
  pub each : (z : ℕ) → z < 64 → bit x z ≡ f z

pub own_bits : (x : ℕ) → x < 2 ^ 64 → HasBits x (bit x)
own_bits x l = record { below = l; each = λ z h. refl }

module _ {x y : ℕ} {f g : ℕ → ℕ} (p : HasBits x f) where
  pub xor-bits : HasBits y g → HasBits (bit_xor x y) (λ z. bit_xor (f z) (g z))
  xor-bits q =
      record {
        below = xor_lt 64 x y p.below q.below;
        each = λ z h. bit-xor x y z ∙ ap₂ bit_xor (p.each z h) (q.each z h);
      }

  pub and-bits : HasBits y g → HasBits (bit_and x y) (λ z. f z * g z)
  and-bits q =
      record {
        below = and_lt 64 x y p.below q.below;
        each = λ z h. bit-and x y z ∙ ap₂ (λ (a b : ℕ). a * b) (p.each z h) (q.each z h);
      }

module _ {x : ℕ} {f : ℕ → ℕ} (p : HasBits x f) where
  pub not-bits : HasBits (bit_not w64 x) (λ z. bit_xor (f z) 1)
  not-bits =
      record {
        below = omega arith;
        each = λ z h. bit_at_not w64 x z p.below h ∙ ap (λ (b : ℕ). 1 - b) (p.each z h) ∙ one-less (f z) (rw p.each at (digit_lt 2 (lit< tt) x z));
      }
    where
      one-less : (b : ℕ) → b < 2 → 1 - b ≡ bit_xor b 1
      one-less zero h = refl
      one-less (suc zero) h = refl
      one-less (suc (suc b)) h = absurd (omega arith)

  pub rotated-bits : (n : ℕ) → n < 64 → HasBits (bit_or (x * 2 ^ n % 2 ^ 64) (x / 2 ^ ((64 - n) % 64))) (λ z. f ((z + (64 - n)) % 64))
  rotated-bits n w =
      record {
        below = or_lt 64 _ _ (mod-lt (x * 2 ^ n) (pow_pos 64)) (omega (arith, p.below, shr_le x ((64 - n) % 64)));
        each = λ z h. rotated-bit x n p.below w z h ∙ p.each _ (mod-lt (z + (64 - n)) (lit< tt));
      }

  -- bits that are said in another way
  pub changed : {g : ℕ → ℕ} → ((z : ℕ) → f z ≡ g z) → HasBits x g
  changed e = record { below = p.below; each = λ z h. p.each z h ∙ e z }

  -- the lane is the one with these bits
  pub is-lane : x ≡ lane_of f
  is-lane = sym (number_is 2 (lit< tt) 64 x f p.below (λ z h. sym (p.each z h)))

-- every lane has 64 bits
pub record Lanes (state : List ℕ) : Type 0 where
  pub below : (k : ℕ) → get_or state k 0 < 2 ^ 64

-- what an array of lanes shows
pub lanes_fit : {a : List ℕ} → ((k : ℕ) → Fits w64 (get_or a k 0)) → Lanes a
lanes_fit h = record { below = λ k. (h k).fits }

-- a lane of a state, by where it is
pub lane-at : {a : List ℕ} → Lanes a → (x y k : ℕ) → k ≡ 5 * y + x → HasBits (get_or a k 0) (bit_at a x y)
lane-at l x y k e = rw e (own_bits _ (l.below (5 * y + x)))
