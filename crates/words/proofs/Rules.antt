-- The rules of refusal, for one word. The idea: whatever a rule is, it lets a blank word pass and a word that loses a bit not; programming asks no more.
use mathlib.Core.Path.{◌≡◌, refl, sym, ap}
use mathlib.Core.Bool.{true, false, not, ◌&&◌}
use Prim.Native.Nat.{ℕ, ◌≤◌, ◌<◌}
use native.Mathlib.Nat.{le_refl}
use native.Mathlib.Omega.{arith}
use lib.Bits.{bit_or, or_zero_l}
use lib.Dec.{eqb}
use borrow.Author.Tests.{eqb-true, eqb-false, ne_eqb, not-false}
use Rattle.basics.specs.Digits.{bit}
use Rattle.basics.proofs.Choice.{by_cases}
use Rattle.basics.proofs.Range.{none-at, none_below}
use Rattle.basics.proofs.Digits.{digit_lt}
use Rattle.basics.proofs.Bits.{bit-or, or-covered}
use Rattle.words.specs.declared.Rule.{Rule}
use Rattle.words.specs.declared.Rule.TheVariants.{KeepBits, BlankOnly}
use Rattle.words.specs.Programming.{loses_bit, refuses}

-- ---- a lost bit

bit-lt : (x i : ℕ) → bit x i < 2
bit-lt x i = digit_lt 2 (omega arith) x i

-- no bit is lost exactly where each of the 16 bits is kept
pub keeps-bit : (a b i : ℕ) → loses_bit a b ≡ false → i < 16 → bit a i ≤ bit b i
unfolding loses_bit
keeps-bit a b i e h =
    by_cases (eqb (bit a i) 1)
    (λ t. let n : (eqb (bit a i) 1 && eqb (bit b i) 0) ≡ false = none-at 16 _ e i h in omega (arith, eqb-false (bit b i) 0 (rw t at n)))
    (λ t. omega (arith, bit-lt a i, eqb-false (bit a i) 1 t))

pub bits-kept : (a b : ℕ) → ((i : ℕ) → i < 16 → bit a i ≤ bit b i) → loses_bit a b ≡ false
unfolding loses_bit
bits-kept a b h = none_below 16 _ one
  where
    one : (i : ℕ) → i < 16 → (eqb (bit a i) 1 && eqb (bit b i) 0) ≡ false
    one i l =
        by_cases (eqb (bit a i) 1) (λ t. rw (t, ne_eqb (bit b i) 0 (λ z. omega (arith, h i l, eqb-true (bit a i) 1 t)))) (λ t. rw t)

pub loses-none : (a : ℕ) → loses_bit a a ≡ false
loses-none a = bits-kept a a (λ i h. le_refl _)

-- as code tests it: `a | b == b`
pub or-keeps : (a b : ℕ) → bit_or a b ≡ b → loses_bit a b ≡ false
or-keeps a b e = bits-kept a b (λ i h. omega (arith, bit-or a b i, ap (λ (x : ℕ). bit x i) e))

pub keeps-or : (a b : ℕ) → a < 65536 → loses_bit a b ≡ false → bit_or a b ≡ b
keeps-or a b l e = or-covered 16 a b l (λ i h. keeps-bit a b i e h)

-- ---- the rules

blank-loses : (v : ℕ) → loses_bit 0 v ≡ false
blank-loses v = or-keeps 0 v (or_zero_l v)

-- `BlankOnly` takes a value in a blank word alone
pub blank-passed : (s v : ℕ) → refuses BlankOnly s v ≡ false → s ≡ 0
unfolding refuses
blank-passed s v e = eqb-true s 0 (not-false _ e)

-- `KeepBits` refuses no word that loses no bit
pub kept-passes : (s v : ℕ) → loses_bit s v ≡ false → refuses KeepBits s v ≡ false
unfolding refuses
kept-passes s v e = e

-- All that the laws of programming ask of a rule: a blank word takes every value, and a word that takes its value loses no bit.
pub blank-passes : (rule : Rule) (v : ℕ) → refuses rule 0 v ≡ false
unfolding refuses
blank-passes KeepBits v = blank-loses v
blank-passes BlankOnly v = refl

pub passed-keeps : (rule : Rule) (s v : ℕ) → refuses rule s v ≡ false → loses_bit s v ≡ false
unfolding refuses
passed-keeps KeepBits s v e = e
passed-keeps BlankOnly s v e = rw (blank-passed s v e) (blank-loses v)

-- ---- as code tests them

pub or-refuses : (s v : ℕ) → s < 65536 → not (eqb (bit_or s v) v) ≡ refuses KeepBits s v
unfolding refuses
or-refuses s v l =
    by_cases (eqb (bit_or s v) v) (λ t. rw (t, or-keeps s v (eqb-true _ _ t))) (λ t. rw t (sym (lost (eqb-false _ _ t))))
  where
    lost : (bit_or s v ≡ v → ⊥) → loses_bit s v ≡ true
    lost h = by_cases (loses_bit s v) (λ e. e) (λ e. absurd (h (keeps-or s v l e)))

pub blank-refuses : (s v : ℕ) → not (eqb s 0) ≡ refuses BlankOnly s v
unfolding refuses
blank-refuses s v = refl

pub ruleset rule_tests = (or-refuses, blank-refuses)
