-- When the state is permuted: while bytes are taken, before the byte after a full block; while they are given, likewise. The idea: the test that decides.
use mathlib.Core.Path.{◌≡◌, sym, ap, ◌∙◌}
use mathlib.Core.List.{List}
use Prim.Native.Nat.{ℕ, suc, ◌+◌, ◌/◌, ◌%◌, ◌≤◌, ◌<◌}
use native.Mathlib.Omega.{arith}
use lib.Dec.{leb, ltb, lit<}
use borrow.Author.Tests.{ltb-true, ltb-false, leb-true, leb-false, le-leb, lt-leb}
use Rattle.basics.proofs.Choice.{by_cases, if-true, if-false, if-both}
use Rattle.keccak.specs.Permutation.{keccak_f}
use Rattle.sponge.specs.declared.Sponge.{Sponge}
use Rattle.sponge.specs.Sponge.{permuted_times}
use Rattle.sponge.specs.Streaming.{rate, sponge_of, with_byte, permuted_if_full, finished}

pub not_full : (s : Sponge) → s.at < rate → permuted_if_full s ≡ s
unfolding permuted_if_full
not_full s h = if-false _ _ (lt-leb rate s.at h)

pub full-permuted : (s : Sponge) → rate ≤ s.at → permuted_if_full s ≡ sponge_of (keccak_f s.lanes) 0
unfolding permuted_if_full
full-permuted s h = if-true _ _ (le-leb rate s.at h)

-- a byte fits then
pub byte_fits : (s : Sponge) → (permuted_if_full s).at < rate
unfolding permuted_if_full
byte_fits s = if-both (λ (t : Sponge). t.at < rate) (leb rate s.at) _ s (λ e. lit< tt) (λ e. leb-false rate s.at e)

pub place-after : (s : Sponge) → s.at ≤ rate → (permuted_if_full s).at ≡ s.at % rate
unfolding permuted_if_full
place-after s h =
    if-both (λ (t : Sponge). t.at ≡ s.at % rate) (leb rate s.at) _ s (λ e. omega (arith, leb-true rate s.at e))
    (λ e. omega (arith, leb-false rate s.at e))

pub place : {s t : Sponge} → s ≡ t → s.at ≡ t.at
place e = ap (λ (u : Sponge). u.at) e

-- the padding, step by step; docs/PROOF_NOTES.md names it
pub finished-steps : (s : Sponge) (suffix : ℕ) {t : Sponge} {one both : List ℕ}
    → t ≡ permuted_if_full s → one ≡ with_byte t.lanes t.at suffix → both ≡ with_byte one 167 0x80 → keccak_f both ≡ finished s suffix
unfolding finished
finished-steps s suffix e f g =
    ap keccak_f (g ∙ ap (λ (l : List ℕ). with_byte l 167 0x80) (f ∙ ap (λ (u : Sponge). with_byte u.lanes u.at suffix) e))

-- ---- bytes given

-- after byte i of a state is given, the lanes are those that give the next one
pub next-given : (state : List ℕ) (i : ℕ)
    → permuted_if_full (sponge_of (permuted_times (i / rate) state) (i % rate + 1)) ≡ sponge_of (permuted_times ((i + 1) / rate) state) ((i + 1) % rate)
unfolding permuted_times
next-given state i = by_cases (ltb (i % rate + 1) rate) (λ t. same (ltb-true _ _ t)) (λ t. permuted (ltb-false _ _ t))
  where
    given : Sponge
    given = sponge_of (permuted_times (i / rate) state) (i % rate + 1)

    same : i % rate + 1 < rate → permuted_if_full given ≡ sponge_of (permuted_times ((i + 1) / rate) state) ((i + 1) % rate)
    same h =
        let d : (i + 1) / rate ≡ i / rate = omega arith in
        let m : (i + 1) % rate ≡ i % rate + 1 = omega arith in
        not_full given h ∙ sym (rw (d, m))

    permuted : rate ≤ i % rate + 1 → permuted_if_full given ≡ sponge_of (permuted_times ((i + 1) / rate) state) ((i + 1) % rate)
    permuted h =
        let d : (i + 1) / rate ≡ suc (i / rate) = omega arith in
        let m : (i + 1) % rate ≡ 0 = omega arith in
        full-permuted given h ∙ sym (rw (d, m))
