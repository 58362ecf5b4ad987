-- Decryption with the permutation back at the end of a round. The idea: the permutation back distributes over the key addition, so that the state can
-- be held permuted back.
use mathlib.Core.Path.{◌≡◌, sym, ap, ap₂, ◌∙◌}
use Prim.Native.Nat.{ℕ, suc}
use lib.Bits.{bit_xor}
use Rattle.present.specs.Present.{s_box_inverse, substitute, permute_back, round_key, key_after, block_before, decrypt_block}
use Rattle.present.proofs.Permutation.{permute_back-xor}

-- the state is the permutation back of one from which i + 1 rounds back decrypt the block
pub record Held (key block state i : ℕ) : Type 0 where
  pub from : ℕ
  pub moved : permute_back from ≡ state
  pub leads : block_before key from (suc i) ≡ decrypt_block key block

module _ {key block : ℕ} where
  pub held_first : {k s : ℕ} → k ≡ round_key (key_after key 31) → s ≡ permute_back (bit_xor block k) → Held key block s 30
  unfolding decrypt_block
  held_first {k = k} e m = record { from = bit_xor block k; moved = sym m; leads = ap (λ (x : ℕ). block_before key (bit_xor block x) 31) e }

  pub held_next : {s t u i : ℕ} → Held key block s (suc i) → t ≡ permute_back (substitute s_box_inverse s)
      → u ≡ permute_back (round_key (key_after key (suc i)))
      → Held key block (bit_xor t u) i
  unfolding block_before
  held_next {i = i} h et eu =
      let boxed : ℕ = substitute s_box_inverse (permute_back h.from) in
      let k : ℕ = round_key (key_after key (suc i)) in
      record {
        from = bit_xor boxed k;
        moved = permute_back-xor boxed k ∙ ap₂ bit_xor (ap (λ (x : ℕ). permute_back (substitute s_box_inverse x)) h.moved ∙ sym et) (sym eu);
        leads = h.leads;
      }

  pub held-last : {s t k : ℕ} → Held key block s 0 → t ≡ substitute s_box_inverse s → k ≡ round_key (key_after key 0) → bit_xor t k ≡ decrypt_block key block
  unfolding block_before
  held-last h et ek = ap₂ bit_xor (et ∙ ap (substitute s_box_inverse) (sym h.moved)) ek ∙ h.leads
