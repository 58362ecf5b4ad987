-- Decryption undoes encryption, and encryption decryption. The idea: one round back undoes one round; then by induction on the rounds.
use mathlib.Core.Path.{◌≡◌, refl, ap, ◌∙◌}
use Prim.Native.Nat.{ℕ, zero, suc, ◌^◌, ◌<◌}
use native.Mathlib.Omega.{arith}
use lib.Bits.{bit_xor, xor_lt}
use lib.Dec.{lit<}
use Rattle.basics.proofs.Bits.{xor-xor}
use Rattle.present.specs.Present.{s_box, s_box_inverse, substitute, permute, permute_back, round_key, key_after, state_after, encrypt_block, block_before}
use Rattle.present.specs.Present.{decrypt_block}
use Rattle.present.proofs.Boxes.{s_box-lt, s_box_inverse-lt, s_box-back, s_box-forth, substitute-lt, substitute-back}
use Rattle.present.proofs.Permutation.{permute-lt, permute_back-lt, permute-back, permute-forth}
use Rattle.present.proofs.KeyRegister.{round_key-lt}

-- ---- one round with the round key k, and the same way back

abbrev forth : ℕ → ℕ → ℕ
forth k x = permute (substitute s_box (bit_xor x k))

abbrev back : ℕ → ℕ → ℕ
back k x = bit_xor (substitute s_box_inverse (permute_back x)) k

module _ (k x : ℕ) (lk : k < 2 ^ 64) (lx : x < 2 ^ 64) where
  back-lt : back k x < 2 ^ 64
  back-lt = xor_lt 64 _ k (substitute-lt s_box_inverse s_box_inverse-lt (permute_back x)) lk

  back-forth : back k (forth k x) ≡ x
  back-forth =
      let y : ℕ = bit_xor x k in
      ap (λ (z : ℕ). bit_xor (substitute s_box_inverse z) k) (permute-back (substitute s_box y) (substitute-lt s_box s_box-lt y))
      ∙ ap (λ (z : ℕ). bit_xor z k) (substitute-back s_box s_box-lt y s_box_inverse s_box-back (xor_lt 64 x k lx lk))
      ∙ xor-xor x k

  forth-back : forth k (back k x) ≡ x
  forth-back =
      let y : ℕ = permute_back x in
      ap (λ (z : ℕ). permute (substitute s_box z)) (xor-xor (substitute s_box_inverse y) k)
      ∙ ap permute (substitute-back s_box_inverse s_box_inverse-lt y s_box s_box-forth (permute_back-lt x))
      ∙ permute-forth x lx

-- ---- i rounds

state_after-lt : (key block i : ℕ) → block < 2 ^ 64 → state_after key block i < 2 ^ 64
unfolding state_after
state_after-lt key block zero l = l
state_after-lt key block (suc i) l = permute-lt _

module _ (key : ℕ) (lk : key < 2 ^ 128) where
  rounds-back : (block i : ℕ) → block < 2 ^ 64 → i < 32 → block_before key (state_after key block i) i ≡ block
  unfolding state_after block_before
  rounds-back block zero l h = refl
  rounds-back block (suc i) l h =
      let undone = back-forth _ (state_after key block i) (round_key-lt key i lk (omega arith)) (state_after-lt key block i l) in
      ap (λ (x : ℕ). block_before key x i) undone ∙ rounds-back block i l (omega arith)

  rounds-forth : (state i : ℕ) → state < 2 ^ 64 → i < 32 → state_after key (block_before key state i) i ≡ state
  unfolding state_after block_before
  rounds-forth state zero l h = refl
  rounds-forth state (suc i) l h =
      let k : ℕ = round_key (key_after key i) in
      let m : k < 2 ^ 64 = round_key-lt key i lk (omega arith) in
      ap (forth k) (rounds-forth (back k state) i (back-lt k state m l) (omega arith)) ∙ forth-back k state m l

  before-lt : (state i : ℕ) → state < 2 ^ 64 → i < 32 → block_before key state i < 2 ^ 64
  unfolding block_before
  before-lt state zero l h = l
  before-lt state (suc i) l h =
      let k = round_key (key_after key i) in
      before-lt (back k state) i (back-lt k state (round_key-lt key i lk (omega arith)) l) (omega arith)

-- ---- the laws

abbrev last_key : ℕ → ℕ
last_key key = round_key (key_after key 31)

added-lt : (key x : ℕ) → key < 2 ^ 128 → x < 2 ^ 64 → bit_xor x (last_key key) < 2 ^ 64
added-lt key x lk lx = xor_lt 64 x (last_key key) lx (round_key-lt key 31 lk (lit< tt))

pub encrypt-lt : (key block : ℕ) → key < 2 ^ 128 → block < 2 ^ 64 → encrypt_block key block < 2 ^ 64
unfolding encrypt_block
encrypt-lt key block lk lb = added-lt key (state_after key block 31) lk (state_after-lt key block 31 lb)

pub decrypt-encrypt : (key block : ℕ) → key < 2 ^ 128 → block < 2 ^ 64 → decrypt_block key (encrypt_block key block) ≡ block
unfolding encrypt_block decrypt_block
decrypt-encrypt key block lk lb =
    ap (λ (x : ℕ). block_before key x 31) (xor-xor (state_after key block 31) (last_key key)) ∙ rounds-back key lk block 31 lb (lit< tt)

pub encrypt-decrypt : (key block : ℕ) → key < 2 ^ 128 → block < 2 ^ 64 → encrypt_block key (decrypt_block key block) ≡ block
unfolding encrypt_block decrypt_block
encrypt-decrypt key block lk lb =
    ap (λ (x : ℕ). bit_xor x (last_key key)) (rounds-forth key lk (bit_xor block (last_key key)) 31 (added-lt key block lk lb) (lit< tt))
    ∙ xor-xor block (last_key key)

pub decrypt-lt : (key block : ℕ) → key < 2 ^ 128 → block < 2 ^ 64 → decrypt_block key block < 2 ^ 64
unfolding decrypt_block
decrypt-lt key block lk lb = before-lt key lk (bit_xor block (last_key key)) 31 (added-lt key block lk lb) (lit< tt)
