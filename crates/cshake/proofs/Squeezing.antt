-- What the sponge gives is SHAKE128 and cSHAKE128. The idea: whatever is taken are bytes, and then the sponge is that of the standard.
use mathlib.Core.Path.{◌≡◌, sym, ap, ◌∙◌}
use mathlib.Core.Bool.{true, false, ◌&&◌}
use mathlib.Core.List.{List, ◌++◌}
use Prim.Native.Nat.{ℕ, ◌^◌, ◌<◌}
use lib.Dec.{eqb, lit<}
use lib.ListN.{length}
use Rattle.basics.proofs.Choice.{if-true, if-false}
use Rattle.sponge.specs.declared.Sponge.{Sponge}
use Rattle.sponge.specs.Sponge.{squeezed, sponge}
use Rattle.sponge.specs.Streaming.{fresh, taken_all, finished}
use Rattle.sponge.proofs.Bytes.{Bytes, below-append}
use Rattle.sponge.proofs.Streams.{finished-is}
use Rattle.cshake.specs.Encoding.{encode_string, bytepad}
use Rattle.cshake.specs.CShake.{shake128, c_shake128}
use Rattle.cshake.proofs.Encoding.{string_bytes, bytepad-bytes}
use Rattle.cshake.proofs.Taking.{all-taken, then-all}

-- finished and squeezed
given : (m : List ℕ) (suffix d : ℕ) → Bytes m → suffix < 256 → {all : Sponge} {state out : List ℕ} → all ≡ taken_all fresh m → state ≡ finished all suffix
    → out ≡ squeezed 168 state d → out ≡ sponge 168 suffix m d
given m suffix d bytes fits all state out =
    out ∙ ap (λ (lanes : List ℕ). squeezed 168 lanes d) (state ∙ ap (λ (s : Sponge). finished s suffix) all) ∙ finished-is m bytes suffix fits d

pub shake-is : (message : List ℕ) (d : ℕ) → Bytes message → {start all : Sponge} {state out : List ℕ} → start ≡ fresh → all ≡ taken_all start message
    → state ≡ finished all 0x1F → out ≡ squeezed 168 state d → out ≡ shake128 message d
unfolding shake128
shake-is message d bytes start all = given message _ d bytes (lit< tt) (all-taken message start all)

-- what stands before the message
abbrev pub front : List ℕ → List ℕ → List ℕ
front n s = bytepad (encode_string n ++ encode_string s) 168

pub front_bytes : (n s : List ℕ) → Bytes n → length n < 2 ^ 64 → Bytes s → length s < 2 ^ 64 → Bytes (front n s)
front_bytes n s bn ln bs ls = bytepad-bytes _ 168 (lit< tt) (below-append 256 (encode_string n) (encode_string s) (string_bytes n ln bn) (string_bytes s ls bs))

module _ (x : List ℕ) (l : ℕ) (n s : List ℕ) where
  pub cshake-empty : (eqb (length n) 0 && eqb (length s) 0) ≡ true → shake128 x l ≡ c_shake128 x l n s
  unfolding c_shake128
  cshake-empty t = sym (if-true _ _ t)

  pub cshake-is : (eqb (length n) 0 && eqb (length s) 0) ≡ false → Bytes (front n s) → Bytes x → {start all : Sponge} {state out : List ℕ}
      → start ≡ taken_all fresh (front n s) → all ≡ taken_all start x → state ≡ finished all 0x04 → out ≡ squeezed 168 state l → out ≡ c_shake128 x l n s
  unfolding c_shake128
  cshake-is t bf bx start all state out =
      given (front n s ++ x) _ l (below-append 256 (front n s) x bf bx) (lit< tt) (then-all fresh (front n s) x start all) state out ∙ sym (if-false _ _ t)
