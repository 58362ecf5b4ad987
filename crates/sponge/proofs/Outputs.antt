-- What a sponge gives are bytes: each is a digit to the base 256.
use Prim.Native.Nat.{ℕ}
use mathlib.Core.List.{List}
use lib.Dec.{lit<}
use Rattle.basics.proofs.Digits.{digit_lt}
use Rattle.sponge.specs.Sponge.{squeezed, sponge}
use Rattle.sponge.proofs.Bytes.{Bytes, bytes-listed}

squeezed-bytes : (rate : ℕ) (state : List ℕ) (d : ℕ) → Bytes (squeezed rate state d)
unfolding squeezed
squeezed-bytes rate state d = bytes-listed _ d (λ i. digit_lt 256 (lit< tt) _ _)

pub sponge-bytes : (rate suffix : ℕ) (message : List ℕ) (d : ℕ) → Bytes (sponge rate suffix message d)
unfolding sponge
sponge-bytes rate suffix message d = squeezed-bytes rate _ d
