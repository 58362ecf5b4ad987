-- A hash is a number of 128 bits: it has sixteen bytes.
use Prim.Native.Nat.{ℕ, ◌^◌, ◌<◌}
use lib.Dec.{lit<}
use Rattle.basics.proofs.Digits.{number_lt}
use Rattle.cshake.proofs.Outputs.{cshake-bytes}
use Rattle.token_hash.specs.TokenHash.{number_of_bytes, token_hash}

pub hash-lt : (token : ℕ) → token_hash token < 2 ^ 128
unfolding token_hash number_of_bytes
hash-lt token = number_lt 256 (lit< tt) 16 _ (λ i. cshake-bytes _ _ _ _ _)
