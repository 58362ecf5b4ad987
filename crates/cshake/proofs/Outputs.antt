-- What cSHAKE128 gives are bytes, since a sponge gives them.
use Prim.Native.Nat.{ℕ}
use mathlib.Core.List.{List}
use Rattle.basics.proofs.Choice.{if-both}
use Rattle.sponge.proofs.Bytes.{Bytes}
use Rattle.sponge.proofs.Outputs.{sponge-bytes}
use Rattle.cshake.specs.CShake.{shake128, c_shake128}

pub cshake-bytes : (x : List ℕ) (l : ℕ) (n s : List ℕ) → Bytes (c_shake128 x l n s)
unfolding c_shake128 shake128
cshake-bytes x l n s = if-both Bytes _ _ _ (λ e. sponge-bytes _ _ _ _) (λ e. sponge-bytes _ _ _ _)
