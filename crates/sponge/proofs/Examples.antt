-- The padding of FIPS 202's table in B.2, computed, and the claim in bits for a message that it leaves two bytes.
use mathlib.Core.Path.{◌≡◌, refl}
use mathlib.Core.List.{List, [], ◌∷◌, ◌++◌}
use Prim.Native.Nat.{ℕ, zero, suc, ◌<◌}
use lib.Dec.{lit≤, lit<}
use lib.ListN.{length, get_or}
use Rattle.basics.specs.Choice.{when◌then◌else◌}
use Rattle.basics.specs.Range.{listed}
use Rattle.sponge.specs.Sponge.{padding}
use Rattle.sponge.specs.PaddingBits.{bits_of, pad101, suffix_of}
use Rattle.sponge.proofs.Padding.{padding-in-bits}

-- "q = 1: M || 0x9F", "q = 2: M || 0x1F80", and a whole block behind whole blocks
pub paddings : (padding 168 0x1F 167 ≡ 0x9F ∷ []) × (padding 168 0x1F 166 ≡ 0x1F ∷ 0x80 ∷ []) × (length (padding 168 0x1F 168) ≡ 168)
unfolding padding listed when◌then◌else◌
paddings = (refl, refl, refl)

-- "1111", the domain of SHAKE128
abbrev domain : List ℕ
domain = 1 ∷ 1 ∷ 1 ∷ 1 ∷ []

bits_small : (i : ℕ) → get_or domain i 0 < 2
bits_small zero = lit< tt
bits_small (suc zero) = lit< tt
bits_small (suc (suc zero)) = lit< tt
bits_small (suc (suc (suc zero))) = lit< tt
bits_small (suc (suc (suc (suc i)))) = lit< tt

pub in-bits : bits_of (padding 168 (suffix_of domain) 166) ≡ domain ++ pad101 1344 1332
in-bits = padding-in-bits.bits 168 166 domain (lit< tt) (lit≤ tt) bits_small
