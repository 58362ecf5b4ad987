-- A sponge that takes its message a byte at a time, so that no message has to lie in one piece. The lanes have the bytes of the block in hand added, and
-- `at` says how many they are. A full block is permuted when the next byte comes.
use Rattle.std.specs.Prelude.{ℕ, ◌+◌, ◌*◌, ◌/◌, ◌%◌, ◌^◌, List, [], ◌∷◌, eqb, leb, get_or, set}
use Rattle.std.specs.Int.Bits.{bit_xor}
use Rattle.basics.specs.Choice.{when◌then◌else◌}
use Rattle.keccak.specs.Permutation.{keccak_f}
use Rattle.sponge.specs.declared.Sponge.{Sponge}
use Rattle.sponge.specs.Sponge.{zero_state}

-- the bytes of a block: the rate of cSHAKE128
abbrev pub rate : ℕ
rate = 168

abbrev pub sponge_of : List ℕ → ℕ → Sponge
sponge_of lanes at = record { lanes = lanes; at = at }

-- nothing taken yet
abbrev pub fresh : Sponge
fresh = sponge_of zero_state 0

-- byte i of the state with a byte added
unfoldable pub with_byte : List ℕ → ℕ → ℕ → List ℕ
with_byte lanes i byte = set lanes (i / 8) (bit_xor (get_or lanes (i / 8) 0) (byte * 256 ^ (i % 8)))

-- a full block permuted
unfoldable pub permuted_if_full : Sponge → Sponge
permuted_if_full s = when leb rate s.at then sponge_of (keccak_f s.lanes) 0 else s

-- one byte more
unfoldable pub taken : Sponge → ℕ → Sponge
taken s byte = sponge_of (with_byte (permuted_if_full s).lanes (permuted_if_full s).at byte) ((permuted_if_full s).at + 1)

unfoldable pub taken_all : Sponge → List ℕ → Sponge
taken_all s [] = s
taken_all s (byte ∷ bytes) = taken_all (taken s byte) bytes

-- zeros to the end of the block in hand
unfoldable pub filled : Sponge → Sponge
filled s = when eqb s.at 0 then s else sponge_of s.lanes rate

-- the padding and the last permutation: the state to squeeze
unfoldable pub finished : Sponge → ℕ → List ℕ
finished s suffix = keccak_f (with_byte (with_byte (permuted_if_full s).lanes (permuted_if_full s).at suffix) 167 0x80)
