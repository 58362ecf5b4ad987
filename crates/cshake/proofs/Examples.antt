-- Encodings computed from the definitions.
use mathlib.Core.Path.{◌≡◌, refl}
use mathlib.Core.List.{List, [], ◌∷◌, ◌++◌}
use Prim.Native.Nat.{ℕ}
use lib.ListN.{length, take}
use Rattle.basics.specs.Choice.{when◌then◌else◌}
use Rattle.basics.specs.Range.{listed}
use Rattle.cshake.specs.Encoding.{smallest, byte_count, left_encode, encode_string, bytepad}

left-zero : left_encode 0 ≡ 1 ∷ 0 ∷ []
unfolding left_encode byte_count smallest listed when◌then◌else◌
left-zero = refl

left-168 : left_encode 168 ≡ 1 ∷ 0xA8 ∷ []
unfolding left_encode byte_count smallest listed when◌then◌else◌
left-168 = refl

left-256 : left_encode 256 ≡ 2 ∷ 1 ∷ 0 ∷ []
unfolding left_encode byte_count smallest listed when◌then◌else◌
left-256 = refl

string-empty : encode_string [] ≡ 1 ∷ 0 ∷ []
unfolding encode_string left_encode byte_count smallest listed when◌then◌else◌
string-empty = refl

-- the prefix of a token's hash: an empty name and "LC_CTRL"
prefix : List ℕ
prefix = bytepad (encode_string [] ++ encode_string (0x4C ∷ 0x43 ∷ 0x5F ∷ 0x43 ∷ 0x54 ∷ 0x52 ∷ 0x4C ∷ [])) 168

prefix-starts : take 14 prefix ≡ 0x01 ∷ 0xA8 ∷ 0x01 ∷ 0x00 ∷ 0x01 ∷ 0x38 ∷ 0x4C ∷ 0x43 ∷ 0x5F ∷ 0x43 ∷ 0x54 ∷ 0x52 ∷ 0x4C ∷ 0x00 ∷ []
unfolding prefix bytepad encode_string left_encode byte_count smallest listed when◌then◌else◌
prefix-starts = refl

prefix-length : length prefix ≡ 168
unfolding prefix bytepad encode_string left_encode byte_count smallest listed when◌then◌else◌
prefix-length = refl
