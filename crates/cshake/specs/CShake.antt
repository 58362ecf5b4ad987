-- SHAKE128 (FIPS 202, section 6.2) and cSHAKE128 (NIST SP 800-185, section 3.3), over strings of bytes, with output lengths in bytes.
use Rattle.std.specs.Prelude.{ℕ, ◌&&◌, List, ◌++◌, eqb, length}
use Rattle.basics.specs.Choice.{when◌then◌else◌}
use Rattle.sponge.specs.Sponge.{sponge}
use Rattle.cshake.specs.Encoding.{encode_string, bytepad}

-- "KECCAK[256]" has a capacity of 256 bits, which leaves a rate of 1344 bits: 168 bytes.
-- "SHAKE128(M, d) = KECCAK[256](M || 1111, d)": the bits 1111 and the first bit of the padding make 0x1F
unfoldable pub shake128 : List ℕ → ℕ → List ℕ
shake128 message d = sponge 168 0x1F message d

-- "If N = "" and S = "": return SHAKE128(X, L); else: return KECCAK[256](bytepad(encode_string(N) || encode_string(S), 168) || X || 00, L)": the bits 00
-- and the first bit of the padding make 0x04
unfoldable pub c_shake128 : List ℕ → ℕ → List ℕ → List ℕ → List ℕ
c_shake128 x l n s =
    when eqb (length n) 0 && eqb (length s) 0 then shake128 x l
    else sponge 168 0x04 (bytepad (encode_string n ++ encode_string s) 168 ++ x) l
