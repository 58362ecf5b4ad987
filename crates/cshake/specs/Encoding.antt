-- The string encodings of NIST SP 800-185 (section 2.3), over strings of bytes.
use Rattle.std.specs.Prelude.{ℕ, zero, suc, ◌*◌, ◌-◌, ◌%◌, ◌^◌, Bool, List, ◌∷◌, ◌++◌, ltb, length}
use Rattle.basics.specs.Choice.{when◌then◌else◌}
use Rattle.basics.specs.Range.{listed}
use Rattle.basics.specs.Digits.{digit}

-- the smallest number from i on that passes the test; i + n where the n numbers before it fail
unfoldable pub smallest : (ℕ → Bool) → ℕ → ℕ → ℕ
smallest test i zero = i
smallest test i (suc n) = when test i then i else smallest test (suc i) n

-- "Let n be the smallest positive integer for which 2^(8n) > x." It is at most x + 1.
unfoldable pub byte_count : ℕ → ℕ
byte_count x = smallest (λ n. ltb x (2 ^ (8 * n))) 1 x

-- left_encode(x): "O = O_0 || O_1 || .. || O_n", where O_0 is n and O_1 to O_n are the base-256 digits of x, the highest first
unfoldable pub left_encode : ℕ → List ℕ
left_encode x = byte_count x ∷ listed (λ i. digit 256 x (byte_count x - suc i)) 0 (byte_count x)

-- encode_string(S): "left_encode(len(S)) || S", with the length in bits
unfoldable pub encode_string : List ℕ → List ℕ
encode_string s = left_encode (8 * length s) ++ s

-- bytepad(X, w): "z = left_encode(w) || X", then zero bytes while "(len(z)/8) mod w ≠ 0"
unfoldable pub bytepad : List ℕ → ℕ → List ℕ
bytepad x w =
    let z = left_encode w ++ x in
    z ++ listed (λ i. 0) 0 ((w - length z % w) % w)
