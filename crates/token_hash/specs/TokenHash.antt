-- How a life cycle token is hashed (request Four): "hashes it with cSHAKE128, empty function name, customization string "LC_CTRL", 128 bits out, token and
-- hash lowest byte first".
use Rattle.std.specs.Prelude.{ℕ, List, [], ◌∷◌, get_or}
use Rattle.basics.specs.Range.{listed}
use Rattle.basics.specs.Digits.{digit, number}
use Rattle.cshake.specs.CShake.{c_shake128}

-- "LC_CTRL"
unfoldable pub customization : List ℕ
customization = 0x4C ∷ 0x43 ∷ 0x5F ∷ 0x43 ∷ 0x54 ∷ 0x52 ∷ 0x4C ∷ []

-- a number of 128 bits as 16 bytes, the lowest first, and back
unfoldable pub token_bytes : ℕ → List ℕ
token_bytes x = listed (digit 256 x) 0 16

unfoldable pub number_of_bytes : List ℕ → ℕ
number_of_bytes bytes = number 256 16 (λ i. get_or bytes i 0)

unfoldable pub token_hash : ℕ → ℕ
token_hash token = number_of_bytes (c_shake128 (token_bytes token) 16 [] customization)
