-- The padding in bits, as FIPS 202 writes it, and the claim that the padding of a string of bytes is the same.
use Rattle.std.specs.Prelude.{ℕ, ◌+◌, ◌*◌, ◌-◌, ◌%◌, ◌≤◌, ◌<◌, ◌≡◌, List, [], ◌∷◌, ◌++◌, length, get_or}
use Rattle.basics.specs.Range.{listed}
use Rattle.basics.specs.Digits.{bit, number}
use Rattle.sponge.specs.Sponge.{padding}

-- the bits of a string of bytes (B.1): those of each byte one after the other, the lowest first
unfoldable pub bits_of : List ℕ → List ℕ
bits_of [] = []
bits_of (byte ∷ bytes) = listed (bit byte) 0 8 ++ bits_of bytes

-- pad10*1(x, m) (section 5.1): "Let j = (-m - 2) mod x. Return P = 1 || 0^j || 1."
unfoldable pub pad101 : ℕ → ℕ → List ℕ
pad101 x m =
    let j = (x - (m + 2) % x) % x in
    1 ∷ listed (λ i. 0) 0 j ++ 1 ∷ []

-- the byte that has the bits of a domain and, behind them, the first bit of the padding (B.2)
unfoldable pub suffix_of : List ℕ → ℕ
suffix_of domain = number 2 8 (λ i. get_or (domain ++ 1 ∷ []) i 0)

pub record PaddingInBits : Type 0 where
  -- Behind a message of n bytes stand the bits of the domain and then the padding of both, if the domain has at most six bits.
  pub bits : (rate n : ℕ) (domain : List ℕ) → 0 < rate → length domain ≤ 6 → ((i : ℕ) → get_or domain i 0 < 2)
      → bits_of (padding rate (suffix_of domain) n) ≡ domain ++ pad101 (8 * rate) (8 * n + length domain)
  -- the domain of SHAKE128, and that of cSHAKE128 (NIST SP 800-185, section 3.3)
  pub shake : suffix_of (1 ∷ 1 ∷ 1 ∷ 1 ∷ []) ≡ 0x1F
  pub c_shake : suffix_of (0 ∷ 0 ∷ []) ≡ 0x04
