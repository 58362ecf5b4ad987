-- The lines that the bench program prints, as bytes (ASCII: a newline is 10, a space 32, 0 is 48, a is 97).
use Rattle.std.specs.Prelude.{ℕ, zero, suc, ◌+◌, ◌-◌, ◌/◌, ◌%◌, List, [], ◌∷◌, ◌++◌, ltb}
use Rattle.basics.specs.Choice.{when◌then◌else◌}
use Rattle.basics.specs.Digits.{digit}

-- 0 to 9, then a to f: "lower-case hex"
unfoldable pub digit_byte : ℕ → ℕ
digit_byte d = when ltb d 10 then 48 + d else 97 + (d - 10)

-- the lowest n digits of x to the base b, the highest first
unfoldable pub digits : ℕ → ℕ → ℕ → List ℕ
digits b zero x = []
digits b (suc n) x = digit_byte (digit b x n) ∷ digits b n x

-- "One line a record: kind, code, value in lower-case hex."
unfoldable pub line_of : ℕ → ℕ → ℕ → List ℕ
line_of kind code value = digits 16 2 kind ++ (32 ∷ digits 16 2 code) ++ (32 ∷ digits 16 16 value) ++ (10 ∷ [])

-- a number below 10 ^ n in decimal, without leading zeros
unfoldable pub decimal : ℕ → ℕ → List ℕ
decimal zero x = []
decimal (suc n) x = when ltb x 10 then digit_byte x ∷ [] else decimal n (x / 10) ++ (digit_byte (x % 10) ∷ [])

-- "The end line counts the lines before it, in decimal.": `end `, the count and a newline. A count of 64 bits has at most 20
-- digits.
unfoldable pub end_line : ℕ → List ℕ
end_line count = (101 ∷ 110 ∷ 100 ∷ 32 ∷ []) ++ decimal 20 count ++ (10 ∷ [])
