-- Numbers in bytes, the lowest byte first, and bytes laid over others.
use Rattle.std.specs.Prelude.{ℕ, ◌+◌, ◌*◌, List, [], ◌∷◌, ◌++◌, length, take, drop, replicate}
use Rattle.basics.specs.Range.{listed}
use Rattle.basics.specs.Digits.{digit}
use Rattle.script.specs.Records.{little_endian_at}

-- the n numbers of `width` bytes each that stand from `at` on
unfoldable pub numbers_at : List ℕ → ℕ → ℕ → ℕ → List ℕ
numbers_at bytes at width n = listed (λ i. little_endian_at bytes (at + width * i) width) 0 n

-- the lowest bytes of a number
unfoldable pub bytes_of : ℕ → ℕ → List ℕ
bytes_of width x = listed (digit 256 x) 0 width

-- those of numbers, one after the other
unfoldable pub all_bytes : ℕ → List ℕ → List ℕ
all_bytes width [] = []
all_bytes width (x ∷ xs) = bytes_of width x ++ all_bytes width xs

unfoldable pub zeros : ℕ → List ℕ
zeros n = replicate n 0

-- the bytes from a place on replaced by others, as many as these are
infixl 10 ◌from◌put◌
unfoldable pub ◌from◌put◌ : List ℕ → ℕ → List ℕ → List ℕ
bytes from at put new = take at bytes ++ (new ++ drop (at + length new) bytes)
