-- Fuse words and the numbers they stand for: "All numbers are little-endian: the lowest 16 bits stand in the lowest word." (document 01)
use Rattle.std.specs.Prelude.{ℕ, zero, suc, ◌+◌, ◌*◌, ◌/◌, ◌%◌, List, [], ◌∷◌, get_or}
use Rattle.basics.specs.Range.{listed}

-- the number that the words stand for
unfoldable pub number_of : List ℕ → ℕ
number_of [] = 0
number_of (w ∷ ws) = w + 65536 * number_of ws

-- the lowest n words of a number
unfoldable pub words_of : ℕ → ℕ → List ℕ
words_of zero x = []
words_of (suc n) x = x % 65536 ∷ words_of n (x / 65536)

-- the n words of an array from `at` on; past its end there are zeros
unfoldable pub part_at : List ℕ → ℕ → ℕ → List ℕ
part_at cells at n = listed (λ i. get_or cells i 0) at n
