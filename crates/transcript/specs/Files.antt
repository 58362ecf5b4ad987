-- The image and constants files as words. "a missing one counts as empty; a wrong length gives 0x10 on each line"
use Rattle.std.specs.Prelude.{ℕ, ◌+◌, ◌*◌, ◌%◌, List, [], ◌∷◌, eqb, leb, length}
use Rattle.basics.specs.Choice.{when◌then◌else◌}

-- two bytes a word, the lowest first
unfoldable pub pairs : List ℕ → List ℕ
pairs [] = []
pairs (low ∷ []) = []
pairs (low ∷ high ∷ bytes) = (low + 256 * high) ∷ pairs bytes

-- a file of an odd length is no array of words: it counts as empty, which is a wrong length too
unfoldable pub file_words : List ℕ → List ℕ
file_words bytes = when eqb (length bytes % 2) 0 then pairs bytes else []

-- a file lent in an array of words: one that has more counts as empty too
unfoldable pub lent_words : ℕ → List ℕ → List ℕ
lent_words space bytes = when leb (length (file_words bytes)) space then file_words bytes else []
