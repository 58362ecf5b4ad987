-- What is lent: "Cells .. Sensed copy .. Constants". What the constants hold is in the crate `constants`.
use Rattle.std.specs.Prelude.{ℕ, ◌/◌, Bool, ◌&&◌, List, eqb, length}
use Rattle.partitions.specs.Map.{Map, limit}
use Rattle.constants.specs.Constants.{constant_count}
use Rattle.model.specs.declared.Session.{Session}
use Rattle.model.specs.declared.Sizes.{Sizes}

pub record Lent : Type 0 where
  pub cells : List ℕ
  pub copy : List ℕ
  pub constants : List ℕ

-- what is lent with other cells, or with another copy
abbrev pub with_cells : List ℕ → Lent → Lent
with_cells cells l = record { cells = cells; copy = l.copy; constants = l.constants }

abbrev pub with_copy : List ℕ → Lent → Lent
with_copy copy l = record { cells = l.cells; copy = copy; constants = l.constants }

-- what is lent, with the session record that goes in and comes back
pub record Machine : Type 0 where
  pub lent : Lent
  pub session : Session

-- how many words are lent
abbrev pub sizes_of : Lent → Sizes
sizes_of l = record { cells = length l.cells; copy = length l.copy }

-- "Cells: exactly 448 words .. Sensed copy: exactly 448 words .. Constants: exactly 132 words." That is Map 1: "0x10, 0x06 and the address limit read from
-- the map in use; where 01 or Two numbers or counts partitions, their kind decides." (request Six)
unfoldable pub right_sizes : Map → Sizes → ℕ → Bool
right_sizes map sizes constants = eqb sizes.cells (limit map / 2) && eqb sizes.copy (limit map / 2) && eqb constants constant_count

abbrev pub right_lengths : Map → Lent → Bool
right_lengths map l = right_sizes map (sizes_of l) (length l.constants)

-- the cipher under a key, its inverse, the digest of words from a start value with a final key, and the hash of a token
pub record Primitives : Type 0 where
  pub encrypt : ℕ → ℕ → ℕ
  pub decrypt : ℕ → ℕ → ℕ
  pub digest : ℕ → ℕ → List ℕ → ℕ
  pub hash : ℕ → ℕ
