-- The lengths of files: "the bench takes Map 2 for an image of 1,480 bytes, else Map 1" (request Six), and "a wrong length gives 0x10 on each line". And
-- scripts that are too long.
use Rattle.std.specs.Prelude.{ℕ, ◌<◌, ◌≡◌, true, false, List, [], ◌∷◌, ◌++◌, length}
use Rattle.partitions.specs.Map1.{map1}
use Rattle.partitions.specs.Map2.{map2}
use Rattle.model.specs.declared.Command.{Command}
use Rattle.model.specs.Lent.{right_lengths}
use Rattle.script.specs.Records.{kind_of}
use Rattle.script.specs.Lines.{line_of, end_line}
use Rattle.transcript.specs.Transcript.{Line, map_used, chip_of, lines_of, transcript}
use Rattle.transcript.specs.Printed.{commands_of, refusal_of}

-- these files lend something of a wrong length
abbrev pub Wrong : List ℕ → List ℕ → Type 0
Wrong image constants = right_lengths (map_used image) (chip_of image constants).lent ≡ false

-- a line for each command: its kind, 0x10 and the value 0
unfoldable pub wrong_lines : List Command → List Line
wrong_lines [] = []
wrong_lines (x ∷ xs) = record { kind = kind_of x; code = 0x10; value = 0 } ∷ wrong_lines xs

pub record WrongLengths : Type 0 where
  -- an image of 896 bytes is one of Map 1, and with constants of 264 bytes all lengths are right
  pub of_map1 : (image constants : List ℕ) → length image ≡ 896 → length constants ≡ 264
      → (map_used image ≡ map1) × (right_lengths (map_used image) (chip_of image constants).lent ≡ true)
  -- one of 1,480 bytes is one of Map 2, likewise
  pub of_map2 : (image constants : List ℕ) → length image ≡ 1480 → length constants ≡ 264
      → (map_used image ≡ map2) × (right_lengths (map_used image) (chip_of image constants).lent ≡ true)
  -- every other file is of a wrong length
  pub images : (image constants : List ℕ) → (length image ≡ 896 → ⊥) → (length image ≡ 1480 → ⊥) → Wrong image constants
  pub constants : (image constants : List ℕ) → (length constants ≡ 264 → ⊥) → Wrong image constants
  -- "a wrong length gives 0x10 on each line": on that of every record; the reader's own line, which no file changes, may follow
  pub lines : (script image constants : List ℕ) → Wrong image constants → lines_of script image constants
      ≡ wrong_lines (commands_of script) ++ refusal_of script
  -- what is printed then depends on the script alone: so a file that is longer than what the program reads of it prints what its read start prints
  pub alike : (script image constants image' constants' : List ℕ) → Wrong image constants → Wrong image' constants'
      → transcript script image constants ≡ transcript script image' constants'
  -- "Script 0x14 prints the line `00 14 0000000000000000` and `end 1`, and nothing runs": so does the start that the program reads of it
  pub scripts : (script image constants : List ℕ) → 65536 < length script → transcript script image constants ≡ line_of 0 0x14 0 ++ end_line 1
