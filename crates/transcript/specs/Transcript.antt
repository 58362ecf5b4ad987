-- What the bench program prints for a script, an image and constants.
use Rattle.std.specs.Prelude.{ℕ, zero, suc, ◌+◌, ◌/◌, List, [], ◌∷◌, ◌++◌, eqb, length, replicate}
use Rattle.basics.specs.Choice.{when◌then◌else◌}
use Rattle.partitions.specs.declared.MapName.{MapName}
use Rattle.partitions.specs.declared.MapName.TheVariants.{Map1, Map2}
use Rattle.partitions.specs.Map.{Map, limit}
use Rattle.partitions.specs.Maps.{map_of}
use Rattle.model.specs.Answers.{code_of, value_of}
use Rattle.model.specs.Session.{fresh_session}
use Rattle.model.specs.Lent.{Machine}
use Rattle.chip.specs.Chip.{lent_of, machine_of, result_for}
use Rattle.script.specs.declared.Reading.TheVariants.{Record, End, Refused}
use Rattle.script.specs.declared.Refusal.{Refusal}
use Rattle.script.specs.declared.Refusal.TheVariants.{UnknownKind, CutShort, TooLong}
use Rattle.script.specs.Records.{kind_of, byte_at, refusal_code, next_at}
use Rattle.script.specs.Lines.{line_of, end_line}
use Rattle.transcript.specs.Files.{file_words}

-- a line: kind, code, value
pub record Line : Type 0 where
  pub kind : ℕ
  pub code : ℕ
  pub value : ℕ

-- the kind of a refusal's line: the byte as read; "Script 0x14 prints the line `00 14 0000000000000000`"
unfoldable pub refused_kind : List ℕ → Refusal → ℕ → ℕ
refused_kind script UnknownKind place = byte_at script place
refused_kind script CutShort place = byte_at script place
refused_kind script TooLong place = 0

-- "One line a record: kind, code, value .. The reader's own 0x11 (unknown kind) or 0x13 stops it: the line's value is the place of the record's
-- kind byte". At most n lines from a place on, for a machine as the last record left it.
unfoldable pub lines_from : Map → ℕ → List ℕ → ℕ → Machine → List Line
lines_from map zero script place m = []
lines_from map (suc n) script place m =
    elim (next_at script place) [
      | Record command next ↦
          let r = result_for map command m in
          record { kind = kind_of command; code = code_of r.answer; value = value_of r.answer } ∷ lines_from map n script next r.machine
      | End ↦ []
      | Refused refusal at ↦ record { kind = refused_kind script refusal at; code = refusal_code refusal; value = at } ∷ []
    ]

-- "the bench takes Map 2 for an image of 1,480 bytes, else Map 1" (request Six)
unfoldable pub map_for : List ℕ → MapName
map_for image = when eqb (length image) 1480 then Map2 else Map1

abbrev pub map_used : List ℕ → Map
map_used image = map_of (map_for image)

-- "The program runs standard input, from a fresh record, over fixed-name image and constants files". No file gives the sensed copy: it starts as zeros, as
-- many as the map has words.
abbrev pub chip_of : List ℕ → List ℕ → Machine
chip_of image constants = machine_of (lent_of (file_words image) (replicate (limit (map_used image) / 2) 0) (file_words constants)) fresh_session

-- a record has a byte at least, so a script has no more records than bytes
unfoldable pub lines_of : List ℕ → List ℕ → List ℕ → List Line
lines_of script image constants = lines_from (map_used image) (length script + 1) script 0 (chip_of image constants)

-- the bytes of the lines
unfoldable pub printed : List Line → List ℕ
printed [] = []
printed (l ∷ ls) = line_of l.kind l.code l.value ++ printed ls

-- all bytes printed: the lines, then the end line: it "counts the lines before it"
unfoldable pub transcript : List ℕ → List ℕ → List ℕ → List ℕ
transcript script image constants = printed (lines_of script image constants) ++ end_line (length (lines_of script image constants))
