-- What is printed, claimed in the terms of the model: its answers to the commands of a script, and the reader's own line.
use Rattle.std.specs.Prelude.{ℕ, zero, suc, ◌+◌, ◌<◌, ◌≡◌, true, List, [], ◌∷◌, ◌++◌, length, get_or}
use Rattle.constants.specs.Constants.{valid_constants}
use Rattle.model.specs.declared.Command.{Command}
use Rattle.model.specs.Answers.{Answer, code_of, value_of}
use Rattle.model.specs.Lent.{right_lengths}
use Rattle.model.specs.Step.{answers}
use Rattle.model.specs.Claims.Terms.{Matched, Alike}
use Rattle.chip.specs.Chip.{primitives}
use Rattle.script.specs.declared.Reading.TheVariants.{Record, End, Refused}
use Rattle.script.specs.Records.{kind_of, byte_at, refusal_code, next_at}
use Rattle.script.specs.Lines.{end_line}
use Rattle.transcript.specs.Files.{file_words}
use Rattle.transcript.specs.Transcript.{Line, refused_kind, map_used, chip_of, lines_of, printed, transcript}

-- the commands of the records from a place on, up to the script's end or the reader's own refusal; at most n
unfoldable pub commands_from : ℕ → List ℕ → ℕ → List Command
commands_from zero script place = []
commands_from (suc n) script place =
    elim (next_at script place) [ Record command next ↦ command ∷ commands_from n script next | End ↦ [] | Refused refusal at ↦ [] ]

-- the line of that refusal, where there is one
unfoldable pub refusal_from : ℕ → List ℕ → ℕ → List Line
refusal_from zero script place = []
refusal_from (suc n) script place =
    elim (next_at script place) [
      | Record command next ↦ refusal_from n script next
      | End ↦ []
      | Refused refusal at ↦ record { kind = refused_kind script refusal at; code = refusal_code refusal; value = at } ∷ []
    ]

-- a record has a byte at least, so a script has no more records than bytes
abbrev pub commands_of : List ℕ → List Command
commands_of script = commands_from (length script + 1) script 0

abbrev pub refusal_of : List ℕ → List Line
refusal_of script = refusal_from (length script + 1) script 0

-- the answers of the chip that the two files make
abbrev pub answers_of : List ℕ → List ℕ → List ℕ → List Answer
answers_of script image constants = answers primitives (map_used image) (commands_of script) (chip_of image constants)

-- a line for each command that has an answer
unfoldable pub lines_for : List Command → List Answer → List Line
lines_for [] answers = []
lines_for (x ∷ xs) [] = []
lines_for (x ∷ xs) (answer ∷ answers) = record { kind = kind_of x; code = code_of answer; value = value_of answer } ∷ lines_for xs answers

-- all lines of a rehearsal
abbrev pub lines_whole : List ℕ → List ℕ → List ℕ → List Line
lines_whole script image constants = lines_for (commands_of script) (answers_of script image constants) ++ refusal_of script

-- a file is bytes
abbrev pub Bytes : List ℕ → Type 0
Bytes file = (i : ℕ) → get_or file i 0 < 256

-- the two chips of demand 3 as files: two images of one length, which is right, as is that of the constants; these are valid; and the fuses
-- differ "only in data words of secret partitions with the same nonzero stored digests"
pub record TwoChips (image other constants : List ℕ) : Type 0 where
  pub same_length : length image ≡ length other
  pub lengths : right_lengths (map_used image) (chip_of image constants).lent ≡ true
  pub valid : valid_constants (file_words constants) ≡ true
  pub bytes : Bytes image × Bytes other × Bytes constants
  pub alike : Alike (map_used image) (file_words image) (file_words other) (file_words image) (file_words other)

pub record Printed : Type 0 where
  -- "One line a record: kind, code, value in lower-case hex. The reader's own 0x11 (unknown kind) or 0x13 stops it: the line's value is the place of the
  -- record's kind byte": each record has the model's answer to it, and the last line may be the reader's own
  pub lines : (script image constants : List ℕ) → lines_of script image constants ≡ lines_whole script image constants
  -- "The end line counts the lines before it, in decimal.": the bytes are those of these lines and of the end line with their number
  pub bytes : (script image constants : List ℕ)
      → let ls = lines_whole script image constants in
      transcript script image constants ≡ printed ls ++ end_line (length ls)
  -- "An integrity verdict is the first partition that fails a power-up's digest check, or none. A token comparison is the test behind 0x23, its result
  -- whether the tokens agree. Both are compared command by command, where both chips have one.": where they agree, a script that begins with a power-up
  -- (kind 7) prints the same bytes for both images
  pub chips : (script image other constants : List ℕ) → TwoChips image other constants → byte_at script 0 ≡ 7
      → Matched primitives (map_used image) (commands_of script) (chip_of image constants) (chip_of other constants)
      → transcript script image constants ≡ transcript script other constants
