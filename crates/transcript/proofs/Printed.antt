-- What is printed. The idea: the lines are the answers to the script's commands, so that demand 3, which makes the answers of two chips equal, makes their
-- lines equal; both images have one length, so that both chips have one map.
use Prim.Native.Nat.{ℕ, suc}
use mathlib.Core.Path.{◌≡◌, refl, sym, ap, ◌∙◌}
use mathlib.Core.Bool.{true}
use mathlib.Core.List.{List, [], ◌∷◌, ◌++◌}
use native.Mathlib.Numerals.{add-one}
use native.Mathlib.Omega.{arith}
use lib.ListN.{length}
use Rattle.partitions.specs.Map.{Map}
use Rattle.model.specs.declared.Command.{Command}
use Rattle.model.specs.declared.Command.TheVariants.{Read, Write, FrontRead, Digest, ReadLock, Transition, PowerUp}
use Rattle.model.specs.Answers.{Answer}
use Rattle.model.specs.Lent.{right_lengths}
use Rattle.model.specs.Step.{answers}
use Rattle.model.specs.Claims.Terms.{ValidInputs, Matched}
use Rattle.chip.specs.Chip.{primitives}
use Rattle.chip.proofs.Theorems.{chip-claims}
use Rattle.script.specs.declared.Reading.{Reading}
use Rattle.script.specs.declared.Reading.TheVariants.{Record, End, Refused}
use Rattle.script.specs.Records.{kind_of, byte_at, next_at}
use Rattle.script.specs.Lines.{end_line}
use Rattle.script.proofs.Records.{is_read}
use Rattle.transcript.specs.Transcript.{Line, map_for, map_used, chip_of, printed, transcript}
use Rattle.transcript.specs.Printed.{commands_from, commands_of, refusal_of, lines_for, lines_whole, TwoChips, Printed}
use Rattle.transcript.proofs.Files.{words_small, words-as-many}
use Rattle.transcript.proofs.Lines.{lines-whole}

bytes_whole : (script image constants : List ℕ)
    → let ls = lines_whole script image constants in transcript script image constants ≡ printed ls ++ end_line (length ls)
unfolding transcript
bytes_whole script image constants = ap (λ (ls : List Line). printed ls ++ end_line (length ls)) (lines-whole script image constants)

-- ---- a script that begins with a power-up has no command, where it is too long, or a power-up first

only-power-up : (x : Command) → kind_of x ≡ 7 → x ≡ PowerUp
only-power-up (Read a) e = absurd (omega (arith, e))
only-power-up (Write a value) e = absurd (omega (arith, e))
only-power-up (FrontRead a) e = absurd (omega (arith, e))
only-power-up (Digest a) e = absurd (omega (arith, e))
only-power-up (ReadLock number) e = absurd (omega (arith, e))
only-power-up (Transition target token) e = absurd (omega (arith, e))
only-power-up PowerUp e = refl

module _ (P : List Command → Type 0) (s : List ℕ) (first : byte_at s 0 ≡ 7) (none : P []) (some : (l : List Command) → P (PowerUp ∷ l)) where
  begins-by : (n : ℕ) (r : Reading) → next_at s 0 ≡ r → P (commands_from (suc n) s 0)
  unfolding commands_from
  begins-by n (Record x next) e = rw (e, commands_from, only-power-up x ((is_read s 0 e).kind ∙ first)) (some _)
  begins-by n End e = rw (e, commands_from) none
  begins-by n (Refused w at) e = rw (e, commands_from) none

  begins : P (commands_of s)
  begins = rw (add-one (length s)) (begins-by (length s) (next_at s 0) refl)

-- ---- two chips

module _ (script image other constants : List ℕ) (two : TwoChips image other constants) where
  same_map : map_used other ≡ map_used image
  unfolding map_for
  same_map = rw two.same_length

  right : ValidInputs (map_used image) (chip_of image constants)
  right = record { lengths = two.lengths; valid = two.valid; words = words_small constants two.bytes.2; fuses = words_small image two.bytes.0 }

  other-lengths : right_lengths (map_used image) (chip_of other constants).lent ≡ true
  other-lengths = rw (same_map, words-as-many other image (sym two.same_length)) two.lengths

  right-other : ValidInputs (map_used image) (chip_of other constants)
  right-other = record { lengths = other-lengths; valid = two.valid; words = words_small constants two.bytes.2; fuses = words_small other two.bytes.1 }

  -- both chips answer alike over the map of the first, which is that of the other too
  abbrev Same : List Command → Type 0
  Same l = Matched primitives (map_used image) l (chip_of image constants) (chip_of other constants)
      → answers primitives (map_used image) l (chip_of image constants) ≡ answers primitives (map_used other) l (chip_of other constants)

  same_none : Same []
  unfolding answers
  same_none matched = refl

  same_some : (l : List Command) → Same (PowerUp ∷ l)
  same_some l matched =
      ((chip-claims (map_for image)).demand3.chips (chip_of image constants) (chip_of other constants) right right-other refl two.alike l matched).0
      ∙ ap (λ (map : Map). answers primitives map (PowerUp ∷ l) (chip_of other constants)) (sym same_map)

  print-alike : byte_at script 0 ≡ 7 → Matched primitives (map_used image) (commands_of script) (chip_of image constants) (chip_of other constants)
      → transcript script image constants ≡ transcript script other constants
  print-alike first matched =
      let same = begins Same script first same_none same_some matched in
      bytes_whole script image constants
      ∙ ap (λ (answers : List Answer). let ls = lines_for (commands_of script) answers ++ refusal_of script in printed ls ++ end_line (length ls)) same
      ∙ sym (bytes_whole script other constants)

pub what-is-printed : Printed
what-is-printed = record { lines = lines-whole; bytes = bytes_whole; chips = print-alike }
