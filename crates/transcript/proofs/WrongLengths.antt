-- Files of a wrong length. The idea: every step refuses with 0x10 and leaves the machine, so that the answers are known from the commands alone.
use Prim.Native.Nat.{ℕ, ◌*◌, ◌/◌, ◌%◌, ◌<◌}
use mathlib.Core.Path.{◌≡◌, refl, sym, ap, ◌∙◌}
use mathlib.Core.Bool.{true, false, not, ◌&&◌}
use mathlib.Core.List.{List, [], ◌∷◌, ◌++◌, append-nil}
use native.Mathlib.Numerals.{add-one}
use native.Mathlib.Omega.{arith}
use lib.Dec.{eqb, lit<}
use lib.ListN.{length, replicate}
use borrow.Author.Tests.{eq-eqb, ne_eqb, eqb-true}
use Rattle.std.specs.Prelude.{Err}
use Rattle.basics.proofs.Choice.{and-false, if-true, if-both}
use Rattle.partitions.specs.Map.{Map, limit}
use Rattle.partitions.specs.Map1.{map1}
use Rattle.partitions.specs.Map2.{map2}
use Rattle.partitions.specs.Maps.{map_of}
use Rattle.constants.specs.Constants.{constant_count}
use Rattle.model.specs.declared.Failure.TheVariants.{WrongLength}
use Rattle.model.specs.declared.Command.{Command}
use Rattle.model.specs.Lent.{right_sizes, Machine, right_lengths}
use Rattle.model.specs.Step.{judgement, answers, machine_after, answer_to}
use Rattle.chip.specs.Chip.{primitives, result_for}
use Rattle.chip.proofs.Acting.{refused-result}
use Rattle.script.specs.Records.{kind_of}
use Rattle.script.specs.Lines.{line_of, end_line}
use Rattle.script.proofs.Records.{too_long}
use Rattle.transcript.specs.Files.{pairs, file_words}
use Rattle.transcript.specs.Transcript.{Line, refused_kind, lines_from, map_used, chip_of, lines_of, printed, transcript}
use Rattle.transcript.proofs.Files.{pairs-length}
use Rattle.transcript.proofs.Maps.{map1-named, map2-named}
use Rattle.transcript.proofs.Lines.{lines-whole}
use Rattle.transcript.specs.Printed.{commands_of, refusal_of, lines_for}
use Rattle.transcript.specs.WrongLengths.{Wrong, wrong_lines, WrongLengths}

-- ---- how many words a file has

words-from : (bytes : List ℕ) (n : ℕ) → length bytes ≡ 2 * n → length (file_words bytes) ≡ n
unfolding file_words
words-from bytes n e = rw (if-true (pairs bytes) [] (eq-eqb (length bytes % 2) 0 (omega (arith, e)))) (pairs-length bytes ∙ omega (arith, e))

bytes-from : (bytes : List ℕ) (n : ℕ) → 0 < n → length (file_words bytes) ≡ n → length bytes ≡ 2 * n
unfolding file_words
bytes-from bytes n some =
    if-both (λ (ws : List ℕ). length ws ≡ n → length bytes ≡ 2 * n) _ _ _
    (λ t e. omega (arith, eqb-true (length bytes % 2) 0 t, pairs-length bytes, e)) (λ t e. absurd (omega arith))

-- ---- right and wrong lengths

first-map : (image constants : List ℕ) → length image ≡ 896 → length constants ≡ 2 * constant_count
    → (map_used image ≡ map1) × (right_lengths (map_used image) (chip_of image constants).lent ≡ true)
unfolding right_sizes map_of limit map1
first-map image constants h k =
    rw (map1-named image (λ e. omega (arith, h, e)), words-from image 448 h, words-from constants constant_count k) (refl, refl)

second-map : (image constants : List ℕ) → length image ≡ 1480 → length constants ≡ 2 * constant_count
    → (map_used image ≡ map2) × (right_lengths (map_used image) (chip_of image constants).lent ≡ true)
unfolding right_sizes map_of limit map2
second-map image constants h k =
    rw (map2-named image h, words-from image 740 h, words-from constants constant_count k) (refl, refl)

images-wrong : (image constants : List ℕ) → (length image ≡ 896 → ⊥) → (length image ≡ 1480 → ⊥) → Wrong image constants
unfolding right_sizes map_of limit map1
images-wrong image constants h k =
    rw (map1-named image k, ne_eqb (length (file_words image)) 448 (λ e. h (bytes-from image 448 (lit< tt) e)))

constants-wrong : (image constants : List ℕ) → (length constants ≡ 2 * constant_count → ⊥) → Wrong image constants
unfolding right_sizes
constants-wrong image constants h = rw (ne_eqb (length (file_words constants)) constant_count (λ e. h (bytes-from constants constant_count (lit< tt) e)))
    (and-false (eqb (length (chip_of image constants).lent.cells) (limit (map_used image) / 2)
    && eqb (length (chip_of image constants).lent.copy) (limit (map_used image) / 2)) refl)

step-wrong : (map : Map) (x : Command) (m : Machine) → right_lengths map m.lent ≡ false → result_for map x m ≡ record { machine = m; answer = Err WrongLength }
unfolding judgement
step-wrong map x m e = sym (refused-result map x m WrongLength (if-true _ _ (ap not e)))

answers-wrong : (map : Map) (m : Machine) → right_lengths map m.lent ≡ false → (l : List Command) → lines_for l (answers primitives map l m) ≡ wrong_lines l
unfolding lines_for answers wrong_lines
answers-wrong map m wrong [] = refl
answers-wrong map m wrong (x ∷ l) =
    rw (step-wrong map x m wrong, machine_after, answer_to)
    (ap (λ (ls : List Line). record { kind = kind_of x; code = 0x10; value = 0 } ∷ ls) (answers-wrong map m wrong l))

lines-wrong : (script image constants : List ℕ) → Wrong image constants → lines_of script image constants ≡ wrong_lines (commands_of script) ++ refusal_of
    script
lines-wrong script image constants h =
    lines-whole script image constants
    ∙ ap (λ (ls : List Line). ls ++ refusal_of script) (answers-wrong (map_used image) (chip_of image constants) h (commands_of script))

printed-alike : (script image constants image' constants' : List ℕ) → Wrong image constants → Wrong image' constants'
    → transcript script image constants ≡ transcript script image' constants'
unfolding transcript
printed-alike script image constants image' constants' h h' =
    ap (λ (ls : List Line). printed ls ++ end_line (length ls)) (lines-wrong script image constants h ∙ sym (lines-wrong script image' constants' h'))

too-long-script : (script image constants : List ℕ) → 65536 < length script → transcript script image constants ≡ line_of 0 0x14 0 ++ end_line 1
unfolding transcript lines_of lines_from refused_kind printed
too-long-script script image constants h =
    rw (add-one (length script), lines_from, too_long script 0 h) (ap (λ (line : List ℕ). line ++ end_line 1) (append-nil (line_of 0 0x14 0)))

pub wrong-lengths : WrongLengths
wrong-lengths = record {
  of_map1 = first-map;
  of_map2 = second-map;
  images = images-wrong;
  constants = constants-wrong;
  lines = lines-wrong;
  alike = printed-alike;
  scripts = too-long-script;
}

-- premises are met: two empty files, and blank ones of each map
no-files : Wrong [] []
no-files = images-wrong [] [] (λ e. omega (arith, e)) (λ e. omega (arith, e))

blank-files : (map_used (replicate 896 0) ≡ map1) × (map_used (replicate 1480 0) ≡ map2)
blank-files = ((first-map (replicate 896 0) (replicate 264 0) refl refl).0, (second-map (replicate 1480 0) (replicate 264 0) refl refl).0)
