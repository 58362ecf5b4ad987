-- Computed examples beside the theorem: what scripts print, and two images that meet its premises.
use Prim.Native.Nat.{ℕ, zero, suc, ◌≤◌}
use mathlib.Core.Path.{◌≡◌, refl, sym, ap, subst, ◌∙◌}
use mathlib.Core.Bool.{Bool, false}
use mathlib.Core.List.{List, [], ◌∷◌, ◌++◌}
use Rattle.std.specs.Prelude.{Some}
use native.Mathlib.Omega.{arith}
use lib.Dec.{T, eqb, ltb, lit<, lit≤}
use lib.ListN.{length, get_or, set, replicate, get_or-eq_default}
use lib.Seq.{get_or-set_other}
use borrow.Author.Tests.{eqb-true, eqb-false, ltb-true, ltb-false}
use Rattle.basics.specs.Choice.{when◌then◌else◌}
use Rattle.basics.specs.Range.{sum, all_below, first_not}
use Rattle.basics.proofs.Choice.{by_cases}
use Rattle.basics.proofs.Range.{all-at}
use Rattle.present.specs.Present.{s_box, substitute, place, permute, round_key, rotate_left61, substitute_top, key_step, key_after, state_after, encrypt_block}
use Rattle.digest.specs.Digest.{absorb, absorb_all, digest_blocks, blocks_of, digest_words}
use Rattle.partitions.specs.Map2.{map2}
use Rattle.partitions.specs.Map.{partition}
use Rattle.partitions.specs.Maps.{map_of}
use Rattle.model.specs.PowerUp.{digest_holds, verdict_of}
use Rattle.model.specs.Claims.Terms.{Matched, HiddenWord, Alike}
use Rattle.model.proofs.Everything.{everything}
use Rattle.chip.specs.Chip.{primitives}
use Rattle.script.specs.Records.{unknown, body_length, little_endian_at, command_at, next_at}
use Rattle.script.specs.Lines.{digit_byte, digits, line_of, decimal, end_line}
use Rattle.transcript.specs.Files.{pairs, file_words}
use Rattle.transcript.specs.Transcript.{refused_kind, map_for, map_used, chip_of, lines_from, lines_of, printed, transcript}
use Rattle.transcript.specs.Printed.{commands_from, refusal_from, commands_of, lines_for, lines_whole, Bytes, TwoChips}
use Rattle.transcript.proofs.Printed.{what-is-printed}

-- the model, the reader and the lines, under one name
unfoldable all : Unit {0}
unfolding everything sum map2 map_of map_for pairs file_words unknown body_length little_endian_at command_at next_at refused_kind lines_from lines_of
    digit_byte digits
    line_of decimal end_line printed transcript commands_from refusal_from lines_for
all = tt

-- n words below 256, as bytes
words : ℕ → ℕ → List ℕ
words zero x = []
words (suc n) x = x ∷ 0 ∷ words n x

-- keys, start value and RAW_UNLOCK hash of zero; each C and A is 1, each D and B is 3
constants : List ℕ
unfolding words
constants = words 36 0 ++ words 24 1 ++ words 24 3 ++ words 20 1 ++ words 20 3 ++ words 8 0

-- "With a blank image and valid constants, a power-up, a write of 0x12345678 at 0, reads at 0 and 0x328 give exactly": the five lines, here with these
-- constants
example-script : List ℕ
example-script = 7 ∷ (2 ∷ 0 ∷ 0 ∷ 0 ∷ 0 ∷ 0x78 ∷ 0x56 ∷ 0x34 ∷ 0x12 ∷ 0 ∷ 0 ∷ 0 ∷ 0 ∷ []) ++ (1 ∷ 0 ∷ 0 ∷ 0 ∷ 0 ∷ []) ++ (1 ∷ 0x28 ∷ 0x03 ∷ 0 ∷ 0 ∷ [])

example-printed : transcript example-script (replicate 896 0) constants
    ≡ line_of 0x07 0x00 0 ++ line_of 0x02 0x00 0 ++ line_of 0x01 0x00 0x12345678 ++ line_of 0x01 0x05 0 ++ end_line 4
unfolding all words constants example-script
example-printed = refl

-- a power-up, and the reader's own refusals: an unknown kind, and a record cut short
unknown-kind : lines_whole (7 ∷ 8 ∷ []) (replicate 896 0) constants
    ≡ record { kind = 0x07; code = 0x00; value = 0 } ∷ record { kind = 0x08; code = 0x11; value = 1 } ∷ []
unfolding all words constants
unknown-kind = refl

cut_short : lines_whole (7 ∷ 7 ∷ 5 ∷ []) (replicate 896 0) constants
    ≡ record { kind = 0x07; code = 0x00; value = 0 } ∷ record { kind = 0x07; code = 0x00; value = 0 } ∷ record { kind = 0x05; code = 0x13; value = 2 } ∷ []
unfolding all words constants
cut_short = refl

-- ---- two images of Map 2 that meet the premises of `chips`, and a power-up

-- HW_CFG1 and SECRET0 with the digest 1, SECRET0 with this first byte, else blank
image : ℕ → List ℕ
image x = replicate 1168 0 ++ (1 ∷ replicate 7 0) ++ (x ∷ replicate 31 0) ++ (1 ∷ replicate 271 0)

one_word : file_words (image 5) ≡ set (file_words (image 0)) 588 5
unfolding all image
one_word = refl

hidden : HiddenWord (map_used (image 0)) (file_words (image 0)) (file_words (image 5)) 588
unfolding all image
hidden = record {
  hidden = record { known = lit< tt; secret = refl; equal = refl; nonzero = λ e. omega arith };
  is_data = refl;
}

alike : Alike (map_used (image 0)) (file_words (image 0)) (file_words (image 5)) (file_words (image 0)) (file_words (image 5))
alike = record { at = word }
  where
    word : (j : ℕ) → (HiddenWord (map_used (image 0)) (file_words (image 0)) (file_words (image 5)) j → ⊥)
        → get_or (file_words (image 0)) j 0 ≡ get_or (file_words (image 5)) j 0
    word j h =
        by_cases (eqb j 588)
        (λ t. absurd (h (subst (HiddenWord (map_used (image 0)) (file_words (image 0)) (file_words (image 5))) (sym (eqb-true j 588 t)) hidden)))
        (λ t. rw one_word (sym (get_or-set_other (file_words (image 0)) 588 j 5 0 (eqb-false j 588 t))))

-- bytes, by one test for each entry
bytes-by : (file : List ℕ) (n : ℕ) → length file ≤ n → T (all_below n (λ j. ltb (get_or file j 0) 256)) → Bytes file
bytes-by file n l e i =
    by_cases (ltb i n) (λ t. ltb-true _ _ (all-at n (λ j. ltb (get_or file j 0) 256) e i (ltb-true _ _ t)))
    (λ t. rw (get_or-eq_default file 0 {n = i} (omega (arith, ltb-false i n t))) (lit< tt))

constant-bytes : Bytes constants
unfolding all words constants
constant-bytes = bytes-by constants 264 (lit≤ tt) tt

image-bytes : Bytes (image 0)
unfolding all image
image-bytes = bytes-by (image 0) 1480 (lit≤ tt) tt

other-bytes : Bytes (image 5)
unfolding all image
other-bytes = bytes-by (image 5) 1480 (lit≤ tt) tt

two-chips : TwoChips (image 0) (image 5) constants
two-chips = record {
  same_length = unfold image in refl;
  lengths = unfold all words constants image in refl;
  valid = unfold all words constants in refl;
  bytes = (image-bytes, other-bytes, constant-bytes);
  alike = alike;
}

-- 1 is not the digest of a blank HW_CFG1, so that its check fails on both
other-digest : eqb 1 (digest_words 0 0 (0 ∷ 0 ∷ 0 ∷ 0 ∷ [])) ≡ false
unfolding everything sum s_box substitute place permute round_key rotate_left61 substitute_top key_step key_after state_after encrypt_block absorb absorb_all
    digest_blocks blocks_of digest_words
other-digest = refl

verdict : (x : ℕ) → verdict_of primitives map2 (chip_of (image x) constants).lent ≡ Some 6
unfolding all words constants image
verdict x =
    ap (λ (holds : Bool). when holds then first_not
    (λ n. digest_holds primitives (file_words constants) (file_words (image x)) (partition map2 n)) 7 4 else Some 6) other-digest

matched : Matched primitives (map_used (image 0)) (commands_of (7 ∷ [])) (chip_of (image 0) constants) (chip_of (image 5) constants)
unfolding all Matched words constants image
matched = (tt, (verdict 0 ∙ sym (verdict 5), tt), tt)

printed-alike : transcript (7 ∷ []) (image 0) constants ≡ transcript (7 ∷ []) (image 5) constants
printed-alike = what-is-printed.chips (7 ∷ []) (image 0) (image 5) constants two-chips refl matched
