-- Records run one after the other print the transcript. The idea: a record prints the first line of `lines_from`, whatever the budget.
use Prim.Native.Nat.{ℕ, zero, suc, ◌+◌, ◌<◌}
use mathlib.Core.Path.{◌≡◌, refl, sym, ap, ◌∙◌}
use mathlib.Core.List.{List, [], ◌++◌, append_assoc}
use native.Mathlib.Omega.{arith}
use lib.ListN.{length}
use Rattle.partitions.specs.Map.{Map}
use Rattle.model.specs.Answers.{code_of, value_of}
use Rattle.model.specs.Lent.{Machine}
use Rattle.chip.specs.Chip.{result_for}
use Rattle.script.specs.declared.Reading.{Reading}
use Rattle.script.specs.declared.Reading.TheVariants.{Record, End, Refused}
use Rattle.script.specs.Records.{kind_of, refusal_code, next_at}
use Rattle.script.specs.Lines.{line_of, end_line}
use Rattle.transcript.specs.Transcript.{refused_kind, Line, lines_from, map_used, chip_of, lines_of, printed, transcript}
use Rattle.transcript.proofs.Budget.{same-budget}
use Rattle.transcript.specs.Runs.{run_by, run_of, after_record, runs_from}

module _ (map : Map) (s : List ℕ) where
  -- what n records from a place print after some lines: the lines from there on, and the end line
  abbrev rest : ℕ → ℕ → Machine → ℕ → List ℕ
  rest n place m count = printed (lines_from map n s place m) ++ end_line (count + length (lines_from map n s place m))

  more : (line ls : List ℕ) (a b : ℕ) → a ≡ b → line ++ (ls ++ end_line a) ≡ (line ++ ls) ++ end_line b
  more line ls a b e = rw e (sym (append_assoc line ls (end_line b)))

  one_more : (n place : ℕ) (m : Machine) (count : ℕ) → ((p : ℕ) (k : Machine) → runs_from map n s p k (count + 1) ≡ rest n p k (count + 1))
      → (r : Reading) → next_at s place ≡ r → runs_from map (suc n) s place m count ≡ rest (suc n) place m count
  unfolding runs_from run_of run_by after_record lines_from printed
  one_more n place m count known (Record command next) e =
      let r = result_for map command m in
      let ls = lines_from map n s next r.machine in
      let line = line_of (kind_of command) (code_of r.answer) (value_of r.answer) in
      rw (e, lines_from)
      (ap (λ (ys : List ℕ). line ++ ys) (known next r.machine)
      ∙ more line (printed ls) (count + 1 + length ls) (count + suc (length ls)) (omega arith))
  one_more n place m count known End e = rw (e, lines_from) (ap end_line (omega arith))
  one_more n place m count known (Refused w at) e =
      rw (e, lines_from) (more (line_of (refused_kind s w at) (refusal_code w) at) [] (count + 1) (count + 1) refl)

  runs-print : (n place : ℕ) (m : Machine) (count : ℕ) → runs_from map n s place m count ≡ rest n place m count
  unfolding runs_from lines_from printed
  runs-print zero place m count = ap end_line (omega arith)
  runs-print (suc n) place m count = one_more n place m count (λ p k. runs-print n p k (count + 1)) (next_at s place) refl

-- the lines of all records, with the end line, are the transcript
pub runs-are-transcript : (script image constants : List ℕ)
    → runs_from (map_used image) (length script + 1) script 0 (chip_of image constants) 0 ≡ transcript script image constants
unfolding transcript lines_of
runs-are-transcript script image constants =
    let ls = lines_from (map_used image) (length script + 1) script 0 (chip_of image constants) in
    runs-print (map_used image) script (length script + 1) 0 (chip_of image constants) 0 ∙ ap (λ (n : ℕ). printed ls ++ end_line n) (omega arith)

-- and so with any larger budget
pub rehearsal : (n : ℕ) (script image constants : List ℕ) → length script < n
    → runs_from (map_used image) n script 0 (chip_of image constants) 0 ≡ transcript script image constants
rehearsal n script image constants h =
    let m = chip_of image constants in
    runs-print (map_used image) script n 0 m 0
    ∙ ap (λ (ls : List Line). printed ls ++ end_line (0 + length ls))
    (same-budget (map_used image) script n (length script + 1) 0 m (omega arith) (omega arith) (omega arith))
    ∙ sym (runs-print (map_used image) script (length script + 1) 0 m 0)
    ∙ runs-are-transcript script image constants
