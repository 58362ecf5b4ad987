-- Laws of the number of lines. The idea: it depends on the script alone, whatever the machine answers.
use Prim.Native.Nat.{ℕ, zero, suc, ◌+◌}
use mathlib.Core.Path.{◌≡◌, refl, sym, ap, ◌∙◌}
use mathlib.Core.List.{List, []}
use native.Mathlib.Numerals.{add-one}
use native.Mathlib.Omega.{arith}
use lib.ListN.{length}
use Rattle.partitions.specs.Map.{Map}
use Rattle.partitions.specs.Map1.{map1}
use Rattle.model.specs.declared.Command.{Command}
use Rattle.model.specs.Lent.{Machine}
use Rattle.chip.specs.Chip.{result_for}
use Rattle.script.specs.declared.Reading.{Reading}
use Rattle.script.specs.declared.Reading.TheVariants.{Record, End, Refused}
use Rattle.script.specs.declared.Refusal.{Refusal}
use Rattle.script.specs.Records.{next_at}
use Rattle.script.proofs.Records.{is_read}
use Rattle.transcript.specs.Transcript.{lines_from, map_used, chip_of, lines_of}
use Rattle.transcript.proofs.Budget.{same-budget}

unfoldable pub count_by : Reading → (ℕ → ℕ) → ℕ
count_by (Record command next) rest = suc (rest next)
count_by End rest = 0
count_by (Refused refusal at) rest = 1

-- at most n lines from a place on
unfoldable pub count_from : ℕ → List ℕ → ℕ → ℕ
count_from zero s place = 0
count_from (suc n) s place = count_by (next_at s place) (count_from n s)

module _ (map : Map) (s : List ℕ) where
  lines_step : (n place : ℕ) (m : Machine) → ((p : ℕ) (k : Machine) → length (lines_from map n s p k) ≡ count_from n s p)
      → (r : Reading) → next_at s place ≡ r → length (lines_from map (suc n) s place m) ≡ count_from (suc n) s place
  unfolding lines_from count_from count_by
  lines_step n place m known (Record command next) e = rw (e, lines_from) (ap suc (known next (result_for map command m).machine))
  lines_step n place m known End e = rw (e, lines_from)
  lines_step n place m known (Refused w at) e = rw (e, lines_from)

  lines-count : (n place : ℕ) (m : Machine) → length (lines_from map n s place m) ≡ count_from n s place
  unfolding lines_from count_from
  lines-count zero place m = refl
  lines-count (suc n) place m = lines_step n place m (lines-count n) (next_at s place) refl

-- the number of lines from a place on
module _ (s : List ℕ) where
  abbrev pub lines_left : ℕ → ℕ
  lines_left place = count_from (length s + 1) s place

  module _ (place : ℕ) where
    pub left-record : {command : Command} {next : ℕ} → next_at s place ≡ Record command next → lines_left place ≡ suc (lines_left next)
    unfolding count_from count_by
    left-record {command} {next} e =
        let i = is_read s place e in
        let same = ap length (same-budget map1 s (length s) (suc (length s)) next (chip_of [] []) i.within (omega arith) (omega arith)) in
        rw (add-one, e) (ap suc (sym (lines-count map1 s (length s) next _) ∙ same ∙ lines-count map1 s (suc (length s)) next _))

    pub left_end : next_at s place ≡ End → lines_left place ≡ 0
    unfolding count_from count_by
    left_end e = rw (add-one, e)

    pub left-refused : {w : Refusal} {at : ℕ} → next_at s place ≡ Refused w at → lines_left place ≡ 1
    unfolding count_from count_by
    left-refused e = rw (add-one, e)

  pub counted-lines : (image constants : List ℕ) → lines_left 0 ≡ length (lines_of s image constants)
  unfolding lines_of
  counted-lines image constants = sym (lines-count (map_used image) s (length s + 1) 0 (chip_of image constants))
