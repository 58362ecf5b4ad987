-- The lines of a script by its commands. The idea: `lines_from` reads a record and executes it, one at a time; no reading asks the machine, so that all
-- records may be read first.
use Prim.Native.Nat.{ℕ, zero, suc, ◌+◌}
use mathlib.Core.Path.{◌≡◌, refl, ap}
use mathlib.Core.List.{List, ◌∷◌, ◌++◌}
use lib.ListN.{length}
use Rattle.partitions.specs.Map.{Map}
use Rattle.model.specs.Answers.{code_of, value_of}
use Rattle.model.specs.Lent.{Machine}
use Rattle.model.specs.Step.{answers}
use Rattle.chip.specs.Chip.{primitives, result_for}
use Rattle.script.specs.declared.Reading.{Reading}
use Rattle.script.specs.declared.Reading.TheVariants.{Record, End, Refused}
use Rattle.script.specs.Records.{kind_of, next_at}
use Rattle.transcript.specs.Transcript.{Line, lines_from, map_used, chip_of, lines_of}
use Rattle.transcript.specs.Printed.{commands_from, refusal_from, lines_for, lines_whole}

module _ (map : Map) (s : List ℕ) where
  abbrev whole : ℕ → ℕ → Machine → List Line
  whole n place m = lines_for (commands_from n s place) (answers primitives map (commands_from n s place) m) ++ refusal_from n s place

  one_more : (n place : ℕ) (m : Machine) → ((p : ℕ) (k : Machine) → lines_from map n s p k ≡ whole n p k)
      → (r : Reading) → next_at s place ≡ r → lines_from map (suc n) s place m ≡ whole (suc n) place m
  unfolding lines_from commands_from refusal_from lines_for answers
  one_more n place m known (Record command next) e =
      let r = result_for map command m in
      let line : Line = record { kind = kind_of command; code = code_of r.answer; value = value_of r.answer } in
      rw (e, lines_from, commands_from, refusal_from) (ap (λ (ls : List Line). line ∷ ls) (known next r.machine))
  one_more n place m known End e = rw (e, lines_from, commands_from, refusal_from)
  one_more n place m known (Refused w at) e = rw (e, lines_from, commands_from, refusal_from)

  lines-from : (n place : ℕ) (m : Machine) → lines_from map n s place m ≡ whole n place m
  unfolding lines_from commands_from refusal_from lines_for
  lines-from zero place m = refl
  lines-from (suc n) place m = one_more n place m (lines-from n) (next_at s place) refl

pub lines-whole : (script image constants : List ℕ) → lines_of script image constants ≡ lines_whole script image constants
unfolding lines_of
lines-whole script image constants = lines-from (map_used image) script (length script + 1) 0 (chip_of image constants)
