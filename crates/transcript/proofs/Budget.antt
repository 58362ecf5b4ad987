-- A budget of lines above the script's length serves from every place. The idea: a record's next place is above its place and at most the script's
-- length, so no such budget is used up.
use Prim.Native.Nat.{ℕ, zero, suc, ◌+◌, ◌≤◌, ◌<◌}
use mathlib.Core.Path.{◌≡◌, refl, ap}
use mathlib.Core.List.{List, ◌∷◌}
use native.Mathlib.Omega.{arith}
use lib.ListN.{length}
use Rattle.partitions.specs.Map.{Map}
use Rattle.model.specs.Answers.{code_of, value_of}
use Rattle.model.specs.Lent.{Machine}
use Rattle.chip.specs.Chip.{result_for}
use Rattle.script.specs.declared.Reading.{Reading}
use Rattle.script.specs.declared.Reading.TheVariants.{Record, End, Refused}
use Rattle.script.specs.Records.{kind_of, next_at}
use Rattle.script.proofs.Records.{is_read}
use Rattle.transcript.specs.Transcript.{Line, lines_from}

module _ (map : Map) (s : List ℕ) where
  same_more : (a b place : ℕ) (m : Machine) → ((p : ℕ) (k : Machine) → p ≤ length s → place < p → lines_from map a s p k ≡ lines_from map b s p k)
      → (r : Reading) → next_at s place ≡ r → lines_from map (suc a) s place m ≡ lines_from map (suc b) s place m
  unfolding lines_from
  same_more a b place m known (Record command next) e =
      let i = is_read s place e in
      let r = result_for map command m in
      let line : Line = record { kind = kind_of command; code = code_of r.answer; value = value_of r.answer } in
      rw (e, lines_from) (ap (λ (ls : List Line). line ∷ ls) (known next r.machine i.within i.above))
  same_more a b place m known End e = rw (e, lines_from)
  same_more a b place m known (Refused w at) e = rw (e, lines_from)

  pub same-budget : (a b place : ℕ) (m : Machine) → place ≤ length s → length s < place + a → length s < place + b
      → lines_from map a s place m ≡ lines_from map b s place m
  same-budget zero b place m h ha hb = absurd (omega arith)
  same-budget (suc a) zero place m h ha hb = absurd (omega arith)
  same-budget (suc a) (suc b) place m h ha hb =
      same_more a b place m (λ p k l g. same-budget a b p k l (omega arith) (omega arith)) (next_at s place) refl
