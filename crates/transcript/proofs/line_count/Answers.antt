-- The invariant: the lines counted and those left from the place on are those of the whole script.
use Prim.Native.Nat.{ℕ}
use mathlib.Core.Path.{◌≡◌, sym, ap, ◌∙◌}
use mathlib.Core.List.{List}
use native.Mathlib.Omega.{arith}
use Rattle.script.specs.declared.Reading.{Reading}
use Rattle.script.specs.declared.Reading.TheVariants.{Record}
use Rattle.script.specs.Records.{next_at}
use Rattle.script.proofs.Records.{IsRead, is_read}
use Rattle.transcript.proofs.Counting.{left-record, left_end, left-refused, counted-lines}
use Rattle.transcript.proofs.line_count.Goals as goal
use Rattle.transcript.proofs.line_count.Goals.{In-Record}

-- what the reader comes to, in the script that was lent
here : {own script : List ℕ} (place : ℕ) {reading found : Reading} → own ≡ script → reading ≡ next_at own place → reading ≡ found
    → next_at script place ≡ found
here place same e f = ap (λ s. next_at s place) (sym same) ∙ sym e ∙ f

found : (c : In-Record) → next_at c.args.script.now c.loop-next.reader.place ≡ Record c.in-Record.field-0 c.in-Record.next
found c = here c.loop-next.reader.place c.loop-next.invariant.0 c.next.ensures c.in-Record.is

read : (c : In-Record) → IsRead c.args.script.now c.loop-next.reader.place c.in-Record.field-0 c.in-Record.next
read c = is_read _ _ (found c)

pub loop-next-smaller : goal.loop-next-smaller
loop-next-smaller c = omega (arith, (read c).above, (read c).within)

pub loop-next-preserved : goal.loop-next-preserved
loop-next-preserved c =
    (c.loop-next.invariant.0, (read c).within, omega (arith, (read c).above), omega (arith, left-record c.args.script.now c.loop-next.reader.place (found c)))

pub returns-in-End : goal.returns-in-End
returns-in-End c = λ image constants.
    let s = c.args.script.now in
    let p = c.loop-next.reader.place in
    omega (arith, left_end s p (here p c.loop-next.invariant.0 c.next.ensures c.in-End.is), counted-lines s image constants)

pub returns-in-Refused : goal.returns-in-Refused
returns-in-Refused c = λ image constants.
    let s = c.args.script.now in
    let p = c.loop-next.reader.place in
    omega (arith, left-refused s p (here p c.loop-next.invariant.0 c.next.ensures c.in-Refused.is), counted-lines s image constants)
