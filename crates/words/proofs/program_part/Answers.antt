-- The search finds the answer; where it finds no word the part becomes the value, which is all that `program_cells` stores, and else neither changes it.
use mathlib.Core.Path.{sym, ap, ◌∙◌}
use native.Mathlib.Omega.{arith}
use borrow.Author.Rules.{rules}
use Rattle.words.proofs.Programming.{refused-lowest, stored-done, stored_refused}
use Rattle.words.proofs.Lent.{named, searched, sets-whole}
use Rattle.words.proofs.program_part.Goals as goal

pub returns-in-Some : goal.returns-in-Some
returns-in-Some c =
    let rule = c.args.rule in
    let p = c.args.part.now in
    let v = c.args.value.now in
    let refused = searched rule p v c.requires ∙ ap named (sym c.in-Some.ensures) in
    record {
      answer = sym refused;
      words = sym (stored_refused rule p v 0 c.in-Some.i refused);
      within = omega (arith, (refused-lowest rule v p 0 c.in-Some.i refused).to);
    }

pub returns : goal.returns
returns c =
    let rule = c.args.rule in
    let p = c.args.part.now in
    let v = c.args.value.now in
    let done = searched rule p v c.requires ∙ ap named (sym c.in_default.ensures) in
    record { answer = sym done; words = search rules ∙ sym (stored-done rule p v 0 done ∙ sets-whole p v c.requires); within = tt }
