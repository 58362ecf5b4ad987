-- `find` over the range is the search of the definition.
use mathlib.Core.Path.{◌≡◌, refl, sym, ◌∙◌}
use lib.Dec.{eqb}
use lib.Pointwise.{pointwise}
use borrow.Author.Rules.{rules}
use borrow.Author.Tests.{tests}
use Rattle.std.specs.Prelude.{find, option_map}
use Rattle.std.specs.List.{range_with_len}
use Rattle.std.proofs.lemmas.Iterator.{YieldsList-from_range}
use Rattle.std.proofs.lemmas.Iterator.Adapters.{option_map_id}
use Rattle.std.proofs.lemmas.Iterator.Search.{find_from_yields_List}
use Rattle.life_cycle.specs.Words.{state_words}
use Rattle.life_cycle.proofs.Decoding.{find-encoded}
use Rattle.life_cycle.proofs.state_of.Goals as goal

pub returns : goal.returns
returns c =
    let ws = c.args.state.now in
    let words = state_words c.args.constants.now in
    let all = YieldsList-from_range {s = record { start = 0; end = 21 }} 0 21 21 refl refl in
    let found : option_map (λ x. x) c.find.result ≡ find (λ k. pointwise eqb ws (words k)) (range_with_len 0 21) =
    find_from_yields_List (λ k. pointwise eqb ws (words k)) _ _ c.find.result c.find.ensures.ran all (λ x b q k. search (rules, tests)) in
    sym (option_map_id c.find.result) ∙ found ∙ find-encoded words ws 0 21
