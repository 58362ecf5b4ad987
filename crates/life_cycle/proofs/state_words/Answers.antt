-- Each call of the closure gives the word that the definition lists.
use borrow.Author.Rules.{rules}
use Rattle.basics.proofs.Range.{is-listed}
use Rattle.life_cycle.specs.Words.{state_words}
use Rattle.life_cycle.proofs.state_words.Goals as goal

pub returns : goal.returns
unfolding state_words
returns c = is-listed _ 20 _ c.from_fn.ensures.items.long (search rules)
