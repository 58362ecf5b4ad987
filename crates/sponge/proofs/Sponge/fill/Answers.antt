-- The test of the code is the definition's.
use mathlib.Core.Path.{sym}
use borrow.Author.Tests.{eq-eqb, ne_eqb}
use Rattle.basics.proofs.Choice.{if-true, if-false}
use Rattle.sponge.specs.Streaming.{filled}
use Rattle.sponge.proofs.Sponge.fill.Goals as goal

pub returns-then-self-ne0 : goal.returns-then-self-ne0
unfolding filled
returns-then-self-ne0 c = sym (if-false _ _ (ne_eqb _ _ c.if-self-ne0.true))

pub returns-else-self-ne0 : goal.returns-else-self-ne0
unfolding filled
returns-else-self-ne0 c = sym (if-true _ _ (eq-eqb _ _ c.if-self-ne0.false))
