-- A digest check that fails decides before the life cycle does.
use mathlib.Core.Path.{sym, ◌∙◌}
use Rattle.power_up.proofs.PowerUpEnd.{failed}
use Rattle.power_up.proofs.Stored.checked.Goals as goal

pub returns-in-Some : goal.returns-in-Some
returns-in-Some c copy = sym (failed _ _ _ (sym c.first_failing.ensures ∙ c.in-Some.is))
