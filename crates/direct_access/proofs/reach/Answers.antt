-- A command that is not admitted is refused for that.
use mathlib.Core.Path.{sym}
use Rattle.std.proofs.lemmas.Result.{err_from_is_err_and}
use Rattle.direct_access.proofs.Places.{not-admitted}
use Rattle.direct_access.proofs.reach.Goals as goal

pub returns-in_err-admit : goal.returns-in_err-admit
returns-in_err-admit c =
    let e = err_from_is_err_and c.from_residual.result c.from_residual.ensures.1 in
    rw (e.1, e.2) (sym (not-admitted _ _ _ _ (sym (rw c.sizes_of.ensures at c.in_err-admit.ensures))))
