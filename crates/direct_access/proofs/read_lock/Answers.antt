-- A command that is not admitted is refused for that.
use mathlib.Core.Path.{sym}
use Rattle.direct_access.proofs.ReadLock.{lock-stopped}
use Rattle.direct_access.proofs.read_lock.Goals as goal

pub returns-in-Err : goal.returns-in-Err
returns-in-Err c = lock-stopped _ _ _ _ (sym (rw c.sizes_of.ensures at c.in-Err.ensures))
