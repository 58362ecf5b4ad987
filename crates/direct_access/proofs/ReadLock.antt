-- Read lock. The idea: it asks nothing but the kind of the partition.
use mathlib.Core.Path.{◌≡◌, sym, ap, ◌∙◌}
use mathlib.Core.Bool.{true, false, not}
use Rattle.std.specs.Prelude.{Some, None, Ok, Err}
use Prim.Native.Nat.{ℕ}
use Rattle.basics.proofs.Choice.{if-true, if-false}
use Rattle.partitions.specs.Map.{Map, rights_of, partition}
use Rattle.model.specs.declared.Failure.{Failure}
use Rattle.model.specs.declared.Failure.TheVariants.{Denied}
use Rattle.model.specs.declared.Command.TheVariants.{ReadLock}
use Rattle.model.specs.Session.{with_lock}
use Rattle.model.specs.Lent.{Machine}
use Rattle.model.specs.Acts.{lock, effect_on, Act}
use Rattle.model.specs.Commands.{read_lock_act, command_act}
use Rattle.chip.specs.Chip.{result_for}
use Rattle.chip.proofs.Acting.{admitting, comes_to, said, refused, admitted-result}
use Rattle.direct_access.proofs.Results.{said-only}

module _ (map : Map) (m : Machine) (n : ℕ) where
  pub lock-stopped : (f : Failure) → admitting map m ≡ Some f → record { machine = m; answer = Err f } ≡ result_for map (ReadLock n) m
  lock-stopped = refused map (ReadLock n) m tt

  module _ (admitted : admitting map m ≡ None) where
    pub lock-denied : (rights_of (partition map n).kind).lockable ≡ false → record { machine = m; answer = Err Denied } ≡ result_for map (ReadLock n) m
    unfolding command_act read_lock_act
    lock-denied e = sym (admitted-result map (ReadLock n) m tt admitted ∙ ap (λ (t : Act). comes_to t m) (if-true _ _ (ap not e)) ∙ said-only m (Err Denied))

    pub lock-done : (rights_of (partition map n).kind).lockable ≡ true
        → record { machine = record { lent = m.lent; session = with_lock n m.session }; answer = Ok 0 } ≡ result_for map (ReadLock n) m
    unfolding command_act read_lock_act effect_on
    lock-done e = sym (admitted-result map (ReadLock n) m tt admitted ∙ ap (λ (t : Act). comes_to t m) (if-false _ _ (ap not e)) ∙ said m (Ok 0) (lock n))

pub ruleset locks = (lock-stopped, lock-denied, lock-done)
