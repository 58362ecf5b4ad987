-- Tokens: what table and token permit. The idea: an act that is authorized comes to the move where the permit is granted, and else to
-- the refusal that the permit names.
use mathlib.Core.Path.{◌≡◌, refl, sym, ap, ◌∙◌}
use Rattle.std.specs.Prelude.{◌⊎◌, Option, Some, None, Result, Ok, Err, ⊤}
use mathlib.Core.Bool.{true, false, not}
use Prim.Native.Nat.{ℕ}
use native.Mathlib.Omega.{arith}
use Rattle.basics.proofs.Choice.{by_cases, if-true, if-false}
use Rattle.partitions.specs.Map.{Map, number_of_kind}
use Rattle.constants.specs.Constants.{raw_unlock_hash}
use Rattle.life_cycle.specs.declared.Token.{Token}
use Rattle.life_cycle.specs.declared.Token.TheVariants.{Nothing, RawUnlock, TestUnlock, TestExit, Rma}
use Rattle.model.specs.declared.Session.{Session}
use Rattle.model.specs.declared.Failure.{Failure}
use Rattle.model.specs.declared.Failure.TheVariants.{NotInTable, TokenNotLocked, TokenDiffers}
use Rattle.model.specs.Session.{sensed_locked}
use Rattle.model.specs.Lent.{Lent, Machine}
use Rattle.model.specs.Acts.{to_inert, Act, say}
use Rattle.model.specs.Commands.{token_kind, stored_token, hashes_to, Authorization, refused, free, by_token, locked_token, token_authorization, authorization}
use Rattle.model.specs.Commands.{move_act, authorized_act}
use Rattle.model.specs.Step.{Answered}
use Rattle.chip.specs.Chip.{primitives}
use Rattle.chip.proofs.Acting.{comes_to, compare_same, compare-other}
use Rattle.transition.specs.Permit.{compared_as, permit_of}

-- ---- what decides a move

-- a token that is stored needs its partition sensed locked
module _ (map : Map) (s : Session) (l : Lent) (token : Token) (given : ℕ) where
  pub not-locked : sensed_locked s (number_of_kind map (token_kind token)) ≡ false
      → permit_of l (locked_token primitives map s token given) ≡ Err TokenNotLocked
  unfolding permit_of locked_token
  not-locked e = ap (permit_of l) (if-true _ _ (ap not e))

  pub locked : sensed_locked s (number_of_kind map (token_kind token)) ≡ true
      → permit_of l (locked_token primitives map s token given) ≡ compared_as (hashes_to primitives given (stored_token map token l.copy))
  unfolding permit_of locked_token
  locked e = ap (permit_of l) (if-false _ _ (ap not e))

-- an entry of the table: none, a free one, the token that is a constant, or one that is stored
module _ (map : Map) (s : Session) (l : Lent) (entry : Option Token) (given : ℕ) where
  abbrev deciding : Result ⊤ Failure
  deciding = permit_of l (authorization primitives map s entry given)

  pub no-entry : entry ≡ None → deciding ≡ Err NotInTable
  unfolding permit_of authorization
  no-entry e = rw e

  pub free-entry : entry ≡ Some Nothing → deciding ≡ Ok tt
  unfolding permit_of authorization token_authorization
  free-entry e = rw e

  pub raw-entry : entry ≡ Some RawUnlock → deciding ≡ compared_as (hashes_to primitives given (raw_unlock_hash l.constants))
  unfolding permit_of authorization token_authorization
  raw-entry e = rw e

  pub stored-entry : (token : Token) → entry ≡ Some token → (token ≡ TestUnlock) ⊎ (token ≡ TestExit) ⊎ (token ≡ Rma)
      → deciding ≡ permit_of l (locked_token primitives map s token given)
  unfolding authorization token_authorization
  stored-entry TestUnlock e t = rw e
  stored-entry TestExit e t = rw e
  stored-entry Rma e t = rw e
  stored-entry Nothing e t = absurd (grind arith)
  stored-entry RawUnlock e t = absurd (grind arith)

pub ruleset locks = (not-locked, locked)

pub ruleset entries = (no-entry, free-entry, raw-entry, stored-entry)

-- ---- what a permit makes of a move

abbrev pub permitted_act : Result ⊤ Failure → Act → Act
permitted_act (Ok granted) go = go
permitted_act (Err failure) go = say (Err failure) to_inert

-- the machine m decides, and the act is performed on the machine n
module _ (map : Map) (m n : Machine) (target : ℕ) where
  abbrev permitting : Result ⊤ Failure → Answered
  permitting p = comes_to (permitted_act p (move_act primitives map m target)) n

  pub authorizing : (a : Authorization) → comes_to (authorized_act primitives map m a target) n ≡ permitting (permit_of n.lent a)
  unfolding authorized_act permit_of compared_as
  authorizing (refused failure) = refl
  authorizing free = refl
  authorizing (by_token test) =
      let go = move_act primitives map m target in
      by_cases (test n.lent) (λ t. compare_same n test go _ t ∙ ap permitting (sym (if-true (Ok tt) (Err TokenDiffers) t)))
      (λ t. compare-other n test go _ t ∙ ap permitting (sym (if-false (Ok tt) (Err TokenDiffers) t)))
