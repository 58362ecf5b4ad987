-- What holds of a transition whose stroke is spent. The idea: its acts end in a moved state or in three refusals, behind comparisons; so a few cases serve
-- every property of an act, and with it every property of an answer and its effect.
use Rattle.std.specs.Prelude.{Ok, Err, Option, Some, None}
use mathlib.Core.Bool.{Bool}
use Prim.Native.Nat.{ℕ}
use Rattle.basics.proofs.Choice.{if-both}
use Rattle.partitions.specs.Map.{Map}
use Rattle.life_cycle.specs.declared.Token.{Token}
use Rattle.life_cycle.specs.declared.Token.TheVariants.{Nothing, RawUnlock, TestUnlock, TestExit, Rma}
use Rattle.model.specs.declared.Failure.TheVariants.{NotBlank, NotInTable, TokenNotLocked, TokenDiffers}
use Rattle.model.specs.Answers.{Answer}
use Rattle.model.specs.Lent.{Lent, Machine, Primitives}
use Rattle.model.specs.Acts.{Effect, to_inert, to_dead, Act, say, compare}
use Rattle.model.specs.Commands.{Authorization, locked_token, token_authorization, authorization, move_act, authorized_act}
use Rattle.model.proofs.Acts.{Gives, says, programs, compares}

module _ (prims : Primitives) (map : Map) (m : Machine) (target : ℕ) where
  -- the ends have the property, and a comparison of two acts that have it
  pub record EndCases (Q : Act → Type 0) : Type 0 where
    pub moved : Q (move_act prims map m target)
    pub forbidden : Q (say (Err NotInTable) to_inert)
    pub token_unlocked : Q (say (Err TokenNotLocked) to_inert)
    pub differs : Q (say (Err TokenDiffers) to_inert)
    pub compared : (test : Lent → Bool) (same other : Act) → Q same → Q other → Q (compare test same other)

  module _ (Q : Act → Type 0) (end_cases : EndCases Q) where
    abbrev Authorized : Authorization → Type 0
    Authorized a = Q (authorized_act prims map m a target)

    locked-all : (token : Token) (given : ℕ) → Authorized (locked_token prims map m.session token given)
    unfolding locked_token authorized_act
    locked-all token given = if-both Authorized _ _ _ (λ e. end_cases.token_unlocked) (λ e. end_cases.compared _ _ _ end_cases.moved end_cases.differs)

    token-all : (token : Token) (given : ℕ) → Authorized (token_authorization prims map m.session token given)
    unfolding token_authorization authorized_act
    token-all Nothing given = end_cases.moved
    token-all RawUnlock given = end_cases.compared _ _ _ end_cases.moved end_cases.differs
    token-all TestUnlock given = locked-all TestUnlock given
    token-all TestExit given = locked-all TestExit given
    token-all Rma given = locked-all Rma given

    pub entry-all : (entry : Option Token) (given : ℕ) → Authorized (authorization prims map m.session entry given)
    unfolding authorization authorized_act
    entry-all None given = end_cases.forbidden
    entry-all (Some token) given = token-all token given

-- the five answers, each with its effect, have the property
pub record Ends (T : Answer → Effect → Type 0) : Type 0 where
  pub not-blank : (cell : ℕ) → T (Err (NotBlank cell)) to_dead
  pub moved : T (Ok 0) to_inert
  pub forbidden : T (Err NotInTable) to_inert
  pub token_unlocked : T (Err TokenNotLocked) to_inert
  pub differs : T (Err TokenDiffers) to_inert

pub entry_gives : {T : Answer → Effect → Type 0} → Ends T → (prims : Primitives) (map : Map) (m : Machine) (entry : Option Token) (target given : ℕ)
    → Gives T (authorized_act prims map m (authorization prims map m.session entry given) target)
unfolding move_act
entry_gives {T} ends prims map m entry target given =
    entry-all prims map m target (Gives T)
    (record {
      moved = programs ends.not-blank (says ends.moved);
      forbidden = says ends.forbidden;
      token_unlocked = says ends.token_unlocked;
      differs = says ends.differs;
      compared = λ test same other. compares;
    }) entry given
