-- The token comparisons of a transition. The idea: an act compares once at most, and the code of its answer fixes whether it did and with which result.
use Rattle.std.specs.Prelude.{Err, Result, ⊤, Option, Some, None}
use mathlib.Core.Path.{◌≡◌, refl, ap}
use mathlib.Core.Bool.{Bool, true, false}
use mathlib.Core.List.{List, [], ◌∷◌}
use mathlib.Core.Logic.{inl, inr, ◌⊎◌}
use Prim.Native.Nat.{ℕ, suc}
use native.Mathlib.Omega.{arith}
use lib.Dec.{eqb}
use borrow.Author.Tests.{eqb-false}
use Rattle.basics.specs.Choice.{when◌then◌else◌}
use Rattle.basics.proofs.Choice.{true-not-false, if-both}
use Rattle.words.specs.Programming.{program_answer}
use Rattle.partitions.specs.Map.{Map}
use Rattle.life_cycle.specs.declared.Token.{Token}
use Rattle.life_cycle.specs.declared.Token.TheVariants.{Nothing, RawUnlock, TestUnlock, TestExit, Rma}
use Rattle.life_cycle.specs.Words.{counter_words, state_words}
use Rattle.life_cycle.specs.Transitions.{table_entry}
use Rattle.model.specs.declared.Failure.TheVariants.{TokenDiffers}
use Rattle.model.specs.declared.Command.TheVariants.{Transition}
use Rattle.model.specs.Answers.{code_of}
use Rattle.constants.specs.Constants.{raw_unlock_hash}
use Rattle.model.specs.Lent.{Machine, Primitives, Lent}
use Rattle.model.specs.Acts.{to_inert, Act, say, Performed, perform, with_comparison, after_program}
use Rattle.model.specs.Commands.{life_cycle_rule, counter_at, state_at, move_act, transition_act, command_act, ready_act, hashes_to, stored_token}
use Rattle.model.specs.Commands.{authorization}
use Rattle.model.specs.Commands.{Authorization, authorized_act, locked_token, token_authorization, free, by_token, class_of, transiting}
use Rattle.model.specs.Step.{Step, unchanged, performed, act, obey, step, power_up}
use Rattle.model.specs.Claims.Refusals.{judgement_code}
use Rattle.model.specs.declared.Command.{Command}
use Rattle.model.proofs.Acts.{after_both}
use Rattle.model.proofs.Steps.{step_both, obeys-act}
use Rattle.model.proofs.Forms.{Form, act-form}
use Rattle.model.proofs.Classes.{by-class, no-power-up, quiet-not-power-up, access-quiet}

-- tokens by number, none being 0
abbrev token_number : Token → ℕ
token_number Nothing = 0
token_number RawUnlock = 1
token_number TestUnlock = 2
token_number TestExit = 3
token_number Rma = 4

abbrev entry_number : Option Token → ℕ
entry_number None = 5
entry_number (Some token) = token_number token

module _ (entry : Option Token) where
  -- what a code says of the comparisons, where the table has this entry
  pub record ByCode (code : ℕ) (compared : List Bool) : Type 0 where
    pub differs : code ≡ 0x23 → compared ≡ false ∷ []
    pub free : code ≡ 0x00 → entry ≡ Some Nothing → compared ≡ []
    pub same : code ≡ 0x00 → (entry ≡ Some Nothing → ⊥) → compared ≡ true ∷ []
    pub refused : code ≡ 0x04 → (compared ≡ []) ⊎ ((entry ≡ Some Nothing → ⊥) × (compared ≡ true ∷ []))
    pub other : (code ≡ 0x23 → ⊥) → (code ≡ 0x00 → ⊥) → (code ≡ 0x04 → ⊥) → compared ≡ []

  abbrev ResultByCode : Performed → Type 0
  ResultByCode r = ByCode (code_of r.answer) r.compared

  -- an answer without a comparison
  without : (code : ℕ) → eqb code 0x23 ≡ false → eqb code 0x00 ≡ false → ByCode code []
  without code d z = record {
    differs = λ q. absurd (eqb-false _ _ d q);
    free = λ q. absurd (eqb-false _ _ z q);
    same = λ q. absurd (eqb-false _ _ z q);
    refused = λ q. inl refl;
    other = λ a b c. refl;
  }

  -- a 4 after a token that agrees
  four_same : (entry ≡ Some Nothing → ⊥) → ByCode 0x04 (true ∷ [])
  four_same n = record {
    differs = λ q. absurd (omega arith);
    free = λ q. absurd (omega arith);
    same = λ q. absurd (omega arith);
    refused = λ q. inr (n, refl);
    other = λ a b c. absurd (c refl);
  }

module _ (prims : Primitives) (map : Map) (m : Machine) (target given : ℕ) (entry : Option Token) (l : Lent) where
  -- what an authorization comes to
  abbrev Comes : Authorization → Type 0
  Comes a = ResultByCode entry (perform (authorized_act prims map m a target) l)

  -- a move after no token
  moves-free : entry ≡ Some Nothing → Comes free
  unfolding authorized_act move_act perform
  moves-free e =
      after_both (ResultByCode entry) (program_answer life_cycle_rule l.cells (state_at map) (state_words m.lent.constants target)) _ _
      (λ q. record {
        differs = λ z. absurd (omega arith);
        free = λ z f. refl;
        same = λ z n. absurd (n e);
        refused = λ z. absurd (omega arith);
        other = λ a b c. absurd (b refl);
      })
      (λ cell q. without entry 0x04 refl refl)

  -- a move after a token that agrees
  moves-same : (entry ≡ Some Nothing → ⊥) → ResultByCode entry (with_comparison true (perform (move_act prims map m target) l))
  unfolding move_act perform with_comparison
  moves-same n =
      after_both (λ (r : Performed). ResultByCode entry (with_comparison true r))
      (program_answer life_cycle_rule l.cells (state_at map) (state_words m.lent.constants target)) _ _
      (λ q. record {
        differs = λ z. absurd (omega arith);
        free = λ z f. absurd (n f);
        same = λ z f. refl;
        refused = λ z. absurd (omega arith);
        other = λ a b c. absurd (b refl);
      })
      (λ cell q. four_same entry n)

  compares : (entry ≡ Some Nothing → ⊥) → (test : Lent → Bool) → Comes (by_token test)
  unfolding authorized_act perform
  compares n test = by_result (test l)
    where
      by_result : (result : Bool) → ResultByCode entry
          (with_comparison result (when result then perform (move_act prims map m target) l else perform (say (Err TokenDiffers) to_inert) l))
      by_result true = unfold when◌then◌else◌ in (moves-same n)
      by_result false = unfold when◌then◌else◌ with_comparison perform in (record {
        differs = λ z. refl;
        free = λ z. absurd (omega arith);
        same = λ z. absurd (omega arith);
        refused = λ z. absurd (omega arith);
        other = λ a. absurd (a refl);
      })

  locked : (token : Token) → (entry ≡ Some Nothing → ⊥) → Comes (locked_token prims map m.session token given)
  unfolding locked_token
  locked token n =
      if-both Comes _ _ _ (λ t. unfold authorized_act perform in (without entry 0x22 refl refl))
      (λ t. compares n (λ l. hashes_to prims given (stored_token map token l.copy)))

module _ (prims : Primitives) (map : Map) (m : Machine) (target given : ℕ) where
  -- a token is not none
  some-token : {token : Token} → eqb (token_number token) 0 ≡ false → Some token ≡ Some Nothing → ⊥
  some-token {token} t e = eqb-false (token_number token) 0 t (ap entry_number e)

  asks : (entry : Option Token) (l : Lent) → Comes prims map m target given entry l (authorization prims map m.session entry given)
  unfolding authorization token_authorization
  asks None l = unfold authorized_act perform in (without None 0x21 refl refl)
  asks (Some Nothing) l = moves-free prims map m target given (Some Nothing) l refl
  asks (Some RawUnlock) l =
      compares prims map m target given (Some RawUnlock) l (some-token refl) (λ l. hashes_to prims given (raw_unlock_hash l.constants))
  asks (Some TestUnlock) l = locked prims map m target given (Some TestUnlock) l TestUnlock (some-token refl)
  asks (Some TestExit) l = locked prims map m target given (Some TestExit) l TestExit (some-token refl)
  asks (Some Rma) l = locked prims map m target given (Some Rma) l Rma (some-token refl)

module _ (prims : Primitives) (map : Map) (m : Machine) (target given : ℕ) where
  abbrev entry : Option Token
  entry = table_entry m.session.state target

  abbrev ActByCode : Act → Type 0
  ActByCode x = ResultByCode entry (perform x m.lent)

  act-by-code : ActByCode (ready_act prims map m (Transition target given))
  unfolding ready_act command_act transition_act perform
  act-by-code =
      if-both ActByCode _ _ _ (λ t. without entry 0x07 refl refl) λ t. if-both ActByCode _ _ _ (λ t. without entry 0x07 refl refl)
      λ t. if-both ActByCode _ _ _ (λ t. without entry 0x11 refl refl) λ t. if-both ActByCode _ _ _ (λ t. without entry 0x20 refl refl)
      λ t. after_both (ResultByCode entry)
      (program_answer life_cycle_rule m.lent.cells (counter_at map) (counter_words m.lent.constants (suc m.session.count))) _ _
      (λ e. asks prims map m target given entry _) (λ cell e. without entry 0x04 refl refl)

  pub step-compared : ByCode entry (code_of (step prims map (Transition target given) m).result.answer)
      (step prims map (Transition target given) m).compared
  unfolding unchanged obey act performed
  step-compared =
      step_both prims map (λ (s : Step). ByCode entry (code_of s.result.answer) s.compared) (Transition target given) m
      (λ failure j. judged-without (code_of (Err failure)) j) act-by-code
    where
      judged-without : (code : ℕ) → judgement_code code ≡ true → ByCode (table_entry m.session.state target) code []
      judged-without code j = record {
        differs = λ q. absurd (true-not-false j (rw q));
        free = λ q. absurd (true-not-false j (rw q));
        same = λ q. absurd (true-not-false j (rw q));
        refused = λ q. inl refl;
        other = λ a b c. refl;
      }

-- ---- the other commands compare nothing

module _ (prims : Primitives) (map : Map) (m : Machine) where
  after_none : (r : Result ⊤ ℕ) (x : Performed) (f : ℕ → Performed) → x.compared ≡ [] → ((cell : ℕ) → (f cell).compared ≡ [])
      → (after_program r x f).compared ≡ []
  after_none r x f e h = after_both (λ (p : Performed). p.compared ≡ []) r x f (λ q. e) (λ cell q. h cell)

  form-none : {x : Command} {act : Act} → (class_of x ≡ transiting → ⊥) → Form prims map m x act → (perform act m.lent).compared ≡ []
  unfolding perform
  form-none n (Form.refuses r) = refl
  form-none n Form.reads = refl
  form-none n Form.front_reads = refl
  form-none n Form.locks = refl
  form-none n (Form.writes w) = after_none _ _ _ refl (λ cell. refl)
  form-none n (Form.digests w) = after_none _ _ _ refl (λ cell. refl)
  form-none n (Form.used t u) = absurd (n refl)
  form-none n (Form.spends t u) = absurd (n refl)

  act-none : (x : Command) → (class_of x ≡ transiting → ⊥) → (act prims map x m).compared ≡ []
  unfolding act performed
  act-none x n = form-none n (act-form prims map m x)

  pub no-comparison : (x : Command) → (class_of x ≡ transiting → ⊥) → (step prims map x m).compared ≡ []
  unfolding unchanged
  no-comparison x n =
      step_both prims map (λ (s : Step). s.compared ≡ []) x m (λ answer j. refl)
      (by-class (λ (x : Command). (class_of x ≡ transiting → ⊥) → (obey prims map x m).compared ≡ []) (λ n. unfold obey power_up in refl)
      (λ target given n. absurd (n refl))
      (λ x e n. rw (obeys-act prims map x m (no-power-up x (quiet-not-power-up x (access-quiet x e)))) (act-none x n)) x n)
