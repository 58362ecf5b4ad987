-- The judgement, as the code finds it. The idea: each early return is the first reason of the definition that applies; admitted is what is accepted in the
-- phase Ready.
use mathlib.Core.Path.{◌≡◌, sym, ap, ◌∙◌}
use mathlib.Core.Bool.{true, false, not, ◌&&◌}
use mathlib.Core.List.{List}
use Prim.Native.Nat.{ℕ, ◌/◌}
use lib.Dec.{eqb}
use Rattle.std.specs.Prelude.{Some, None}
use lib.ListN.{length}
use borrow.Author.Tests.{eqb-true, eq-eqb, ne_eqb}
use Rattle.basics.proofs.Choice.{by-option, by_cases, and-three, and-false, if-true, if-false}
use Rattle.std.proofs.lemmas.Option.{none-some}
use Rattle.partitions.specs.Map.{Map, limit}
use Rattle.constants.specs.Constants.{constant_count, valid_constants}
use Rattle.model.specs.declared.Phase.{Phase}
use Rattle.model.specs.declared.Sizes.{Sizes}
use Rattle.model.specs.declared.Failure.{Failure}
use Rattle.model.specs.declared.Failure.TheVariants.{NotReady, WrongLength, InvalidConstants}
use Rattle.model.specs.Session.{is_ready}
use Rattle.model.specs.Lent.{right_sizes}
use Rattle.model.specs.Step.{judgement}
use Rattle.model.proofs.Steps.{judgement-right}
use Rattle.chip.specs.Judging.{admission}

module _ (map : Map) (sizes : Sizes) (k : List ℕ) where
  -- ---- each reason

  pub wrong-length : right_sizes map sizes (length k) ≡ false → Some WrongLength ≡ judgement map sizes k
  unfolding judgement
  wrong-length e = sym (if-true _ _ (ap not e))

  pub cells-wrong : (sizes.cells ≡ limit map / 2 → ⊥) → right_sizes map sizes (length k) ≡ false
  unfolding right_sizes
  cells-wrong h = rw (ne_eqb sizes.cells (limit map / 2) h)

  pub copy-wrong : (sizes.copy ≡ limit map / 2 → ⊥) → right_sizes map sizes (length k) ≡ false
  unfolding right_sizes
  copy-wrong h = rw (and-false (eqb sizes.cells (limit map / 2)) (ne_eqb sizes.copy (limit map / 2) h))

  pub constants-wrong : (length k ≡ constant_count → ⊥) → right_sizes map sizes (length k) ≡ false
  unfolding right_sizes
  constants-wrong h = and-false (eqb sizes.cells (limit map / 2) && eqb sizes.copy (limit map / 2)) (ne_eqb (length k) constant_count h)

  pub sizes-right : sizes.cells ≡ limit map / 2 → sizes.copy ≡ limit map / 2 → length k ≡ constant_count → right_sizes map sizes (length k) ≡ true
  unfolding right_sizes
  sizes-right a b c = rw (eq-eqb sizes.cells (limit map / 2) a, eq-eqb sizes.copy (limit map / 2) b, eq-eqb (length k) constant_count c)

  pub invalid-constants : right_sizes map sizes (length k) ≡ true → valid_constants k ≡ false → Some InvalidConstants ≡ judgement map sizes k
  unfolding judgement
  invalid-constants e v = sym (if-false _ _ (ap not e) ∙ if-true _ _ (ap not v))

  pub accepted : right_sizes map sizes (length k) ≡ true → valid_constants k ≡ true → None ≡ judgement map sizes k
  unfolding judgement
  accepted e v = sym (if-false _ _ (ap not e) ∙ if-false _ _ (ap not v))

  -- ---- what is known once it is accepted

  pub record Accepts : Type 0 where
    pub cells_right : sizes.cells ≡ limit map / 2
    pub copy-right : sizes.copy ≡ limit map / 2

  pub accepts : judgement map sizes k ≡ None → Accepts
  unfolding right_sizes
  accepts e =
      let s = and-three (eqb sizes.cells (limit map / 2)) (eqb sizes.copy (limit map / 2)) _ (judgement-right map sizes k e).0 in
      record { cells_right = eqb-true _ _ s.0; copy-right = eqb-true _ _ s.1 }

  -- ---- the phase

  module _ (phase : Phase) where
    pub not-accepted : (failure : Failure) → judgement map sizes k ≡ Some failure → admission map sizes k phase ≡ Some failure
    unfolding admission
    not-accepted failure e = rw (e, admission)

    pub phase-not-ready : judgement map sizes k ≡ None → is_ready phase ≡ false → admission map sizes k phase ≡ Some NotReady
    unfolding admission
    phase-not-ready e r = rw (e, admission) (if-false _ _ r)

    pub phase-ready : judgement map sizes k ≡ None → is_ready phase ≡ true → admission map sizes k phase ≡ None
    unfolding admission
    phase-ready e r = rw (e, admission) (if-true _ _ r)

    pub admitted : admission map sizes k phase ≡ None → (judgement map sizes k ≡ None) × (is_ready phase ≡ true)
    admitted h =
        by-option (judgement map sizes k)
        (λ e. by_cases (is_ready phase) (λ r. (e, r)) (λ r. absurd (none-some _ (sym h ∙ phase-not-ready e r))))
        (λ a e. absurd (none-some _ (sym h ∙ not-accepted a e)))

pub ruleset judgements = (wrong-length, cells-wrong, copy-wrong, constants-wrong, sizes-right, invalid-constants, accepted)

pub ruleset admissions = (not-accepted, phase-not-ready, phase-ready)
