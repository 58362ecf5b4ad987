-- The results of the commands on an address. The idea: where no place is reached, or the command may not act there, nothing changes; else the result
-- is what the command's act comes to.
use mathlib.Core.Path.{◌≡◌, refl, sym, ap, ◌∙◌}
use mathlib.Core.Bool.{Bool, true, false, ◌||◌}
use mathlib.Core.List.{List}
use Rattle.std.specs.Prelude.{None, Result, Ok, Err}
use Prim.Native.Nat.{ℕ, ◌≤◌}
use lib.Dec.{leb}
use borrow.Author.Tests.{le-leb, lt-leb}
use Rattle.basics.specs.Choice.{when◌then◌else◌}
use Rattle.basics.proofs.Choice.{if-true, if-false, or_right, or-none}
use Rattle.words.specs.declared.Rule.{Rule}
use Rattle.words.specs.Programming.{program_answer, program_cells}
use Rattle.words.proofs.Programming.{by_answer, stored_refused}
use Rattle.partitions.specs.Map.{Map, limit}
use Rattle.model.specs.declared.Failure.{Failure}
use Rattle.model.specs.Answers.{Answer}
use Rattle.model.specs.declared.Failure.TheVariants.{Denied}
use Rattle.model.specs.declared.Command.{Command}
use Rattle.model.specs.Lent.{Machine, with_cells}
use Rattle.model.specs.Acts.{effect_on, no_effect, Act, say, program, refuse}
use Rattle.model.specs.Step.{Answered}
use Rattle.chip.specs.Chip.{machine_of, result_of, result_for}
use Rattle.chip.proofs.Acting.{admitting, comes_to, said, program-done, program-refused, refused, admitted-result}
use Rattle.direct_access.specs.declared.Place.{Place}
use Rattle.direct_access.specs.Access.{place_at, reached, programmed_answer}
use Rattle.direct_access.proofs.Places.{by_place, not-admitted, past-map, in_map, reached-at, Located}
use Rattle.direct_access.proofs.Decisions.{Decided}

-- ---- what an act comes to

pub said-only : (m : Machine) (b : Answer) → comes_to (say b no_effect) m ≡ record { machine = m; answer = b }
unfolding effect_on
said-only m b = said m b no_effect

-- the words are programmed and a value is answered, or a cell refuses and nothing changes
programs : (m : Machine) (rule : Rule) (at : ℕ) (ws : List ℕ) (value : ℕ)
    → comes_to (program rule at ws no_effect (say (Ok value) no_effect)) m
    ≡ result_of (with_cells (program_cells rule m.lent.cells at ws) m.lent)
    (record { session = m.session; answer = programmed_answer (program_answer rule m.lent.cells at ws) value })
programs m rule at ws value =
    let c = m.lent.cells in
    by_answer (program_answer rule c at ws)
    (λ e. program-done m rule at ws no_effect _ e ∙ said-only (machine_of (with_cells (program_cells rule c at ws) m.lent) m.session) (Ok value) ∙ rw e)
    (λ i e. program-refused m rule at ws no_effect _ i e ∙ said-only m _ ∙ rw (e, stored_refused rule c ws at i e))

-- ---- a command on an address

module _ {map : Map} {x : Command} {m : Machine} {a : ℕ} {denies : Place → Bool} {go : Place → Act} (d : Decided map x m a denies go) where
  abbrev result : Answer → Answered
  result b = record { machine = m; answer = b }

  -- the act that is decided
  decided : {t : Act} → admitting map m ≡ None
      → (when leb (limit map) a || denies (place_at map a) then refuse Denied else go (place_at map a)) ≡ t
      → result_for map x m ≡ comes_to t m
  decided e f = admitted-result map x m d.acts e ∙ ap (λ (t : Act). comes_to t m) (d.decides ∙ f)

  past : admitting map m ≡ None → limit map ≤ a → result (Err Denied) ≡ result_for map x m
  past e h = sym (decided e (if-true _ _ (rw (le-leb _ _ h) refl)) ∙ said-only m (Err Denied))

  pub stopped : {f : Failure} → reached map m a ≡ Err f → result (Err f) ≡ result_for map x m
  stopped {f} r =
      by_place map m a
      (λ g e. let q : g ≡ f = same (sym (not-admitted map m a g e) ∙ r) in rw (← q) (refused map x m d.acts g e))
      (λ e h. let q : Denied ≡ f = same (sym (past-map map m a e h) ∙ r) in rw (← q) (past e h))
      (λ e h. let z = in_map map m a e h in cc)
    where
      same : {g : Failure} → ◌≡◌ {A = Result Place Failure} (Err g) (Err f) → g ≡ f
      same q = cc

  module _ {q : Place} (r : reached map m a ≡ Ok q) where
    place : Located map m a q
    place = reached-at map m a q r

    there : {b : Bool} → denies q ≡ b → denies (place_at map a) ≡ b
    there e = ap denies (sym place.found) ∙ e

    pub denied : denies q ≡ true → result (Err Denied) ≡ result_for map x m
    denied e = sym (decided place.admitted-there (if-true _ _ (or_right (leb (limit map) a) _ (there e))) ∙ said-only m (Err Denied))

    -- it is not denied: the result is what its act comes to
    pub arrived : denies q ≡ false → {t : Act} → go q ≡ t → comes_to t m ≡ result_for map x m
    arrived e f =
        sym (decided place.admitted-there (if-false _ _ (or-none (leb (limit map) a) _ (lt-leb _ _ place.within) (there e))
        ∙ ap go (sym place.found) ∙ f))

    -- it answers a value
    pub answered : denies q ≡ false → {w : ℕ} → go q ≡ say (Ok w) no_effect → {v : ℕ} → v ≡ w
        → result (Ok v) ≡ result_for map x m
    answered e f g = rw g (sym (said-only m _) ∙ arrived e f)

    -- it programs words and answers a value; or a cell refuses
    pub burnt : denies q ≡ false → {rule : Rule} {at : ℕ} {ws : List ℕ} {v : ℕ}
        → go q ≡ program rule at ws no_effect (say (Ok v) no_effect) → {cells : List ℕ} {b : Answer}
        → cells ≡ program_cells rule m.lent.cells at ws → b ≡ programmed_answer (program_answer rule m.lent.cells at ws) v
        → result_of (with_cells cells m.lent) (record { session = m.session; answer = b }) ≡ result_for map x m
    burnt e {rule} {at} {ws} {v} f g h = rw (g, h) (sym (programs m rule at ws v) ∙ arrived e f)
