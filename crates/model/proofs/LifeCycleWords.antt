-- The life cycle words of a machine. The idea: where they decode to the record's state and count, the words of one stroke more, and of an allowed state, cover
-- them, so that both are taken and decode to the next count and state; every command but a transition leaves them.
use Rattle.std.specs.Prelude.{Ok, Some}
use mathlib.Core.Path.{◌≡◌, refl, ap₂, ◌∙◌}
use mathlib.Core.Bool.{true}
use mathlib.Core.List.{List}
use Prim.Native.Nat.{ℕ, suc, ◌+◌, ◌≤◌, ◌<◌}
use native.Mathlib.Omega.{arith}
use lib.ListN.{length}
use Rattle.basics.proofs.Choice.{true-not-false}
use Rattle.words.specs.Words.{part_at}
use Rattle.words.specs.Programming.{program_answer, program_cells}
use Rattle.words.proofs.Parts.{part_same}
use Rattle.words.proofs.Programming.{program-elsewhere, program-takes, program-length}
use Rattle.partitions.specs.Map.{Map, number_of_kind}
use Rattle.partitions.specs.Fitness.{fit}
use Rattle.partitions.proofs.Map.{life-cycle-last, life-cycle-partition, partition-fit}
use Rattle.life_cycle.specs.declared.Token.{Token}
use Rattle.life_cycle.specs.Words.{counter_words, state_words, decoded}
use Rattle.life_cycle.specs.Transitions.{table_entry}
use Rattle.life_cycle.proofs.Encoding.{counter-length, state-length}
use Rattle.life_cycle.proofs.Decoding.{decoded-says, decoded-valid}
use Rattle.life_cycle.proofs.Covering.{stroke-done, transition-done}
use Rattle.life_cycle.proofs.Table.{allowed-ends}
use Rattle.model.specs.declared.Command.{Command}
use Rattle.model.specs.Lent.{Lent, Machine, Primitives, with_cells}
use Rattle.model.specs.Commands.{life_cycle_rule, counter_at, state_at, class_of, access}
use Rattle.model.specs.PowerUp.{life_cycle_in}
use Rattle.model.specs.Step.{performed, act, power_up}
use Rattle.model.specs.Claims.Terms.{ValidInputs, valid_life}
use Rattle.model.proofs.Acts.{perform-frame}
use Rattle.model.proofs.Frame.{Programmable, unlocked, life_cycle, life-words, life-closed, life-same, act-open}
use Rattle.model.proofs.Steps.{cells-length, after_act, powered_up}
use Rattle.model.proofs.Classes.{access-not-transiting}
use Rattle.partitions.specs.declared.Kind.TheVariants as kind

-- the life cycle words decode to the record's state and count
abbrev pub Recorded : Primitives → Map → Machine → Type 0
Recorded prims map m = life_cycle_in map m.lent ≡ valid_life m.session.state m.session.count

-- what is decoded depends on cells and constants alone
pub life-of : (map : Map) (l l' : Lent) → l.cells ≡ l'.cells → l.constants ≡ l'.constants → life_cycle_in map l ≡ life_cycle_in map l'
unfolding life_cycle_in
life-of map l l' e f = rw (e, f)

-- ---- words that take a stroke and a move

module _ (prims : Primitives) (map : Map) (F : fit map ≡ true) (m : Machine) (r : ValidInputs map m)
    (live : Recorded prims map m) (space : m.session.count < 24) where
  abbrev k : List ℕ
  k = m.lent.constants

  abbrev counter : List ℕ
  counter = counter_words k (suc m.session.count)

  -- the cells once a stroke is spent
  abbrev pub cells₁ : List ℕ
  cells₁ = program_cells life_cycle_rule m.lent.cells (counter_at map) counter

  says : (part_at m.lent.cells (counter_at map) 24 ≡ counter_words k m.session.count)
      × (part_at m.lent.cells (state_at map) 20 ≡ state_words k m.session.state)
  unfolding life_cycle_in
  says = let d = decoded-says k _ _ _ _ live in (d.0, d.1)

  pub stroke-fits : program_answer life_cycle_rule m.lent.cells (counter_at map) counter ≡ Ok tt
  stroke-fits = stroke-done k r.valid m.lent.cells (counter_at map) m.session.count says.0

  -- spending a stroke leaves the state words
  state-stays : part_at cells₁ (state_at map) 20 ≡ state_words k m.session.state
  unfolding state_at
  state-stays =
      let short = counter-length k (suc m.session.count) in
      part_same cells₁ m.lent.cells _ 20 (λ j l u. program-elsewhere life_cycle_rule m.lent.cells counter (counter_at map) j (λ a b. omega (arith, short)))
      ∙ says.1

  pub move-fits : (target : ℕ) {token : Token} → table_entry m.session.state target ≡ Some token
      → program_answer life_cycle_rule cells₁ (state_at map) (state_words k target) ≡ Ok tt
  move-fits target a = transition-done k r.valid cells₁ (state_at map) m.session.state target state-stays a

module _ (prims : Primitives) (map : Map) (F : fit map ≡ true) where
  -- ---- commands that leave the words

  pub up-life : (m : Machine) → life_cycle_in map (powered_up prims map m).lent ≡ life_cycle_in map m.lent
  unfolding power_up
  up-life m = life-of map (powered_up prims map m).lent m.lent refl refl

  -- a command that is no transition leaves the life cycle words
  pub others-life : (x : Command) (m : Machine) → class_of x ≡ access → life_cycle_in map (after_act prims map x m).lent ≡ life_cycle_in map m.lent
  unfolding act performed
  others-life x m n =
      life-same prims map F (after_act prims map x m).lent m.lent refl
      (λ j lo hi. perform-frame (act-open prims map F m x) m.lent j (shut j lo hi))
    where
      shut : (j : ℕ) → counter_at map ≤ j → j < counter_at map + 44 → Programmable map x m.session j → ⊥
      shut j lo hi (unlocked r d z aim) = true-not-false d (life-closed prims map F j (life-words prims map F j lo hi))
      shut j lo hi (life_cycle r t e) = access-not-transiting x n t

  -- ---- after a stroke, and after a stroke and a move

  module _ (m : Machine) (r : ValidInputs map m) (live : Recorded prims map m) (space : m.session.count < 24) where
    abbrev t : List ℕ
    t = m.lent.constants

    abbrev strokes : List ℕ
    strokes = counter_words t (suc m.session.count)

    abbrev c₁ : List ℕ
    c₁ = cells₁ prims map F m r live space

    pub life-inside : counter_at map + 44 ≤ length m.lent.cells
    unfolding counter_at
    life-inside =
        let n = number_of_kind map kind.LifeCycle in
        let known : n < length map = omega (arith, life-cycle-last map F) in
        let p = life-cycle-partition map F in
        let f = partition-fit map F known in
        omega (arith, cells-length prims map m r, p.words, p.last)

    counter-held : part_at c₁ (counter_at map) 24 ≡ strokes
    counter-held =
        let inside : counter_at map + length strokes ≤ length m.lent.cells = rw counter-length (omega (arith, life-inside)) in
        rw counter-length at (program-takes life_cycle_rule m.lent.cells strokes (counter_at map) inside (stroke-fits prims map F m r live space))

    -- what these words decode to
    decodes : (cells : List ℕ) (state : ℕ) → state ≤ 20 → part_at cells (counter_at map) 24 ≡ strokes
        → part_at cells (state_at map) 20 ≡ state_words t state
        → life_cycle_in map (with_cells cells m.lent) ≡ valid_life state (suc m.session.count)
    unfolding life_cycle_in
    decodes cells state l e f =
        ap₂ (λ (x y : List ℕ). decoded t x y) e f
        ∙ decoded-valid t (record { small = r.words }) r.valid state (suc m.session.count) l space (λ z. absurd (omega arith))

    pub spent-life : life_cycle_in map (with_cells c₁ m.lent) ≡ valid_life m.session.state (suc m.session.count)
    spent-life = decodes c₁ m.session.state known counter-held (state-stays prims map F m r live space)
      where
        known : m.session.state ≤ 20
        known = unfold life_cycle_in in (decoded-says t _ _ _ _ live).2

    module _ (target : ℕ) {token : Token} (a : table_entry m.session.state target ≡ Some token) where
      abbrev ws : List ℕ
      ws = state_words t target

      abbrev c₂ : List ℕ
      c₂ = program_cells life_cycle_rule c₁ (state_at map) ws

      counter-still : part_at c₂ (counter_at map) 24 ≡ strokes
      unfolding state_at
      counter-still = part_same _ c₁ _ 24 (λ j lo hi. program-elsewhere life_cycle_rule c₁ ws (state_at map) j (λ from upto. omega arith)) ∙ counter-held

      state-held : part_at c₂ (state_at map) 20 ≡ ws
      unfolding state_at
      state-held =
          let same = program-length life_cycle_rule m.lent.cells strokes (counter_at map) in
          let inside : state_at map + length ws ≤ length c₁ = rw state-length (omega (arith, life-inside, same)) in
          rw state-length at (program-takes life_cycle_rule c₁ ws (state_at map) inside (move-fits prims map F m r live space target a))

      pub moved-life : life_cycle_in map (with_cells c₂ m.lent) ≡ valid_life target (suc m.session.count)
      moved-life = decodes c₂ target (allowed-ends m.session.state target a).within counter-still state-held
