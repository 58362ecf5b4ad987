-- When a write answers 5, 4 and 0. The idea: the guards of its act are the reasons of a 5, one by one; past them the granule decides, and its words are all
-- taken or one of them is the lowest that refuses.
use Rattle.std.specs.Prelude.{Ok, Err, Result, ⊤}
use lib.ListN.{length}
use Rattle.partitions.proofs.Granules.{granule-within}
use Rattle.words.proofs.Words.{length-words}
use Rattle.partitions.specs.declared.Partition.{Partition}
use mathlib.Core.Path.{◌≡◌, refl, sym, ap, ◌∙◌}
use mathlib.Core.Bool.{true, false, not, ◌&&◌, ◌||◌}
use mathlib.Core.List.{List}
use mathlib.Core.Logic.{◌↔◌}
use Prim.Native.Nat.{ℕ, ◌+◌, ◌≤◌, ◌<◌}
use native.Mathlib.Omega.{arith}
use lib.Dec.{leb}
use borrow.Author.Tests.{eq-eqb, leb-true, le-leb, not-true}
use Rattle.basics.proofs.Choice.{true-not-false, and_left, and_right, and_both, if-both, or-either}
use Rattle.words.specs.Programming.{program_answer, Lowest}
use Rattle.words.proofs.Programming.{refused-not-done, refused-lowest, lowest-refused}
use Rattle.partitions.specs.Fitness.{fit}
use Rattle.partitions.proofs.KindRights.{life-cycle-only}
use Rattle.partitions.proofs.Map.{inside}
use Rattle.partitions.specs.Map.{Map, rights_of, number_at, partition_at, limit, in_digest, first_word}
use Rattle.model.specs.declared.Failure.TheVariants.{NotBlank, Denied}
use Rattle.model.specs.declared.Command.{Command}
use Rattle.model.specs.declared.Command.TheVariants.{Write, PowerUp}
use Rattle.model.specs.Answers.{Answer, code_of}
use Rattle.model.specs.Session.{is_ready, sensed_locked, locking}
use Rattle.model.specs.Lent.{Machine, Primitives}
use Rattle.model.specs.Acts.{Act, perform, Performed}
use Rattle.model.specs.Commands.{direct_rule, write_act, command_act, ready_act, write_denied, stored_digest}
use Rattle.model.specs.Step.{act, performed, obey, after, machine_after, answer_to}
use Rattle.model.specs.Claims.Terms.{ValidInputs, Says, Put, Cipher, Digested, stored_words, Allowed}
use Rattle.model.specs.Claims.Demand3.{Ready}
use Rattle.model.specs.Claims.Sensing.{Since}
use Rattle.model.specs.Claims.Burns.{WriteDenied, past, in_life_cycle, in_hardware_digest, locked}
use Rattle.model.proofs.KindNames.{hardware-kind, kind-hardware}
use Rattle.model.proofs.Acts.{after_both}
use Rattle.model.proofs.Steps.{step-obeys, after-inputs, after-constants, step-constants, cells-length}
use Rattle.model.proofs.Since.{first-since, after-since, since-sensed}
use Rattle.model.proofs.Writes.{write-takes}
use Rattle.model.proofs.TransitionCells.{put-words}
use Rattle.model.proofs.Guards.{WriteGuards, not-locked, allowed-below, write-guards, write-open, allowed-there}
use Rattle.model.proofs.Forms.{Form, act-form, refuses-not-done}
use Rattle.model.specs.declared.Phase.TheVariants as phase

module _ (prims : Primitives) (map : Map) (m : Machine) (a value : ℕ) where
  abbrev Takes : Result ⊤ ℕ → Type 0
  Takes result =
      program_answer (direct_rule (partition_at map a) a) m.lent.cells (first_word (partition_at map a) a) (stored_words prims map m.lent.constants a value)
      ≡ result

  -- ---- the ends of a write on a Ready chip

  -- not past the map, and not denied there
  record Passed : Type 0 where
    below : a < limit map
    guards : WriteGuards (partition_at map a) a (sensed_locked m.session (number_at map a))

  data WriteEnd (answer : Answer) : Type 0 where
    denied : WriteDenied prims map m a → answer ≡ Err Denied → WriteEnd answer
    stops : {i : ℕ} → Passed → Takes (Err i) → answer ≡ Err (NotBlank i) → WriteEnd answer
    done : Passed → Takes (Ok tt) → answer ≡ Ok 0 → WriteEnd answer

  -- there is then no reason for a 5
  not-denied : Passed → WriteDenied prims map m a → ⊥
  unfolding rights_of in_digest
  not-denied p (past q) = omega (arith, p.below)
  not-denied p (in_life_cycle q) = true-not-false p.guards.direct (rw q refl)
  not-denied p (in_hardware_digest q r) = true-not-false (and_both _ _ (kind-hardware q) (le-leb _ _ r)) p.guards.not_digest
  not-denied p (locked q) = q (not-locked m.session (number_at map a) p.guards.unlocked)

  -- a denial has one of the reasons
  reason : (leb (limit map) a || write_denied (sensed_locked m.session (number_at map a)) (partition_at map a) a) ≡ true → WriteDenied prims map m a
  unfolding write_denied sensed_locked in_digest
  reason e =
      let p = partition_at map a in
      let hardware = (rights_of p.kind).hardware in
      let sealed = hardware && leb p.digest a in
      let closed = not (rights_of p.kind).direct in
      or-either (leb (limit map) a) _ e (λ t. past (leb-true _ _ t))
      λ d. or-either (closed || sealed) _ d
      (λ t. or-either closed sealed t (λ u. in_life_cycle (life-cycle-only _ (not-true _ u)))
      (λ u. in_hardware_digest (hardware-kind _ (and_left hardware _ u)) (leb-true _ _ (and_right hardware _ u))))
      (λ t. locked (λ z. true-not-false t (ap not (eq-eqb _ 0 z))))

  abbrev Ends : Act → Type 0
  Ends x = WriteEnd (perform x m.lent).answer

  write-ends : Ends (write_act prims map m a value)
  unfolding write_act perform
  write-ends =
      if-both Ends (leb (limit map) a || write_denied (sensed_locked m.session (number_at map a)) (partition_at map a) a) _ _ (λ t. denied (reason t) refl)
      λ t. (let p : Passed = record { below = allowed-below map a _ t; guards = write-guards (partition_at map a) a (allowed-there map a _ t) } in
      after_both (λ r. WriteEnd r.answer) _ _ _ (λ e. done p e refl) (λ i e. stops p e refl))

  -- ---- each code

  abbrev Exact : Answer → Type 0
  Exact answer =
      let p = partition_at map a in
      let words = stored_words prims map m.lent.constants a value in
      (Says 0x05 0 answer ↔ WriteDenied prims map m a)
      × ((i : ℕ) → Says 0x04 i answer ↔ ((WriteDenied prims map m a → ⊥) × Lowest (direct_rule p a) m.lent.cells (first_word p a) words i))
      × (Says 0x00 0 answer ↔ ((WriteDenied prims map m a → ⊥) × Takes (Ok tt)))

  exact : {answer : Answer} → WriteEnd answer → Exact answer
  exact (denied d e) = rw e (
    ((λ q. d), λ q. (refl, refl)),
    (λ i. ((λ q. absurd (omega (arith, q.0))), λ q. absurd (q.0 d))),
    ((λ q. absurd (omega (arith, q.0))), λ q. absurd (q.0 d)),
  )
  exact (stops {i = k} p t e) = rw e (
    ((λ q. absurd (omega (arith, q.0))), λ q. absurd (not-denied p q)),
    (λ i. ((λ q. (not-denied p, refused-lowest _ _ _ _ i (t ∙ ap Err q.1))), λ q. (refl, same_word i q.1))),
    ((λ q. absurd (omega (arith, q.0))), λ q. absurd (refused-not-done (sym t ∙ q.1))),
  )
    where
      same_word : (i : ℕ) → Lowest (direct_rule (partition_at map a) a) m.lent.cells (first_word (partition_at map a) a)
          (stored_words prims map m.lent.constants a value) i → k ≡ i
      same_word i q = let z : Err k ≡ Err i = sym t ∙ lowest-refused _ _ _ _ i q in cc
  exact (done p t e) = rw e (
    ((λ q. absurd (omega (arith, q.0))), λ q. absurd (not-denied p q)),
    (λ i. ((λ q. absurd (omega (arith, q.0))), λ q. absurd (refused-not-done (sym (lowest-refused _ _ _ _ i q.1) ∙ t)))),
    ((λ q. (not-denied p, t)), λ q. (refl, refl)),
  )

  ready-ends : ValidInputs map m → is_ready m.session.phase ≡ true → WriteEnd (answer_to prims map (Write a value) m)
  unfolding obey act performed ready_act command_act
  ready-ends r at_write =
      rw (step-obeys prims map (Write a value) m r, answer_to)
      (if-both Ends (not (is_ready m.session.phase)) _ _ (λ t. absurd (true-not-false at_write (not-true _ t))) (λ t. write-ends))

  pub write-exact : ValidInputs map m → m.session.phase ≡ phase.Ready → Exact (answer_to prims map (Write a value) m)
  unfolding is_ready
  write-exact r ready = exact (ready-ends r (ap is_ready ready))

  -- ---- since a power-up

  done-allowed : fit map ≡ true → (c₀ : List ℕ) → Since prims map c₀ m → {answer : Answer} → WriteEnd answer → code_of answer ≡ 0x00
      → Allowed prims map m.lent.constants c₀ m.lent.cells a value
  unfolding partition_at
  done-allowed F c₀ f (denied d e) = rw e (λ z. absurd (omega arith))
  done-allowed F c₀ f (stops p t e) = rw e (λ z. absurd (omega arith))
  done-allowed F c₀ f (done p t e) = λ z. record {
    below = p.below;
    not_denied = write-open (partition_at map a) a (record { direct = p.guards.direct; not_digest = p.guards.not_digest; unlocked = found-zero });
    takes = t;
  }
    where
      known : Digested map (number_at map a)
      known = record { known = (inside map F p.below).known; direct = p.guards.direct }

      found-zero : locking (stored_digest (partition_at map a) c₀) ≡ false
      found-zero =
          ap not (eq-eqb _ 0 (sym (since-sensed prims map F c₀ m f (number_at map a) known) ∙ not-locked m.session (number_at map a) p.guards.unlocked))

module _ (prims : Primitives) (C : Cipher prims) (map : Map) (F : fit map ≡ true) where
  pub write_allowed : (m : Machine) → ValidInputs map m → (l₀ l₁ : List Command) → Ready prims map m l₀ l₁ → (a value : ℕ)
      → let m₀ = after prims map l₀ m in
      let m₁ = after prims map l₁ (machine_after prims map PowerUp m₀) in
      (code_of (answer_to prims map (Write a value) m₁) ≡ 0x00) ↔ Allowed prims map m.lent.constants m₀.lent.cells m₁.lent.cells a value
  write_allowed m r l₀ l₁ ready a value =
      let m₀ = after prims map l₀ m in
      let m₁ = after prims map l₁ (machine_after prims map PowerUp m₀) in
      let f = after-since prims map F m₀.lent.cells l₁ (machine_after prims map PowerUp m₀) ready.lasts
      (first-since prims map F m₀ (after-inputs prims map l₀ m r) ready.succeeded) in
      let k : m₁.lent.constants ≡ m.lent.constants = after-constants prims map l₁ _ ∙ step-constants prims map PowerUp m₀
      ∙ after-constants prims map l₀ m in (
        (λ z. rw k at (done-allowed prims map m₁ a value F m₀.lent.cells f (ready-ends prims map m₁ a value f.right f.ready) z)),
        λ al. ap code_of (write-takes prims C map F m₀.lent.cells m₁ f a value (rw k al)).done,
      )

-- ---- the cells of a write that answers 0

module _ (prims : Primitives) (map : Map) (F : fit map ≡ true) (m : Machine) (r : ValidInputs map m) (a value : ℕ) where
  abbrev p : Partition
  p = partition_at map a

  abbrev words : List ℕ
  words = stored_words prims map m.lent.constants a value

  abbrev Puts : Performed → Type 0
  Puts x = code_of x.answer ≡ 0x00 → Put (direct_rule p a) (first_word p a) words m.lent.cells x.cells

  space : a < limit map → first_word p a + length words ≤ length m.lent.cells
  space l = rw length-words (omega (arith, granule-within map F l, cells-length prims map m r))

  form-puts : {act : Act} → Form prims map m (Write a value) act → Puts (perform act m.lent)
  unfolding perform
  form-puts (Form.refuses r) = λ z. absurd (refuses-not-done r z)
  form-puts (Form.writes w) =
      after_both Puts (program_answer (direct_rule p a) m.lent.cells (first_word p a) words) _ _
      (λ e z. put-words (direct_rule p a) (first_word p a) words m.lent.cells (space w.below) e) (λ i e z. absurd (omega arith))

  pub write-puts : code_of (answer_to prims map (Write a value) m) ≡ 0x00
      → Put (direct_rule p a) (first_word p a) words m.lent.cells (machine_after prims map (Write a value) m).lent.cells
  unfolding obey act performed
  write-puts = rw (step-obeys prims map (Write a value) m r, answer_to, machine_after) (form-puts (act-form prims map m (Write a value)))
