-- When a read and a front read answer 5 and 0, and what they show. The idea: the guards of the acts are the reasons, one by one; past them the kind and the
-- side of the digest decide what the granule is.
use Rattle.std.specs.Prelude.{Ok, Err}
use mathlib.Core.Path.{◌≡◌, refl, sym, ap, subst, ◌∙◌}
use mathlib.Core.Bool.{true, false, not, ◌&&◌, ◌||◌}
use mathlib.Core.List.{List}
use mathlib.Core.Logic.{◌↔◌}
use Prim.Native.Nat.{ℕ, ◌*◌, ◌/◌, ◌<◌}
use native.Mathlib.Omega.{arith}
use lib.Dec.{leb}
use lib.ListN.{get_or}
use borrow.Author.Tests.{ne_eqb, eqb-false, leb-true, leb-false, lt-leb, not-false, not-true}
use Rattle.basics.proofs.Choice.{by_cases, true-not-false, and_left, and_right, and_both, if-both, if-true, if-false, or-either, or-none, or-none-left}
use Rattle.basics.proofs.Choice.{or-none-right}
use Rattle.words.specs.Words.{number_of, part_at}
use Rattle.partitions.specs.declared.Partition.{Partition}
use Rattle.partitions.specs.Fitness.{fit}
use Rattle.partitions.specs.Map.{Map, rights_of, number_at, partition_at, limit, in_digest, first_word, word_count}
use Rattle.partitions.proofs.KindRights.{life-cycle-only, front-not-scrambled}
use Rattle.partitions.proofs.Map.{FitPartition, inside}
use Rattle.partitions.proofs.Granules.{granule-plain, granule-scrambled, size-words, digest-words}
use Rattle.model.specs.declared.Failure.TheVariants.{Denied}
use Rattle.model.specs.declared.Command.TheVariants.{Read, FrontRead}
use Rattle.model.specs.Answers.{Answer, code_of, value_of}
use Rattle.model.specs.Session.{is_ready, sensed_locked, read_locked}
use Rattle.model.specs.Lent.{Machine, Primitives}
use Rattle.model.specs.Acts.{Act, perform}
use Rattle.model.specs.Commands.{granule, unscrambled, read_act, front_read_act, command_act, ready_act, read_denied, read_value, front_read_denied}
use Rattle.model.specs.Step.{performed, act, obey, answer_to}
use Rattle.model.specs.Claims.Terms.{ValidInputs, Says}
use Rattle.model.specs.Claims.Numbers.{Shown, eight_from}
use Rattle.model.specs.Claims.Reads.{ReadDenied, past, in_life_cycle, locked, secret_locked, InHwCfgData}
use Rattle.model.proofs.KindNames.{lockable-kind, kind-lockable, scrambled-keyed, keyed-scrambled, key-is, plain-kind, front-kind, kind-front}
use Rattle.model.proofs.Acts.{not_done}
use Rattle.model.proofs.Steps.{step-obeys}
use Rattle.model.proofs.Guards.{ReadGuards, allowed-below, read-guards, allowed-there}
use Rattle.model.specs.declared.Phase.TheVariants as phase

-- ---- granules

-- the words of a granule, by its size
granule-of : (p : Partition) (words : List ℕ) (a first count : ℕ) → first_word p a ≡ first → word_count p a ≡ count
    → granule p words a ≡ number_of (part_at words first count)
unfolding granule
granule-of p words a first count e f = rw (e, f)

module _ (prims : Primitives) (map : Map) (F : fit map ≡ true) (m : Machine) (a : ℕ) where
  abbrev p : Partition
  p = partition_at map a

  abbrev k : List ℕ
  k = m.lent.constants

  abbrev c : List ℕ
  c = m.lent.cells

  -- every guard of a read passes
  record Passed : Type 0 where
    below : a < limit map
    direct : (rights_of p.kind).direct ≡ true

  digest-shown : Passed → in_digest p a ≡ true → Shown prims map k c a (granule p c a)
  unfolding in_digest
  digest-shown q d =
      let w = digest-words (inside map F q.below).fits (inside map F q.below).below q.direct d in
      subst (Shown prims map k c a) (sym (granule-of p c a (p.digest / 2) 4 w.0 w.1)) (Shown.digest (leb-true _ _ d))

  data-shown : Passed → in_digest p a ≡ false → Shown prims map k c a (unscrambled prims k p (granule p c a))
  unfolding in_digest unscrambled
  data-shown q d =
      by_cases (rights_of p.kind).scrambled
      (λ s. (let key = scrambled-keyed p.kind s in
      let w = size-words p a 8 (granule-scrambled fits s a) in
      subst (Shown prims map k c a)
      (sym (if-true _ _ s ∙ ap (λ (x : ℕ). prims.decrypt x (granule p c a)) (key-is k key.at)
      ∙ ap (prims.decrypt (eight_from k key.first)) (granule-of p c a (a / 8 * 4) 4 w.0 w.1)))
      (Shown.secret (leb-false _ _ d) key.at)))
      (λ s. (let w = size-words p a 4 (granule-plain fits s a d) in
      subst (Shown prims map k c a) (sym (if-false _ _ s ∙ granule-of p c a (a / 4 * 2) 2 w.0 w.1))
      (Shown.plain (leb-false _ _ d) (plain-kind p.kind q.direct s))))
    where
      fits : FitPartition (partition_at map a)
      fits = (inside map F q.below).fits

  -- ---- the ends of a read on a Ready chip

  data ReadEnd (answer : Answer) : Type 0 where
    denied : ReadDenied map m a → answer ≡ Err Denied → ReadEnd answer
    done : {value : ℕ} → (ReadDenied map m a → ⊥) → Shown prims map k c a value → answer ≡ Ok value → ReadEnd answer

  abbrev Ends : Act → Type 0
  Ends x = ReadEnd (perform x m.lent).answer

  not-denied : a < limit map → ReadGuards p a (sensed_locked m.session (number_at map a)) (read_locked m.session (number_at map a)) → ReadDenied map m a → ⊥
  unfolding sensed_locked read_locked rights_of in_digest
  not-denied l g (past h) = omega arith
  not-denied l g (in_life_cycle h) = true-not-false g.direct (rw h refl)
  not-denied l g (locked d y h) = true-not-false (and_both _ _ (kind-lockable y) h) (g.not_read_locked (lt-leb _ _ d))
  not-denied l g (secret_locked d y h) = true-not-false (and_both _ _ (keyed-scrambled y) (ap not (ne_eqb _ 0 h))) (g.not_secret_locked (lt-leb _ _ d))

  -- a denial has one of the reasons
  reason : (leb (limit map) a || read_denied (sensed_locked m.session (number_at map a)) (read_locked m.session (number_at map a)) p a) ≡ true
      → ReadDenied map m a
  unfolding read_denied sensed_locked read_locked in_digest
  reason e =
      let lockable = (rights_of p.kind).lockable in
      let secret = (rights_of p.kind).scrambled in
      let closed = not (rights_of p.kind).direct in
      or-either (leb (limit map) a) _ e (λ t. past (leb-true _ _ t))
      λ d. or-either closed _ d (λ t. in_life_cycle (life-cycle-only _ (not-true _ t)))
      λ t. (let is_data = leb-false _ _ (not-true _ (and_left (not (leb p.digest a)) _ t)) in
      or-either (lockable && get_or m.session.locks (number_at map a) false) _ (and_right (not (leb p.digest a)) _ t)
      (λ u. locked is_data (lockable-kind _ (and_left lockable _ u)) (and_right lockable _ u))
      (λ u. secret_locked is_data (scrambled-keyed _ (and_left secret _ u)).at (eqb-false _ 0 (not-true _ (and_right secret _ u)))))

  read-ends : Ends (read_act prims map m a)
  unfolding read_act perform read_value
  read-ends =
      if-both Ends (leb (limit map) a || read_denied (sensed_locked m.session (number_at map a)) (read_locked m.session (number_at map a)) p a) _ _
      (λ t. denied (reason t) refl)
      λ t. (let l = allowed-below map a _ t in
      let g = read-guards p a (allowed-there map a _ t) in
      let q : Passed = record { below = l; direct = g.direct } in
      done (not-denied l g) (if-both (Shown prims map k c a) (in_digest p a) _ _ (digest-shown q) (data-shown q)) refl)

  ready-ends : ValidInputs map m → is_ready m.session.phase ≡ true → ReadEnd (answer_to prims map (Read a) m)
  unfolding obey act performed ready_act command_act
  ready-ends r e =
      rw (step-obeys prims map (Read a) m r, answer_to)
      (if-both Ends (not (is_ready m.session.phase)) _ _ (λ t. absurd (true-not-false e (not-true _ t))) (λ t. read-ends))

  abbrev Exact : Answer → Type 0
  Exact answer = (Says 0x05 0 answer ↔ ReadDenied map m a) × ((code_of answer ≡ 0x00) ↔ (ReadDenied map m a → ⊥))

  exact : {answer : Answer} → ReadEnd answer → Exact answer
  exact (denied d e) = rw e (((λ q. d), λ q. (refl, refl)), ((λ q. absurd (omega (arith, q))), λ q. absurd (q d)))
  exact (done n s e) = rw e (((λ q. absurd (omega (arith, q.0))), λ q. absurd (n q)), ((λ q. n), λ q. refl))

  pub read-exact : ValidInputs map m → m.session.phase ≡ phase.Ready → Exact (answer_to prims map (Read a) m)
  unfolding is_ready
  read-exact r e = exact (ready-ends r (ap is_ready e))

  shown : {answer : Answer} → ReadEnd answer → (value : ℕ) → answer ≡ Ok value → Shown prims map k c a value
  shown (denied d e) value q = absurd (not_done refl (sym e ∙ q))
  shown (done n s e) value q = subst (Shown prims map k c a) (ap value_of (sym e ∙ q)) s

  -- a read that answers 0 is of a Ready chip
  pub read-shows : ValidInputs map m → (value : ℕ) → answer_to prims map (Read a) m ≡ Ok value → Shown prims map k c a value
  unfolding obey act performed ready_act perform
  read-shows r value =
      by_cases (is_ready m.session.phase) (λ e. shown (ready-ends r e) value)
      (λ e. rw (step-obeys prims map (Read a) m r, answer_to)
      (if-both (λ (x : Act). (perform x m.lent).answer ≡ Ok value → Shown prims map k c a value) (not (is_ready m.session.phase)) _ _
      (λ t q. absurd (not_done refl q)) (λ t. absurd (true-not-false (ap not e) t))))

  -- ---- front reads

  abbrev Fronts : Answer → Type 0
  Fronts answer =
      (InHwCfgData map a → answer ≡ Ok (number_of (part_at m.lent.copy (a / 4 * 2) 2))) × ((InHwCfgData map a → ⊥) → Says 0x05 0 answer)

  abbrev FrontEnds : Act → Type 0
  FrontEnds x = Fronts (perform x m.lent).answer

  front_ends : FrontEnds (front_read_act prims map m a)
  unfolding front_read_act perform front_read_denied in_digest
  front_ends =
      let closed = not (rights_of p.kind).front in
      if-both FrontEnds (leb (limit map) a || (closed || leb p.digest a)) _ _
      (λ t. (
        (λ h. absurd (true-not-false t (or-none _ _ (lt-leb _ _ h.below) (or-none _ _ (ap not (kind-front h.is_hw_cfg)) (lt-leb _ _ h.is_data))))),
        λ n. (refl, refl),
      ))
      λ t. (let l = or-none-left (leb (limit map) a) _ t in
      let rest = or-none-right (leb (limit map) a) _ t in
      let f = not-false _ (or-none-left closed _ rest) in
      let d = or-none-right closed _ rest in
      ((λ h. ap Ok (data-granule l f d)), λ n. absurd (n (record { below = leb-false _ _ l; is_hw_cfg = front-kind _ f; is_data = leb-false _ _ d }))))
    where
      data-granule : leb (limit map) a ≡ false → (rights_of (partition_at map a).kind).front ≡ true → leb (partition_at map a).digest a ≡ false
          → granule (partition_at map a) m.lent.copy a ≡ number_of (part_at m.lent.copy (a / 4 * 2) 2)
      data-granule l f d =
          let w = size-words (partition_at map a) a 4
          (granule-plain (inside map F (leb-false _ _ l)).fits (front-not-scrambled _ f) a (unfold in_digest in d)) in
          granule-of (partition_at map a) m.lent.copy a (a / 4 * 2) 2 w.0 w.1

  pub front-exact : ValidInputs map m → m.session.phase ≡ phase.Ready → Fronts (answer_to prims map (FrontRead a) m)
  unfolding obey act performed ready_act command_act is_ready
  front-exact r e =
      rw (step-obeys prims map (FrontRead a) m r, answer_to)
      (if-both FrontEnds (not (is_ready m.session.phase)) _ _ (λ t. absurd (true-not-false (ap is_ready e) (not-true _ t))) (λ t. front_ends))
