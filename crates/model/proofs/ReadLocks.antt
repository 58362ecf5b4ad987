-- Read locks. The idea: of all commands only a read looks at the locks, and it changes nothing; so two machines that differ in one lock go on alike, and
-- only reads of that partition's data tell them apart.
use Rattle.std.specs.Prelude.{Ok, Err}
use mathlib.Core.Path.{◌≡◌, refl, sym, ap, ◌∙◌}
use mathlib.Core.Bool.{Bool, true, false, not, ◌||◌}
use mathlib.Core.List.{List, [], ◌∷◌}
use Prim.Native.Nat.{ℕ, ◌<◌}
use native.Mathlib.Omega.{arith}
use lib.Dec.{eqb, leb, ltb}
use lib.ListN.{length, get_or, set, length-set}
use lib.Seq.{set_out, get_or-set_same, get_or-set_other}
use borrow.Author.Tests.{eqb-true, eqb-false, ltb-true, ltb-false, not-false, not-true, leb-false, lt-leb}
use Rattle.basics.specs.Choice.{when◌then◌else◌}
use Rattle.basics.proofs.Choice.{true-not-false, by_cases, if-both, not-passed, or_right}
use Rattle.partitions.specs.Map.{Map, rights_of, number_at, partition, partition_at, limit, in_digest}
use Rattle.partitions.specs.Fitness.{fit}
use Rattle.partitions.proofs.KindRights.{lockable-direct}
use Rattle.partitions.proofs.Map.{digest-below-ten, partition-at, direct-known}
use Rattle.model.specs.declared.Session.{Session}
use Rattle.model.specs.declared.Failure.TheVariants.{Denied, NotReady}
use Rattle.model.specs.declared.Command.{Command}
use Rattle.model.specs.declared.Command.TheVariants.{Read, Write, FrontRead, Digest, ReadLock, Transition, PowerUp}
use Rattle.model.specs.Answers.{code_of}
use Rattle.model.specs.Session.{is_ready, read_locked, sensed_at, sensed_locked, with_locks}
use Rattle.model.specs.Lent.{Lent, Machine, Primitives, with_cells}
use Rattle.model.specs.Acts.{Effect, no_effect, lock, to_inert, to_dead, effect_on, Act, Performed, perform}
use Rattle.model.specs.Commands.{write_act, read_act, front_read_act, digest_act, read_lock_act, move_act, transition_act, command_act, ready_act}
use Rattle.model.specs.Commands.{authorized_act}
use Rattle.model.specs.Commands.{read_denied, authorization, token_authorization, locked_token}
use Rattle.model.specs.PowerUp.{PowerUpEnd, fails, succeeds, power_up_end, powered_session}
use Rattle.model.specs.Step.{Step, unchanged, performed, act, power_up, obey, step, after, machine_after, answer_to}
use Rattle.model.specs.Claims.Terms.{ValidInputs, Says, not_power_up, NoPowerUp}
use Rattle.model.specs.declared.Phase.TheVariants.{Ready}
use Rattle.model.specs.Claims.Numbers.{Lockable}
use Rattle.model.specs.Claims.ReadLocks.{ReadsData, reads}
use Rattle.model.proofs.KindNames.{lockable-kind, kind-lockable}
use Rattle.model.proofs.Steps.{obey-both, obeys-act, step_both, step-all, step-obeys, step-up, step-inputs, after-inputs, step_twice}
use Rattle.model.proofs.Classes.{no-power-up}
use Rattle.model.proofs.LeftOut.{read-acts}

-- ---- lists of locks

-- a lock that is set stays set
set-stays : (xs : List Bool) (k n : ℕ) → get_or xs n false ≡ true → get_or (set xs k true) n false ≡ true
set-stays xs k n e =
    by_cases (eqb n k)
    (λ t. rw (eqb-true n k t) (by_cases (ltb k (length xs)) (λ u. get_or-set_same xs k true false (ltb-true _ _ u))
    (λ u. rw (set_out xs k true (ltb-false _ _ u)) (rw (eqb-true n k t) at e))))
    (λ t. get_or-set_other xs k n true false (eqb-false n k t) ∙ e)

-- two that differ at n alone
record OneApart (n : ℕ) (xs ys : List Bool) : Type 0 where
  size : length xs ≡ length ys
  at : (k : ℕ) → (k ≡ n → ⊥) → get_or xs k false ≡ get_or ys k false

one-apart-set : (n k : ℕ) (xs ys : List Bool) → OneApart n xs ys → OneApart n (set xs k true) (set ys k true)
one-apart-set n k xs ys h = record { size = length-set xs k true ∙ h.size ∙ sym (length-set ys k true); at = word }
  where
    word : (j : ℕ) → (j ≡ n → ⊥) → get_or (set xs k true) j false ≡ get_or (set ys k true) j false
    word j q =
        by_cases (eqb j k)
        (λ t. by_cases (ltb k (length xs))
        (λ u. rw (eqb-true j k t) (get_or-set_same xs k true false (ltb-true _ _ u)
        ∙ sym (get_or-set_same ys k true false (rw h.size at (ltb-true k (length xs) u)))))
        (λ u. rw (set_out xs k true (ltb-false _ _ u), set_out ys k true (rw h.size at (ltb-false k (length xs) u))) (h.at j q)))
        (λ t. get_or-set_other xs k j true false (eqb-false j k t) ∙ h.at j q ∙ sym (get_or-set_other ys k j true false (eqb-false j k t)))

-- ---- a machine with other locks

abbrev with-locks : List Bool → Machine → Machine
with-locks ys m = record { lent = m.lent; session = with_locks ys m.session }

effect-locks : (t : Effect) (ys : List Bool) (s : Session) → effect_on t (with_locks ys s) ≡ with_locks (effect_on t (with_locks ys s)).locks (effect_on t s)
unfolding effect_on
effect-locks no_effect ys s = refl
effect-locks (lock number) ys s = refl
effect-locks to_inert ys s = refl
effect-locks to_dead ys s = refl

effect-one-apart : (n : ℕ) (t : Effect) (ys : List Bool) (s : Session) → OneApart n s.locks ys
    → OneApart n (effect_on t s).locks (effect_on t (with_locks ys s)).locks
unfolding effect_on
effect-one-apart n no_effect ys s h = h
effect-one-apart n (lock number) ys s h = one-apart-set n number s.locks ys h
effect-one-apart n to_inert ys s h = h
effect-one-apart n to_dead ys s h = h

module _ (prims : Primitives) (map : Map) (n : ℕ) where
  -- what becomes of two machines that differ in the lock of n alone
  record Alike (m m' : Machine) : Type 0 where
    locks : List Bool
    same : m' ≡ with-locks locks m
    one_apart : OneApart n m.session.locks locks

  -- only a read asks the locks
  by-locks : {X : Type 0} (x : Command) (m : Machine) (ys : List Bool) → ((a : ℕ) → x ≡ Read a → X)
      → (ready_act prims map (with-locks ys m) x ≡ ready_act prims map m x → X) → X
  unfolding ready_act command_act write_act front_read_act digest_act read_lock_act transition_act authorized_act authorization token_authorization
      locked_token move_act
      sensed_locked sensed_at
  by-locks (Read a) m ys f g = f a refl
  by-locks (Write a value) m ys f g = g refl
  by-locks (FrontRead a) m ys f g = g refl
  by-locks (Digest a) m ys f g = g refl
  by-locks (ReadLock number) m ys f g = g refl
  by-locks (Transition target given) m ys f g = g refl
  by-locks PowerUp m ys f g = g refl

  -- a read of something else answers alike
  read_alike : (m : Machine) (ys : List Bool) → OneApart n m.session.locks ys → (a : ℕ) → (ReadsData map n (Read a) → ⊥)
      → ready_act prims map (with-locks ys m) (Read a) ≡ ready_act prims map m (Read a)
  unfolding ready_act command_act read_act read_denied sensed_locked sensed_at read_locked in_digest
  read_alike m ys h a other =
      by_cases (leb (partition_at map a).digest a) (λ t. rw t refl) (λ t. rw (h.at (number_at map a) (λ q. other (reads q (leb-false _ _ t)))) refl)

  -- ---- one command on both

  abbrev Pair : (x : Command) → Step → Step → Type 0
  Pair x s s' = Alike s.result.machine s'.result.machine × ((ReadsData map n x → ⊥) → s'.result.answer ≡ s.result.answer)

  performed-alike : (m : Machine) (ys : List Bool) → OneApart n m.session.locks ys → (r : Performed)
      → Alike (performed r m).result.machine (performed r (with-locks ys m)).result.machine
  unfolding performed
  performed-alike m ys h r = record {
    locks = (effect_on r.effect (with_locks ys m.session)).locks;
    same = ap (λ (s : Session). record { lent = with_cells r.cells m.lent; session = s }) (effect-locks r.effect ys m.session);
    one_apart = effect-one-apart n r.effect ys m.session h;
  }

  still_alike : (m : Machine) (ys : List Bool) → OneApart n m.session.locks ys → (k k' : Machine) → k ≡ m → k' ≡ with-locks ys m → Alike k k'
  still_alike m ys h k k' e f = record { locks = ys; same = f ∙ sym (ap (with-locks ys) e); one_apart = rw e h }

  acts-alike : (m : Machine) (ys : List Bool) → OneApart n m.session.locks ys → (x : Command)
      → Pair x (act prims map x m) (act prims map x (with-locks ys m))
  acts-alike m ys h x = by-locks x m ys (λ a e. rw e (read a)) others
    where
      read : (a : ℕ) → Pair (Read a) (act prims map (Read a) m) (act prims map (Read a) (with-locks ys m))
      read a = (
        still_alike m ys h _ _ (read-acts prims map m a) (read-acts prims map (with-locks ys m) a),
        λ other. unfold act performed in (ap (λ (x : Act). (perform x m.lent).answer) (read_alike m ys h a other)),
      )

      others : ready_act prims map (with-locks ys m) x ≡ ready_act prims map m x → Pair x (act prims map x m) (act prims map x (with-locks ys m))
      others e = unfold act in (rw e (performed-alike m ys h _, λ other. (unfold performed in refl)))

  up-alike : (m : Machine) (ys : List Bool) (x : Command) → Pair x (power_up prims map m) (power_up prims map (with-locks ys m))
  unfolding power_up
  up-alike m ys x = (
    record {
      locks = (powered_session map (power_up_end prims map m.lent) m.lent).locks;
      same = refl;
      one_apart = record { size = refl; at = λ k q. refl };
    },
    λ other. refl,
  )

  step-alike : (m : Machine) (ys : List Bool) → OneApart n m.session.locks ys → (x : Command)
      → Pair x (step prims map x m) (step prims map x (with-locks ys m))
  unfolding unchanged
  step-alike m ys h x =
      step_twice prims map (Pair x) x m (with-locks ys m) refl (λ answer. (still_alike m ys h m (with-locks ys m) refl refl, λ other. refl))
      (obey-both prims map (Pair x) x m (with-locks ys m) (up-alike m ys x) (acts-alike m ys h x))

  -- ---- and lists of commands

  one_alike : (m m' : Machine) → Alike m m' → (x : Command) → Pair x (step prims map x m) (step prims map x m')
  one_alike m m' h x = rw h.same (step-alike m h.locks h.one_apart x)

  after-alike : (l : List Command) (m m' : Machine) → Alike m m' → Alike (after prims map l m) (after prims map l m')
  unfolding after
  after-alike [] m m' h = h
  after-alike (x ∷ l) m m' h = after-alike l (machine_after prims map x m) (machine_after prims map x m') (one_alike m m' h x).0

  one-apart-locked : (xs : List Bool) → OneApart n xs (set xs n true)
  one-apart-locked xs = record { size = sym (length-set xs n true); at = λ k q. sym (get_or-set_other xs n k true false q) }

  one-apart-self : (xs : List Bool) → OneApart n xs xs
  one-apart-self xs = record { size = refl; at = λ k q. refl }

  -- what a read lock makes of a machine
  lock-alike : (m : Machine) → Alike m (machine_after prims map (ReadLock n) m)
  unfolding unchanged obey act performed ready_act command_act read_lock_act perform effect_on
  lock-alike m =
      let to : Act → Type 0 = λ a. Alike m (performed (perform a m.lent) m).result.machine in
      step_both prims map (λ (s : Step). Alike m s.result.machine) (ReadLock n) m (λ answer e. same m)
      (if-both to _ _ _ (λ t. same m) λ t. if-both to _ _ _ (λ t. same m)
      λ t. record { locks = set m.session.locks n true; same = refl; one_apart = one-apart-locked m.session.locks })
    where
      same : (k : Machine) → Alike k k
      same k = record { locks = k.session.locks; same = refl; one_apart = one-apart-self k.session.locks }

  pub lock-others : (m : Machine) (l : List Command)
      → let m₁ = after prims map l (machine_after prims map (ReadLock n) m) in
      let m₂ = after prims map l m in
      (m₁.lent ≡ m₂.lent) × ((x : Command) → (ReadsData map n x → ⊥) → answer_to prims map x m₁ ≡ answer_to prims map x m₂)
  lock-others m l =
      let h = after-alike l m (machine_after prims map (ReadLock n) m) (lock-alike m) in (
        ap (λ (k : Machine). k.lent) h.same,
        λ x other. (one_alike (after prims map l m) (after prims map l (machine_after prims map (ReadLock n) m)) h x).1 other,
      )

-- ---- a lock lasts until power-up

effect-locked : (n : ℕ) (t : Effect) (s : Session) → read_locked s n ≡ true → read_locked (effect_on t s) n ≡ true
unfolding effect_on read_locked
effect-locked n no_effect s e = e
effect-locked n (lock number) s e = set-stays s.locks number n e
effect-locked n to_inert s e = e
effect-locked n to_dead s e = e

effect-space : (t : Effect) (s : Session) → length (effect_on t s).locks ≡ length s.locks
unfolding effect_on
effect-space no_effect s = refl
effect-space (lock number) s = length-set s.locks number true
effect-space to_inert s = refl
effect-space to_dead s = refl

module _ (prims : Primitives) (map : Map) where
  step-locked : (n : ℕ) (x : Command) (m : Machine) → not_power_up x → read_locked m.session n ≡ true
      → read_locked (machine_after prims map x m).session n ≡ true
  unfolding unchanged act performed
  step-locked n x m u e =
      step_both prims map (λ (s : Step). read_locked s.result.machine.session n ≡ true) x m (λ answer j. e)
      (rw (obeys-act prims map x m (no-power-up x u)) (effect-locked n _ m.session e))

  after-locked : (n : ℕ) (l : List Command) (m : Machine) → NoPowerUp l → read_locked m.session n ≡ true → read_locked (after prims map l m).session n ≡ true
  unfolding after
  after-locked n [] m u e = e
  after-locked n (x ∷ l) m u e = after-locked n l (machine_after prims map x m) u.1 (step-locked n x m u.0 e)

  -- from a power-up on the record has ten locks
  powered-space : (w : PowerUpEnd) (l : Lent) → length (powered_session map w l).locks ≡ 10
  unfolding powered_session
  powered-space (fails reason failure) l = refl
  powered-space (succeeds state count) l = refl

  step-space : (x : Command) (m : Machine) → length m.session.locks ≡ 10 → length (machine_after prims map x m).session.locks ≡ 10
  unfolding unchanged act performed power_up
  step-space x m e =
      step-all prims map (λ (s : Step). length s.result.machine.session.locks ≡ 10) x m (λ answer j. e) (powered-space _ m.lent)
      (effect-space _ m.session ∙ e)

  after-space : (l : List Command) (m : Machine) → length m.session.locks ≡ 10 → length (after prims map l m).session.locks ≡ 10
  unfolding after
  after-space [] m e = e
  after-space (x ∷ l) m e = after-space l (machine_after prims map x m) (step-space x m e)

  since-space : (m : Machine) → ValidInputs map m → (l : List Command) → length (after prims map (PowerUp ∷ l) m).session.locks ≡ 10
  unfolding after power_up
  since-space m r l = after-space l (machine_after prims map PowerUp m) (rw (step-up prims map m r, machine_after) (powered-space _ m.lent))

  -- a read lock that answers 0 locks
  locks-now : fit map ≡ true → (n : ℕ) (m : Machine) → length m.session.locks ≡ 10 → code_of (answer_to prims map (ReadLock n) m) ≡ 0x00
      → ((rights_of (partition map n).kind).lockable ≡ true) × (read_locked (machine_after prims map (ReadLock n) m).session n ≡ true)
  unfolding unchanged obey act performed ready_act command_act read_lock_act perform effect_on read_locked
  locks-now F n m space =
      let Q : Step → Type 0 = λ s. code_of s.result.answer ≡ 0x00
      → ((rights_of (partition map n).kind).lockable ≡ true) × (read_locked s.result.machine.session n ≡ true) in
      let to : Act → Type 0 = λ a. Q (performed (perform a m.lent) m) in
      step_both prims map Q (ReadLock n) m (λ answer e z. absurd (true-not-false e (rw z)))
      (if-both to _ _ _ (λ t z. absurd (omega arith)) λ t. if-both to _ _ _ (λ t z. absurd (omega arith))
      λ t z. (not-false _ t, get_or-set_same m.session.locks n true false (rw space (digest-below-ten map F (lockable-direct _ (not-false _ t))))))

  -- a read of data that are locked
  read-denied : (n : ℕ) (m : Machine) → ValidInputs map m → (rights_of (partition map n).kind).lockable ≡ true → read_locked m.session n ≡ true → (a : ℕ)
      → number_at map a ≡ n → a < (partition_at map a).digest
      → answer_to prims map (Read a) m ≡ (when is_ready m.session.phase then Err Denied else Err NotReady)
  unfolding obey act performed ready_act command_act read_act read_denied perform in_digest when◌then◌else◌
  read-denied n m r k e a there is_data =
      let kind : (rights_of (partition_at map a).kind).lockable ≡ true = rw (partition-at map a there) k in
      let side : leb (partition_at map a).digest a ≡ false = lt-leb _ _ is_data in
      let denied : (leb (limit map) a
      || read_denied (sensed_locked m.session (number_at map a)) (read_locked m.session (number_at map a)) (partition_at map a) a) ≡ true
      = or_right (leb (limit map) a) _ (or_right (not (rights_of (partition_at map a).kind).direct) _ (rw (side, there, e, kind) refl)) in
      rw (step-obeys prims map (Read a) m r, answer_to) (by_cases (is_ready m.session.phase) (λ t. rw (t, denied) refl) (λ t. rw t refl))

  pub locks-last : fit map ≡ true → (m : Machine) → ValidInputs map m → (l₀ : List Command) (n : ℕ)
      → let m₀ = after prims map (PowerUp ∷ l₀) m in
      code_of (answer_to prims map (ReadLock n) m₀) ≡ 0x00
      → (l : List Command) → NoPowerUp l
      → let m₁ = after prims map l (machine_after prims map (ReadLock n) m₀) in
      (a : ℕ) → number_at map a ≡ n → a < (partition_at map a).digest
      → answer_to prims map (Read a) m₁ ≡ (when is_ready m₁.session.phase then Err Denied else Err NotReady)
  locks-last F m r l₀ n z l u a there is_data =
      let m₀ = after prims map (PowerUp ∷ l₀) m in
      let m₁ = after prims map l (machine_after prims map (ReadLock n) m₀) in
      let now = locks-now F n m₀ (since-space m r l₀) z in
      read-denied n m₁ (after-inputs prims map l _ (step-inputs prims map (ReadLock n) m₀ (after-inputs prims map (PowerUp ∷ l₀) m r))) now.0
      (after-locked n l (machine_after prims map (ReadLock n) m₀) u now.1) a there is_data

-- ---- a lock of a partition whose kind has none

module _ (prims : Primitives) (map : Map) (m : Machine) (a : ℕ) (absent : Lockable (partition_at map a).kind → ⊥) (locks : List Bool) where
  none : (rights_of (partition_at map a).kind).lockable ≡ false
  none = not-passed _ (λ t. absent (lockable-kind _ t))

  abbrev relocked : Machine
  relocked = record { lent = m.lent; session = with_locks locks m.session }

  same-act : ready_act prims map relocked (Read a) ≡ ready_act prims map m (Read a)
  unfolding ready_act command_act read_act read_denied sensed_at sensed_locked
  same-act = rw none

  pub lock-says-nothing : answer_to prims map (Read a) relocked ≡ answer_to prims map (Read a) m
  unfolding unchanged obey act performed
  lock-says-nothing = step_twice prims map (λ s u. u.result.answer ≡ s.result.answer) (Read a) m relocked refl (λ answer. refl) (rw same-act)

-- ---- when a read lock is taken

module _ (prims : Primitives) (map : Map) (m : Machine) (n : ℕ) where
  abbrev Taken : Step → Type 0
  Taken s =
      (n < length map → Lockable (partition map n).kind
      → (s.result.answer ≡ Ok 0) × (s.result.machine ≡ record { lent = m.lent; session = with_locks (set m.session.locks n true) m.session }))
      × ((n < length map → Lockable (partition map n).kind → ⊥) → Says 0x05 0 s.result.answer)

  pub lock-exact : ValidInputs map m → m.session.phase ≡ Ready → Taken (step prims map (ReadLock n) m)
  unfolding obey act performed ready_act command_act read_lock_act perform effect_on is_ready
  lock-exact r e =
      let to : Act → Type 0 = λ x. Taken (performed (perform x m.lent) m) in
      rw (step-obeys prims map (ReadLock n) m r)
      (if-both to (not (is_ready m.session.phase)) _ _ (λ t. absurd (true-not-false (ap is_ready e) (not-true _ t)))
      λ t. if-both to (not (rights_of (partition map n).kind).lockable) _ _
      (λ u. ((λ l k. absurd (true-not-false (kind-lockable k) (not-true _ u))), λ k. (refl, refl)))
      λ u. ((λ l k. (refl, refl)), λ k. absurd (k (direct-known map n (lockable-direct _ (not-false _ u))) (lockable-kind _ (not-false _ u)))))
