-- Two chips that differ only in hidden words answer alike. The idea: both decide the same act, since what an act depends on shows; a performed
-- act changes no hidden word; and hidden partitions stay locked.
use Rattle.std.specs.Prelude.{Ok, Result, Err, ⊤}
use mathlib.Core.Path.{◌≡◌, refl, sym, ap, ap₂, subst, ◌∙◌}
use mathlib.Core.Bool.{Bool, true, false, ◌&&◌}
use mathlib.Core.List.{List, [], ◌∷◌}
use Prim.Native.Nat.{ℕ, ◌+◌, ◌*◌, ◌/◌, ◌≤◌, ◌<◌}
use native.Mathlib.Omega.{arith}
use lib.ListN.{length, get_or}
use borrow.Author.Tests.{not-false}
use Rattle.basics.specs.Choice.{when◌then◌else◌}
use Rattle.basics.specs.Range.{listed}
use Rattle.basics.proofs.Choice.{by_cases, true-not-false, not-passed, if-true, if-false, if-same}
use Rattle.basics.proofs.Range.{length-listed, listed_at, is-listed}
use Rattle.words.specs.Words.{number_of}
use Rattle.words.specs.Programming.{program_answer, program_cells}
use Rattle.words.proofs.Parts.{part_same}
use Rattle.words.proofs.Programming.{answer-same, program-length}
use Rattle.words.proofs.Alike.{Same, program-alike}
use Rattle.partitions.specs.Fitness.{fit}
use Rattle.partitions.proofs.KindRights.{scrambled-direct, front-hardware, front-not-scrambled, lockable-not-hardware}
use Rattle.partitions.proofs.Map.{inside, partition-fit, partition-word, direct-known}
use Rattle.partitions.proofs.Granules.{granule-within, word-inside, word_number, digest-word}
use Rattle.partitions.specs.Map.{Map, rights_of, number_at, partition, partition_at, limit, in_digest, first_word, word_count, number_of_kind}
use Rattle.model.specs.declared.Session.{Session}
use Rattle.model.specs.declared.Command.{Command}
use Rattle.model.specs.declared.Command.TheVariants.{Read, Write, FrontRead, Digest, ReadLock, Transition, PowerUp}
use Rattle.model.specs.Answers.{Answer}
use Rattle.model.specs.Session.{is_ready, sensed_at, sensed_locked, read_locked}
use Rattle.constants.specs.Constants.{digest_start, digest_final}
use Rattle.model.specs.Lent.{Machine, Primitives, Lent, with_cells, with_copy}
use Rattle.model.specs.Acts.{no_effect, effect_on, Act, say, Performed, after_program, with_comparison, perform}
use Rattle.model.specs.Commands.{granule, stored_digest, data_words, computed_digest, unscrambled, counter_at, write_act, read_act, front_read_act, digest_act}
use Rattle.model.specs.Commands.{read_lock_act, transition_act, move_act, command_act, ready_act, read_value, authorized_act}
use Rattle.model.specs.PowerUp.{sensed_digest, digests, PowerUpEnd, fails, succeeds, power_up_end, end_of, copy_word, powered_copy, powered_session}
use Rattle.model.specs.PowerUp.{powered_answer}
use Rattle.model.specs.Step.{Step, performed, act, power_up, step, after, answers, machine_after}
use Rattle.model.specs.Claims.Terms.{ValidInputs, Digested, Agree, Matched, Hidden, Alike}
use Rattle.model.proofs.Acts.{Within, says, programs, compares, within-map, Pieces}
use Rattle.model.proofs.Frame.{Programmable, unlocked, life_cycle, life-words, life-closed, life-same, act-open}
use Rattle.model.proofs.Steps.{obey-both, step-obeys, step-up, cells-length, up-inputs, act-inputs}
use Rattle.model.proofs.Locks.{Locked, up-locked, act-locked}
use Rattle.model.proofs.Guards.{not-locked, ReadGuards, allowed-below, read-guards, allowed-there, front-open, digest-guards}
use Rattle.partitions.specs.declared.Kind.TheVariants as kind

-- ---- one act on two chips

pub record SameOutcome (P : ℕ → Type 0) (r q : Performed) : Type 0 where
  pub answer : r.answer ≡ q.answer
  pub effect : r.effect ≡ q.effect
  pub cells : Same P r.cells q.cells

abbrev SameButHidden : (ℕ → Type 0) → Performed → Performed → Type 0
SameButHidden P r q = Agree r.compared q.compared → SameOutcome P r q

after-same-but-hidden : (Q : Performed → Performed → Type 0) (r : Result ⊤ ℕ) (x x' : Performed) (f f' : ℕ → Performed)
    → Q x x' → ((cell : ℕ) → Q (f cell) (f' cell)) → Q (after_program r x f) (after_program r x' f')
unfolding after_program
after-same-but-hidden Q (Ok done) x x' f f' h g = h
after-same-but-hidden Q (Err cell) x x' f f' h g = g cell

if-same-but-hidden : (Q : Performed → Performed → Type 0) {b b' : Bool} (x y x' y' : Performed) → b ≡ b' → Q x x' → Q y y'
    → Q (when b then x else y) (when b' then x' else y')
if-same-but-hidden Q {b} x y x' y' e f g =
    by_cases b (λ t. rw (if-true x y t, if-true x' y' (sym e ∙ t)) f) (λ t. rw (if-false x y t, if-false x' y' (sym e ∙ t)) g)

perform-same-but-hidden : {P : ℕ → Type 0} {x : Act} → Within (Pieces P) x → (l l' : Lent) → length l.cells ≡ length l'.cells
    → Same P l.cells l'.cells
    → SameButHidden P (perform x l) (perform x l')
unfolding perform with_comparison
perform-same-but-hidden says l l' e h = λ g. record { answer = refl; effect = refl; cells = h }
perform-same-but-hidden {P} (programs {rule = rule} {at = at} {words = words} inside next) l l' e h =
    let c = l.cells in
    let d = l'.cells in
    let q : program_answer rule c at words ≡ program_answer rule d at words = answer-same rule words c d at (λ j lo hi. h.at j (inside j lo hi)) in
    rw (← q)
    (after-same-but-hidden (SameButHidden P) (program_answer rule c at words) _ _ _ _
    (perform-same-but-hidden next (with_cells (program_cells rule c at words) l) (with_cells (program_cells rule d at words) l')
    (rw (program-length rule c words at, program-length rule d words at) e) (program-alike rule words c d at e h q))
    (λ cell g. record { answer = refl; effect = refl; cells = h }))
perform-same-but-hidden {P} (compares {test = test} same other) l l' e h = λ g.
    let r = if-same-but-hidden (SameButHidden P) _ _ _ _ g.0 (perform-same-but-hidden same l l' e h) (perform-same-but-hidden other l l' e h) g.1 in
    record { answer = r.answer; effect = r.effect; cells = r.cells }

-- ---- what shows, where partitions with H hide their data

module _ (map : Map) (H : ℕ → Type 0) where
  pub record Shown (j : ℕ) : Type 0 where
    pub shows : H (number_at map (2 * j)) → in_digest (partition_at map (2 * j)) (2 * j) ≡ false → ⊥

  -- a word that front reads see
  pub record FrontWord (j : ℕ) : Type 0 where
    pub low : j < limit map / 2
    pub front : (rights_of (partition_at map (2 * j)).kind).front ≡ true

-- a chip, and what a second one is lent that has other cells and another copy
abbrev chip : Lent → Session → Machine
chip l s = record { lent = l; session = s }

abbrev second : Lent → List ℕ → List ℕ → Lent
second l d k = with_cells d (with_copy k l)

module _ (prims : Primitives) (map : Map) (F : fit map ≡ true) (H : ℕ → Type 0) (known : (n : ℕ) → H n → n < length map)
    (secret : (n : ℕ) → H n → (rights_of (partition map n).kind).scrambled ≡ true) where
  pub hidden-digested : (n : ℕ) → H n → Digested map n
  hidden-digested n h = record { known = known n h; direct = scrambled-direct _ (secret n h) }

  -- a partition that hides nothing shows all its words, and a digest always shows
  open-shown : (n j : ℕ) → (H n → ⊥) → number_at map (2 * j) ≡ n → Shown map H j
  open-shown n j h e = record { shows = λ v u. h (subst H e v) }

  module _ (s : Session) (shut : (n : ℕ) → H n → is_ready s.phase ≡ true → sensed_at s n ≡ 0 → ⊥) (l : Lent) (d k' : List ℕ)
      (h : Same (Shown map H) l.cells d) (g : Same (FrontWord map H) l.copy k') where
    abbrev c : List ℕ
    c = l.cells

    abbrev k : List ℕ
    k = l.copy

    abbrev t : List ℕ
    t = l.constants

    granule-same : (a : ℕ) → a < limit map
        → ((j : ℕ) → first_word (partition_at map a) a ≤ j → j < first_word (partition_at map a) a + word_count (partition_at map a) a → Shown map H j)
        → granule (partition_at map a) c a ≡ granule (partition_at map a) d a
    unfolding granule
    granule-same a l f = ap number_of (part_same c d _ _ (λ j lo hi. h.at j (f j lo hi)))

    digest-shown : (a j : ℕ) → a < limit map → in_digest (partition_at map a) a ≡ true
        → first_word (partition_at map a) a ≤ j → j < first_word (partition_at map a) a + word_count (partition_at map a) a → Shown map H j
    unfolding partition_at
    digest-shown a j l i lo hi =
        let e = word_number map F l lo hi in
        record { shows = λ v u. true-not-false (rw e ((word-inside map F l lo hi).side ∙ i)) u }

    -- data of an unlocked partition shows
    data-shown : (a j : ℕ) → a < limit map → is_ready s.phase ≡ true
        → ((rights_of (partition_at map a).kind).scrambled && sensed_locked s (number_at map a)) ≡ false
        → first_word (partition_at map a) a ≤ j → j < first_word (partition_at map a) a + word_count (partition_at map a) a → Shown map H j
    unfolding partition_at
    data-shown a j l r z lo hi =
        let n = number_at map a in
        open-shown n j (λ v. shut n v r (not-locked s n (rw (secret n v) at z))) (word_number map F l lo hi)

    front_same : (a : ℕ) → a < limit map → (rights_of (partition_at map a).kind).front ≡ true → granule (partition_at map a) k a
        ≡ granule (partition_at map a) k' a
    unfolding granule partition_at
    front_same a l f =
        ap number_of (part_same k k' _ _ (λ j lo hi. g.at j (record { low = omega (arith, granule-within map F l); front = rw (word_number map F l lo hi) f })))

    computed_same : (a : ℕ) → a < limit map → (H (number_at map a) → ⊥)
        → computed_digest prims t (partition_at map a) c ≡ computed_digest prims t (partition_at map a) d
    unfolding computed_digest data_words partition_at
    computed_same a l n =
        let i = number_at map a in
        let b = (inside map F l).known in
        let f = partition-fit map F b in
        ap (prims.digest (digest_start t) (digest_final t))
        (part_same c d _ _ (λ j lo hi. h.at j (open-shown i j n (partition-word map F b lo (omega arith)))))

    -- what is read shows
    value_same : (a : ℕ) → a < limit map → is_ready s.phase ≡ true
        → ReadGuards (partition_at map a) a (sensed_locked s (number_at map a)) (read_locked s (number_at map a))
        → read_value prims t (partition_at map a) c a ≡ read_value prims t (partition_at map a) d a
    unfolding read_value
    value_same a low r q =
        if-same (λ i. granule-same a low (λ j lo hi. digest-shown a j low i lo hi))
        (λ i. ap (unscrambled prims t (partition_at map a)) (granule-same a low (λ j lo hi. data-shown a j low r (q.not_secret_locked i) lo hi)))

    -- both chips decide the same
    command-same : (x : Command) → is_ready s.phase ≡ true → command_act prims map (chip l s) x ≡ command_act prims map (chip (second l d k') s) x
    unfolding command_act write_act read_act front_read_act digest_act read_lock_act transition_act authorized_act move_act
    command-same (Write a value) r = refl
    command-same (Read a) r = if-same (λ e. refl) λ e.
        ap (λ (x : ℕ). say (Ok x) no_effect) (value_same a (allowed-below map a _ e) r (read-guards (partition_at map a) a (allowed-there map a _ e)))
    command-same (FrontRead a) r = if-same (λ e. refl) λ e.
        ap (λ (x : ℕ). say (Ok x) no_effect) (front_same a (allowed-below map a _ e) (front-open (partition_at map a) a (allowed-there map a _ e)))
    command-same (Digest a) r = if-same (λ e. refl) λ e.
        (let q = digest-guards (partition_at map a) a (allowed-there map a _ e) in
        rw (computed_same a (allowed-below map a _ e) (λ v. shut (number_at map a) v r (not-locked s (number_at map a) q.unlocked))))
    command-same (ReadLock number) r = refl
    command-same (Transition target given) r = refl
    command-same PowerUp r = refl

    pub decided-same : (x : Command) → ready_act prims map (chip l s) x ≡ ready_act prims map (chip (second l d k') s) x
    unfolding ready_act
    decided-same x = if-same (λ e. refl) λ r. command-same x (not-false _ r)

-- a second chip with the same constants is one that has other cells, another copy and another record
is-second : (m n : Machine) → m.lent.constants ≡ n.lent.constants → (s s' : Session) → s' ≡ n.session
    → chip (second m.lent n.lent.cells n.lent.copy) s' ≡ n
is-second m n e s s' f = rw (e, f) refl

-- ---- two chips side by side

front-shown : (map : Map) (H : ℕ → Type 0) → ((n : ℕ) → H n → (rights_of (partition map n).kind).scrambled ≡ true) → (j : ℕ) → FrontWord map H j → Shown map H j
unfolding partition_at
front-shown map H secret j f = record { shows = λ v u. true-not-false (secret _ v) (front-not-scrambled _ f.front) }

module _ (prims : Primitives) (map : Map) where
  -- a word that front reads see is latched as it stands
  pub front-latched : (constants cells : List ℕ) (j : ℕ) → (rights_of (partition_at map (2 * j)).kind).front ≡ true
      → copy_word prims map constants cells j ≡ get_or cells j 0
  unfolding copy_word
  front-latched constants cells j f =
      if-false _ _ (not-passed _ (λ t. true-not-false (front-hardware _ f) (lockable-not-hardware _ t))) ∙ rw (front-not-scrambled _ f) (if-false _ _ refl)

  digests-same : (c d : List ℕ) →
      ((n : ℕ) → (rights_of (partition map n).kind).direct ≡ true → stored_digest (partition map n) c ≡ stored_digest (partition map n) d)
      → digests c map ≡ digests d map
  unfolding digests sensed_digest
  digests-same c d h =
      is-listed _ 10 _ (length-listed _ 0 10) (λ n l. listed_at (λ i. sensed_digest c (partition map i)) 0 10 n l ∙ if-same (h n) (λ e. refl))

module _ (prims : Primitives) (map : Map) (F : fit map ≡ true) (H : ℕ → Type 0) (known : (n : ℕ) → H n → n < length map)
    (secret : (n : ℕ) → H n → (rights_of (partition map n).kind).scrambled ≡ true) where
  abbrev digested : (n : ℕ) → H n → Digested map n
  digested = hidden-digested prims map F H known secret

  pub record Pair (m n : Machine) : Type 0 where
    pub right : ValidInputs map m
    pub right_too : ValidInputs map n
    pub fuses : Same (Shown map H) m.lent.cells n.lent.cells
    pub views : Same (FrontWord map H) m.lent.copy n.lent.copy
    pub constants : m.lent.constants ≡ n.lent.constants
    pub records : m.session ≡ n.session
    pub locks : (p : ℕ) (h : H p) → Locked prims map F p (digested p h) m

  pub record SamePair (s u : Step) : Type 0 where
    pub answer : s.result.answer ≡ u.result.answer
    pub pair : Pair s.result.machine u.result.machine

  -- ---- power-up

  digest-shows : (n : ℕ) → n < length map → (rights_of (partition map n).kind).direct ≡ true
      → (j : ℕ) → (partition map n).digest / 2 ≤ j → j < (partition map n).digest / 2 + 4 → Shown map H j
  unfolding partition_at
  digest-shows n l e j lo hi =
      let q = digest-word map F l e lo hi in
      record { shows = λ v u. true-not-false (rw q.0 q.1) u }

  closed-shown : (j : ℕ) → number_at map (2 * j) ≡ number_of_kind map kind.LifeCycle → Shown map H j
  unfolding partition_at
  closed-shown j e = record { shows = λ v u. true-not-false (scrambled-direct _ (secret _ v)) (life-closed prims map F j e) }

  stored-alike : (c d : List ℕ) → Same (Shown map H) c d → (n : ℕ) → n < length map → (rights_of (partition map n).kind).direct ≡ true
      → stored_digest (partition map n) c ≡ stored_digest (partition map n) d
  unfolding stored_digest
  stored-alike c d h n l e = ap number_of (part_same c d _ 4 (λ j lo hi. h.at j (digest-shows n l e j lo hi)))

  life-shown : (j : ℕ) → counter_at map ≤ j → j < counter_at map + 44 → Shown map H j
  life-shown j lo hi = closed-shown j (life-words prims map F j lo hi)

  copies-alike : (t c d : List ℕ) → Same (Shown map H) c d
      → Same (FrontWord map H) (listed (copy_word prims map t c) 0 (limit map / 2)) (listed (copy_word prims map t d) 0 (limit map / 2))
  copies-alike t c d h = record { at = word }
    where
      word : (j : ℕ) → FrontWord map H j
          → get_or (listed (copy_word prims map t c) 0 (limit map / 2)) j 0 ≡ get_or (listed (copy_word prims map t d) 0 (limit map / 2)) j 0
      word j f =
          listed_at (copy_word prims map t c) 0 _ j f.low ∙ front-latched prims map t c j f.front ∙ h.at j (front-shown map H secret j f)
          ∙ sym (listed_at (copy_word prims map t d) 0 _ j f.low ∙ front-latched prims map t d j f.front)

  powered-views : (w : PowerUpEnd) (l : Lent) (d k' : List ℕ) → Same (Shown map H) l.cells d
      → Same (FrontWord map H) (powered_copy prims map w l) (powered_copy prims map w (second l d k'))
  unfolding powered_copy
  powered-views (fails reason failure) l d k' h = record { at = λ j f. refl }
  powered-views (succeeds state count) l d k' h = copies-alike l.constants l.cells d h

  powered-records : (w : PowerUpEnd) (l : Lent) (d k' : List ℕ) → Same (Shown map H) l.cells d
      → powered_session map w l ≡ powered_session map w (second l d k')
  unfolding powered_session
  powered-records (fails reason failure) l d k' h = refl
  powered-records (succeeds state count) l d k' h =
      rw (digests-same prims map l.cells d (λ n e. stored-alike l.cells d h n (direct-known map n e) e))

  up_second : (l : Lent) (d k' : List ℕ) (s s' : Session) → ValidInputs map (chip l s) → ValidInputs map (chip (second l d k') s')
      → Same (Shown map H) l.cells d
      → ((p : ℕ) → H p → stored_digest (partition map p) l.cells ≡ 0 → ⊥)
      → Agree (power_up prims map (chip l s)).verdicts (power_up prims map (chip (second l d k') s')).verdicts
      → SamePair (power_up prims map (chip l s)) (power_up prims map (chip (second l d k') s'))
  unfolding power_up power_up_end
  up_second l d k' s s' r r' h z g =
      let e = ap₂ end_of (sym g.0) (sym (life-same prims map F l (second l d k') refl (λ j lo hi. h.at j (life-shown j lo hi)))) in
      record {
        answer = ap (powered_answer) (sym e);
        pair = record {
          right = up-inputs prims map (chip l s) r;
          right_too = up-inputs prims map (chip (second l d k') s') r';
          fuses = h;
          views = rw e (powered-views _ l d k' h);
          constants = refl;
          records = rw e (powered-records _ l d k' h);
          locks = λ p v. up-locked prims map F p (digested p v) (chip l s) (z p v);
        };
      }

  up-pair : (m n : Machine) → ValidInputs map m → ValidInputs map n → Same (Shown map H) m.lent.cells n.lent.cells
      → m.lent.constants ≡ n.lent.constants
      → ((p : ℕ) → H p → stored_digest (partition map p) m.lent.cells ≡ 0 → ⊥)
      → Agree (power_up prims map m).verdicts (power_up prims map n).verdicts → SamePair (power_up prims map m) (power_up prims map n)
  up-pair m n r r' h e z g =
      let to : Machine → Type 0 = λ q. ValidInputs map q → Agree (power_up prims map m).verdicts (power_up prims map q).verdicts
      → SamePair (power_up prims map m) (power_up prims map q) in
      subst to (is-second m n e m.session n.session refl)
      (λ q f. up_second m.lent n.lent.cells n.lent.copy m.session n.session r q h z f) r' g

  pub first-pair : (m n : Machine) → ValidInputs map m → ValidInputs map n → Same (Shown map H) m.lent.cells n.lent.cells
      → m.lent.constants ≡ n.lent.constants
      → ((p : ℕ) → H p → stored_digest (partition map p) m.lent.cells ≡ 0 → ⊥)
      → Agree (step prims map PowerUp m).verdicts (step prims map PowerUp n).verdicts → SamePair (step prims map PowerUp m) (step prims map PowerUp n)
  first-pair m n r r' h e z = rw (step-up prims map m r, step-up prims map n r') (up-pair m n r r' h e z)

  -- ---- an act

  decided : (x : Command) (m n : Machine) → Pair m n → ready_act prims map n x ≡ ready_act prims map m x
  decided x m n h =
      subst (λ (q : Machine). ready_act prims map q x ≡ ready_act prims map m x) (is-second m n h.constants m.session m.session h.records)
      (sym (decided-same prims map F H known secret m.session (λ p v. (h.locks p v).is_sensed) m.lent n.lent.cells n.lent.copy h.fuses
      h.views x))

  -- no hidden word is programmed
  shown-within : (x : Command) (m n : Machine) → Pair m n → Within (Pieces (Shown map H)) (ready_act prims map m x)
  shown-within x m n h = within-map (λ at words f j lo hi. go j (f j lo hi)) (act-open prims map F m x)
    where
      go : (j : ℕ) → Programmable map x m.session j → Shown map H j
      go j (unlocked r d z aim) = record { shows = λ v u. (h.locks _ v).is_sensed r z }
      go j (life_cycle r t e) = closed-shown j e

  act-pair : (x : Command) (m n : Machine) → Pair m n → Agree (act prims map x m).compared (act prims map x n).compared
      → SamePair (act prims map x m) (act prims map x n)
  unfolding act performed
  act-pair x m n h g =
      let e = decided x m n h in
      let lengths = cells-length prims map m h.right ∙ sym (cells-length prims map n h.right_too) in
      let r = perform-same-but-hidden (shown-within x m n h) m.lent n.lent lengths h.fuses (rw e at g) in
      rw e (record {
        answer = r.answer;
        pair = record {
          right = act-inputs prims map x m h.right;
          right_too = rw e at (act-inputs prims map x n h.right_too);
          fuses = r.cells;
          views = h.views;
          constants = h.constants;
          records = ap₂ effect_on r.effect h.records;
          locks = λ p v. act-locked prims map F p (digested p v) x m (h.locks p v);
        };
      })

  pub step-pair : (x : Command) (m n : Machine) → Pair m n → Agree (step prims map x m).compared (step prims map x n).compared
      → Agree (step prims map x m).verdicts (step prims map x n).verdicts → SamePair (step prims map x m) (step prims map x n)
  step-pair x m n h = rw (step-obeys prims map x m h.right, step-obeys prims map x n h.right_too)
      (obey-both prims map (λ s u. Agree s.compared u.compared → Agree s.verdicts u.verdicts → SamePair s u) x m n
      (λ a v. up-pair m n h.right h.right_too h.fuses h.constants (λ p w. (h.locks p w).burnt) v) (λ a v. act-pair x m n h a))

  pub after-pair : (l : List Command) (m n : Machine) → Pair m n → Matched prims map l m n
      → (answers prims map l m ≡ answers prims map l n) × Pair (after prims map l m) (after prims map l n)
  unfolding answers after Matched
  after-pair [] m n h g = (refl, h)
  after-pair (x ∷ l) m n h g =
      let o = step-pair x m n h g.0 g.1 in
      let r = after-pair l (machine_after prims map x m) (machine_after prims map x n) o.pair g.2 in
      (ap₂ (λ (a : Answer) (rest : List Answer). a ∷ rest) o.answer r.0, r.1)

-- ---- the theorem

pub two-chips : (prims : Primitives) (map : Map) → fit map ≡ true → (m n : Machine) → ValidInputs map m → ValidInputs map n
    → m.lent.constants ≡ n.lent.constants
    → Alike map m.lent.cells n.lent.cells m.lent.cells n.lent.cells
    → (l : List Command) → Matched prims map (PowerUp ∷ l) m n
    → (answers prims map (PowerUp ∷ l) m ≡ answers prims map (PowerUp ∷ l) n)
    × ((after prims map (PowerUp ∷ l) m).session ≡ (after prims map (PowerUp ∷ l) n).session)
    × Alike map m.lent.cells n.lent.cells (after prims map (PowerUp ∷ l) m).lent.cells (after prims map (PowerUp ∷ l) n).lent.cells
unfolding answers after Matched
two-chips prims map F m n r r' e h l g =
    let H = Hidden map m.lent.cells n.lent.cells in
    let same : Same (Shown map H) m.lent.cells n.lent.cells = record { at = λ j q. h.at j (λ w. q.shows w.hidden w.is_data) } in
    let o = first-pair prims map F H (λ p v. v.known) (λ p v. v.secret) m n r r' same e (λ p v. v.nonzero) g.1 in
    let m₁ = machine_after prims map PowerUp m in
    let n₁ = machine_after prims map PowerUp n in
    let t = after-pair prims map F H (λ p v. v.known) (λ p v. v.secret) l m₁ n₁ o.pair g.2 in (
      ap₂ (λ (a : Answer) (rest : List Answer). a ∷ rest) o.answer t.0,
      t.1.records,
      record { at = λ j q. t.1.fuses.at j (record { shows = λ v u. q (record { hidden = v; is_data = u }) }) },
    )
