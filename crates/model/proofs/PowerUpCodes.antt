-- When a power-up gives each answer, and what it senses. The idea: the first partition that fails is found by the list of partitions; where none fails, the
-- life cycle words decode to what they encode; and a word of the copy is what its kind and its side of the digest make of it.
use Rattle.std.specs.Prelude.{Option, None, Some}
use Rattle.model.specs.declared.Session.{Session}
use Rattle.model.specs.declared.Command.{Command}
use mathlib.Core.Path.{◌≡◌, refl, sym, ap, subst, ◌∙◌}
use mathlib.Core.Bool.{Bool, true, false, not, ◌&&◌, ◌||◌}
use mathlib.Core.List.{List, [], ◌∷◌}
use mathlib.Core.Logic.{◌↔◌}
use Prim.Native.Nat.{ℕ, ◌+◌, ◌*◌, ◌-◌, ◌/◌, ◌%◌, ◌<◌}
use native.Mathlib.Omega.{arith}
use lib.Dec.{eqb, leb, ltb}
use lib.ListN.{length, get_or, get_or-eq_default}
use borrow.Author.Tests.{eqb-true, eqb-false, ne_eqb, leb-true, leb-false, lt-leb, not-false, not-true, ltb-true, ltb-false}
use Rattle.basics.specs.Choice.{when◌then◌else◌}
use Rattle.basics.proofs.Choice.{by_cases, true-not-false, and_left, and_right, and_both, or-none-left, or-none-right, if-both, if-true, if-false, not-passed}
use Rattle.basics.proofs.Range.{listed_at, length-listed}
use Rattle.basics.proofs.First.{none-all, some_first, first_some, all_none}
use Rattle.basics.specs.Range.{listed}
use Rattle.words.specs.Words.{number_of, words_of, part_at}
use Rattle.partitions.specs.declared.Kind.{Kind}
use Rattle.partitions.specs.declared.Partition.{Partition}
use Rattle.partitions.specs.Fitness.{fit}
use Rattle.partitions.specs.Map.{Map, rights_of, partition, partition_at, limit, in_digest, first_word, word_count}
use Rattle.partitions.proofs.KindRights.{scrambled-not-lockable}
use Rattle.partitions.proofs.Map.{inside, direct-known}
use Rattle.partitions.proofs.Granules.{granule-scrambled, size-words}
use Rattle.life_cycle.specs.declared.LifeCycle.{LifeCycle}
use Rattle.life_cycle.proofs.Decoding.{decoded-says, decoded-valid}
use Rattle.model.specs.declared.Command.TheVariants.{PowerUp}
use Rattle.model.specs.Answers.{code_of}
use Rattle.model.specs.Session.{sensed_at}
use Rattle.constants.specs.Constants.{digest_start, digest_final}
use Rattle.model.specs.Lent.{Lent, Machine, Primitives}
use Rattle.model.specs.Commands.{granule, stored_digest, data_words, computed_digest, unscrambled, counter_at, state_at}
use Rattle.model.specs.PowerUp.{digest_holds, first_failing, verdict_of, life_cycle_in, copy_word, end_of, life_cycle_end, power_up_end, powered_answer}
use Rattle.model.specs.PowerUp.{powered_session, PowerUpEnd, succeeds, digests, sensed_digest}
use Rattle.model.specs.Step.{power_up, machine_after, answer_to, step, unchanged, act, performed, Step}
use Rattle.model.specs.Claims.Terms.{ValidInputs, Digested, Says, not_power_up, valid_life}
use Rattle.model.specs.Claims.Numbers.{KeyAt, eight_from, digest_in, digest_of}
use Rattle.model.specs.Claims.PowerUps.{Fails, FirstFails, Encodes, Latched}
use Rattle.model.proofs.KindNames.{Keyed, keyed-scrambled, hardware-kind, kind-hardware, lockable-kind, scrambled-keyed, key-is}
use Rattle.model.proofs.Steps.{step-up, step-constants, step_both, obeys-act}
use Rattle.model.proofs.Since.{first-since, since-sensed}
use Rattle.model.proofs.Classes.{no-power-up}
use Rattle.model.specs.declared.Phase.TheVariants as phase
use Rattle.partitions.specs.declared.Kind.TheVariants as kind

-- ---- the first partition that fails

pub none-fails : (prims : Primitives) (map : Map) (k c : List ℕ) → first_failing prims map k c ≡ None → (n : ℕ) → n < length map
    → digest_holds prims k c (partition map n) ≡ true
unfolding first_failing
none-fails prims map k c e n l = none-all (λ i. digest_holds prims k c (partition map i)) 0 (length map) e n (omega arith) (omega arith)

module _ (prims : Primitives) (map : Map) (l : Lent) where
  abbrev holds : ℕ → Bool
  holds n = digest_holds prims l.constants l.cells (partition map n)

  -- a check that fails, in numbers
  failed : (n : ℕ) → n < length map → digest_holds prims l.constants l.cells (partition map n) ≡ false → Fails prims map l n
  unfolding digest_holds stored_digest computed_digest digest_start digest_final data_words
  failed n known e =
      let soft = not (rights_of (partition map n).kind).hardware in
      let zero = eqb (digest_in map n l.cells) 0 in
      let same = eqb (digest_in map n l.cells) (digest_of prims map l.constants n l.cells) in
      let both = or-none-left (soft || zero) same e in
      record {
        known = known;
        hardware = hardware-kind _ (not-false _ (or-none-left soft zero both));
        nonzero = eqb-false _ 0 (or-none-right soft zero both);
        differs = eqb-false _ _ (or-none-right (soft || zero) same e);
      }

  pub fails-failed : (n : ℕ) → Fails prims map l n → digest_holds prims l.constants l.cells (partition map n) ≡ false
  unfolding digest_holds stored_digest computed_digest digest_start digest_final data_words
  fails-failed n f = rw (kind-hardware f.hardware, ne_eqb _ 0 f.nonzero, ne_eqb _ _ f.differs) refl

  -- a partition passes where it has no reason to fail
  passes : (n : ℕ) → n < length map → (Fails prims map l n → ⊥) → holds n ≡ true
  passes n known h = by_cases (holds n) (λ t. t) (λ t. absurd (h (failed n known t)))

  verdict-fails : (n : ℕ) → verdict_of prims map l ≡ Some n → FirstFails prims map l n
  unfolding first_failing
  verdict-fails n e =
      let f = some_first holds 0 (length map) n e in
      record {
        fails = failed n (omega (arith, f.below)) f.fails;
        first = λ j q h. true-not-false (f.before j (omega arith) q) (fails-failed j h);
      }

  fails-verdict : (n : ℕ) → FirstFails prims map l n → verdict_of prims map l ≡ Some n
  unfolding first_failing
  fails-verdict n f =
      first_some holds 0 (length map) n
      (record {
        from = omega arith;
        below = omega (arith, f.fails.known);
        fails = fails-failed n f.fails;
        before = λ j lo hi. passes j (omega (arith, f.fails.known)) (f.first j hi);
      })

  none-verdict : ((n : ℕ) → Fails prims map l n → ⊥) → verdict_of prims map l ≡ None
  unfolding first_failing
  none-verdict h = all_none holds 0 (length map) (λ j lo hi. passes j (omega arith) (h j))

  -- ---- what the life cycle words encode

  encoded : (state count : ℕ) → life_cycle_in map l ≡ valid_life state count → Encodes prims map l state count
  unfolding life_cycle_in counter_at state_at
  encoded state count e =
      let d = decoded-says l.constants _ _ state count e in
      record { counter = d.0; states = d.1; state_known = d.2; count_known = d.3; raw = d.4 }

module _ (prims : Primitives) (map : Map) (m : Machine) (r : ValidInputs map m) where
  decodes : (state count : ℕ) → Encodes prims map m.lent state count → life_cycle_in map m.lent ≡ valid_life state count
  unfolding life_cycle_in counter_at state_at
  decodes state count e =
      rw (e.counter, e.states)
      (decoded-valid m.lent.constants (record { small = r.words }) r.valid state count e.state_known e.count_known e.raw)

  -- ---- the answers

  six-verdict : (v : Option ℕ) (life : Option LifeCycle) (n : ℕ) → Says 0x06 n (powered_answer (end_of v life)) → v ≡ Some n
  unfolding powered_answer end_of life_cycle_end
  six-verdict (Some number) life n = λ e. ap Some e.1
  six-verdict None None n = λ e. absurd (omega (arith, e.0))
  six-verdict None (Some life) n =
      if-both (λ w. Says 0x06 n (powered_answer w) → None ≡ Some n) (eqb life.state 20) _ _ (λ t e. absurd (omega (arith, e.0)))
      (λ t e. absurd (omega (arith, e.0)))

  pub power-up-sixes : (n : ℕ) → Says 0x06 n (answer_to prims map PowerUp m) ↔ FirstFails prims map m.lent n
  unfolding power_up power_up_end end_of powered_answer
  power-up-sixes n = rw (step-up prims map m r, answer_to) (
    (λ e. verdict-fails prims map m.lent n (six-verdict (verdict_of prims map m.lent) (life_cycle_in map m.lent) n e)),
    λ f. rw (fails-verdict prims map m.lent n f) (refl, refl),
  )

  -- ---- the verdict

  one_same : {a b : Option ℕ} → a ∷ [] ≡ b ∷ [] → a ≡ b
  one_same e = cc

  pub power-up-verdicts : let seen = (step prims map PowerUp m).verdicts in
      ((n : ℕ) → (seen ≡ Some n ∷ []) ↔ FirstFails prims map m.lent n) × ((seen ≡ None ∷ []) ↔ ((n : ℕ) → Fails prims map m.lent n → ⊥))
  unfolding power_up
  power-up-verdicts = rw (step-up prims map m r) (
    (λ n. ((λ e. verdict-fails prims map m.lent n (one_same e)), λ f. ap (λ (v : Option ℕ). v ∷ []) (fails-verdict prims map m.lent n f))),
    ((λ e n f. none-fails-not (one_same e) n f), λ h. ap (λ (v : Option ℕ). v ∷ []) (none-verdict prims map m.lent h)),
  )
    where
      none-fails-not : verdict_of prims map m.lent ≡ None → (n : ℕ) → Fails prims map m.lent n → ⊥
      none-fails-not e n f =
          true-not-false (none-fails prims map m.lent.constants m.lent.cells e n f.known) (fails-failed prims map m.lent n f)

  module _ (h : (n : ℕ) → Fails prims map m.lent n → ⊥) where
    -- where no check fails, what is decoded decides
    life-answer : answer_to prims map PowerUp m ≡ powered_answer (life_cycle_end (life_cycle_in map m.lent))
    unfolding power_up power_up_end end_of
    life-answer = rw (step-up prims map m r, answer_to, none-verdict prims map m.lent h) refl

    pub power-up-scrap : (count : ℕ) → Encodes prims map m.lent 20 count → Says 0x07 (256 * count + 20) (answer_to prims map PowerUp m)
    unfolding life_cycle_end powered_answer when◌then◌else◌
    power-up-scrap count e = rw (life-answer, decodes 20 count e) (refl, refl)

    done-says : (state count : ℕ) → (state ≡ 20 → ⊥) → Encodes prims map m.lent state count → Says 0x00 (256 * count + state) (answer_to prims map PowerUp m)
    unfolding life_cycle_end powered_answer when◌then◌else◌
    done-says state count n e = rw (life-answer, decodes state count e, ne_eqb state 20 n) (refl, refl)

    -- the record then
    life-session : (machine_after prims map PowerUp m).session ≡ powered_session map (life_cycle_end (life_cycle_in map m.lent)) m.lent
    unfolding power_up power_up_end end_of
    life-session = rw (step-up prims map m r, machine_after, none-verdict prims map m.lent h) refl

    pub power-up-done : (state count : ℕ) → (state ≡ 20 → ⊥) → Encodes prims map m.lent state count
        → let s = (machine_after prims map PowerUp m).session in
        Says 0x00 (256 * count + state) (answer_to prims map PowerUp m) × (s.phase ≡ phase.Ready) × (s.state ≡ state) × (s.count ≡ count)
    unfolding life_cycle_end powered_session when◌then◌else◌
    power-up-done state count n e =
        let same = ap (λ (l : Option LifeCycle). powered_session map (life_cycle_end l) m.lent) (decodes state count e) in
        let succeeded : (machine_after prims map PowerUp m).session ≡ powered_session map (succeeds state count) m.lent
        = life-session ∙ same ∙ ap (λ (w : PowerUpEnd). powered_session map w m.lent) (if-false _ _ (ne_eqb state 20 n)) in (
          done-says state count n e,
          ap (λ (s : Session). s.phase) succeeded,
          ap (λ (s : Session). s.state) succeeded,
          ap (λ (s : Session). s.count) succeeded,
        )

    -- no encoding gives 0xFFFF
    not-invalid : (state count : ℕ) → Encodes prims map m.lent state count → Says 0x07 0xFFFF (answer_to prims map PowerUp m) → ⊥
    not-invalid state count e q =
        by_cases (eqb state 20)
        (λ t. (let s = power-up-scrap count (rw (eqb-true state 20 t) at e) in omega (arith, s.1, q.1, e.count_known)))
        (λ t. (let s = done-says state count (eqb-false state 20 t) e in omega (arith, s.0, q.0)))

    invalid-says : (life : Option LifeCycle) → ((state count : ℕ) → life ≡ valid_life state count → ⊥) → Says 0x07 0xFFFF (powered_answer (life_cycle_end life))
    unfolding life_cycle_end powered_answer
    invalid-says None n = (refl, refl)
    invalid-says (Some life) n = absurd (n life.state life.count refl)

    pub power-up-invalid : Says 0x07 0xFFFF (answer_to prims map PowerUp m) ↔ ((state count : ℕ) → Encodes prims map m.lent state count → ⊥)
    power-up-invalid = (
      (λ q state count e. not-invalid state count e q),
      λ n. rw life-answer (invalid-says (life_cycle_in map m.lent) (λ state count e. n state count (encoded prims map m.lent state count e))),
    )

-- ---- what is sensed

-- what is neither unbuffered nor scrambled
rest-kind {ℓ} : {X : Type ℓ} (k : Kind) → (rights_of k).lockable ≡ false → (rights_of k).scrambled ≡ false → (k ≡ kind.HwCfg → X) → (k ≡ kind.LifeCycle → X) → X
unfolding rights_of
rest-kind kind.Software a b f g = absurd (true-not-false refl a)
rest-kind kind.AuthState a b f g = absurd (true-not-false refl a)
rest-kind kind.HwCfg a b f g = f refl
rest-kind kind.Secret0 a b f g = absurd (true-not-false refl b)
rest-kind kind.Secret1 a b f g = absurd (true-not-false refl b)
rest-kind kind.Secret2 a b f g = absurd (true-not-false refl b)
rest-kind kind.LifeCycle a b f g = g refl

module _ (prims : Primitives) (map : Map) (F : fit map ≡ true) where
  -- an entry of a partition that has no digest, or of none
  sensed-zero : (cells : List ℕ) (n : ℕ) → (Digested map n → ⊥) → get_or (digests cells map) n 0 ≡ 0
  unfolding digests sensed_digest
  sensed-zero cells n absent =
      by_cases (ltb n 10)
      (λ t. listed_at (λ i. sensed_digest cells (partition map i)) 0 10 n (ltb-true _ _ t)
      ∙ if-false _ _ (not-passed _ (λ d. absent (record { known = direct-known map n d; direct = d }))))
      (λ t. get_or-eq_default (listed (λ i. sensed_digest cells (partition map i)) 0 10) 0 {n = n}
      (rw (length-listed (λ i. sensed_digest cells (partition map i)) 0 10) (ltb-false _ _ t)))

  pub power-up-sensed : (m : Machine) → ValidInputs map m → code_of (answer_to prims map PowerUp m) ≡ 0x00 → (n : ℕ)
      → let entry = sensed_at (machine_after prims map PowerUp m).session n in
      (Digested map n → entry ≡ digest_in map n m.lent.cells) × ((Digested map n → ⊥) → entry ≡ 0)
  unfolding stored_digest sensed_at
  power-up-sensed m r z n =
      let s = first-since prims map F m r z in (
        since-sensed prims map F m.lent.cells (machine_after prims map PowerUp m) s n,
        λ absent. ap (λ (d : List ℕ). get_or d n 0) s.sensed ∙ sensed-zero m.lent.cells n absent,
      )

  module _ (l : Lent) (j : ℕ) (low : j < limit map / 2) where
    abbrev a : ℕ
    a = 2 * j

    abbrev p : Partition
    p = partition_at map a

    within : a < limit map
    within = omega arith

    -- the block of a word of secret data
    block : (rights_of p.kind).scrambled ≡ true → (key : Keyed p.kind)
        → get_or (words_of (word_count p a) (unscrambled prims l.constants p (granule p l.cells a))) (j - first_word p a) 0
        ≡ get_or (words_of 4 (prims.decrypt (eight_from l.constants key.first) (number_of (part_at l.cells (j / 4 * 4) 4)))) (j % 4) 0
    unfolding unscrambled granule
    block s key =
        let w = size-words p a 8 (granule-scrambled (inside map F within).fits s a) in
        let first : first_word p a ≡ j / 4 * 4 = w.0 ∙ (let q : 2 * j / 8 * (8 / 2) ≡ j / 4 * 4 = omega arith in q) in
        let place : j - j / 4 * 4 ≡ j % 4 = omega arith in
        rw (first, w.1, place, key-is l.constants key.at, s) (if-true-block key)
      where
        if-true-block : (key : Keyed (partition_at map (2 * j)).kind)
            → get_or (words_of 4 (when true then prims.decrypt (eight_from l.constants key.first) (number_of (part_at l.cells (j / 4 * 4) 4)) else number_of
            (part_at l.cells (j / 4 * 4) 4))) (j % 4) 0
            ≡ get_or (words_of 4 (prims.decrypt (eight_from l.constants key.first) (number_of (part_at l.cells (j / 4 * 4) 4)))) (j % 4) 0
        if-true-block key = unfold when◌then◌else◌ in refl

    -- a word of secret data in the copy
    pub secret-copy : {first : ℕ} → KeyAt p.kind first → a < p.digest → copy_word prims map l.constants l.cells j
        ≡ get_or (words_of 4 (prims.decrypt (eight_from l.constants first) (number_of (part_at l.cells (j / 4 * 4) 4)))) (j % 4) 0
    unfolding copy_word in_digest
    secret-copy {first} at d =
        let s = keyed-scrambled at in
        if-false _ _ (scrambled-not-lockable p.kind s) ∙ if-true _ _ (and_both _ _ s (ap not (lt-leb _ _ d))) ∙ block s (record { first = first; at = at })

    latched : Latched prims map l j (copy_word prims map l.constants l.cells j)
    unfolding copy_word in_digest
    latched =
        if-both (Latched prims map l j) (rights_of p.kind).lockable _ _ (λ t. Latched.unbuffered (lockable-kind _ t))
        λ t. if-both (Latched prims map l j) ((rights_of p.kind).scrambled && not (leb p.digest a)) _ _
        (λ s. (let q = and_left (rights_of p.kind).scrambled _ s in
        let key = scrambled-keyed p.kind q in
        subst (Latched prims map l j) (sym (block q key))
        (Latched.secret (leb-false _ _ (not-true _ (and_right (rights_of p.kind).scrambled _ s))) key.at)))
        λ s. by_cases (rights_of p.kind).scrambled
        (λ q. Latched.secret_digest (leb-true _ _ (by_cases (leb p.digest a) (λ d. d) (λ d. absurd (true-not-false (and_both _ _ q (ap not d)) s))))
        (scrambled-keyed p.kind q).at)
        (λ q. rest-kind p.kind t q Latched.hw_cfg Latched.life_cycle)

  pub power-up-copy : (m : Machine) → ValidInputs map m → code_of (answer_to prims map PowerUp m) ≡ 0x00 → (j : ℕ) → j < limit map / 2
      → Latched prims map m.lent j (get_or (machine_after prims map PowerUp m).lent.copy j 0)
  power-up-copy m r z j low =
      let s = first-since prims map F m r z in
      let k : (machine_after prims map PowerUp m).lent.constants ≡ m.lent.constants = step-constants prims map PowerUp m in
      let e : get_or (machine_after prims map PowerUp m).lent.copy j 0 ≡ copy_word prims map m.lent.constants m.lent.cells j
      =
      ap (λ (w : List ℕ). get_or w j 0) s.copy
      ∙ listed_at (copy_word prims map (machine_after prims map PowerUp m).lent.constants m.lent.cells) 0 (limit map / 2) j low
      ∙ ap (λ (w : List ℕ). copy_word prims map w m.lent.cells j) k in
      subst (Latched prims map m.lent j) (sym e) (latched m.lent j low)

  pub no-verdict : (m : Machine) (x : Command) → not_power_up x → (step prims map x m).verdicts ≡ []
  unfolding unchanged act performed
  no-verdict m x u = step_both prims map (λ (s : Step). s.verdicts ≡ []) x m (λ answer j. refl) (rw (obeys-act prims map x m (no-power-up x u)) refl)
