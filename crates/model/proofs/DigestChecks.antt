-- A partition passes the check of its digest until its data are written. The idea: whatever leaves its words leaves the check's result; a digest command puts
-- the digest of the words as they are; and no write reaches a hardware digest.
use Rattle.std.specs.Prelude.{Ok}
use Rattle.std.proofs.Math.Bool.{or-true}
use mathlib.Core.Path.{◌≡◌, refl, sym, ap, ap₂, ◌∙◌}
use mathlib.Core.Bool.{true, not, ◌||◌}
use mathlib.Core.List.{List, [], ◌∷◌}
use mathlib.Core.Logic.{◌↔◌}
use Prim.Native.Nat.{ℕ, ◌+◌, ◌*◌, ◌/◌, ◌^◌, ◌≤◌, ◌<◌}
use native.Mathlib.Nat.{mod-eq_of_lt}
use native.Mathlib.Omega.{arith}
use lib.Dec.{eqb}
use lib.ListN.{length, get_or}
use borrow.Author.Tests.{eqb-true, eqb-false, eq-eqb, not-false}
use Rattle.basics.proofs.Choice.{true-not-false, not-passed, by_cases, if-both, if-false, and_both}
use Rattle.words.specs.declared.Rule.{Rule}
use Rattle.words.specs.Words.{number_of, words_of}
use Rattle.words.specs.Programming.{program_answer, program_cells}
use Rattle.words.proofs.Words.{length-words, number-block}
use Rattle.words.proofs.Parts.{part_same, part-words, part-number-lt, blank_part}
use Rattle.words.proofs.Programming.{program-elsewhere, done-blank}
use Rattle.partitions.specs.declared.Partition.{Partition}
use Rattle.partitions.specs.Map.{Map, rights_of, number_at, partition, partition_at, in_digest}
use Rattle.partitions.specs.Fitness.{fit}
use Rattle.partitions.proofs.KindRights.{hardware-direct}
use Rattle.partitions.proofs.Map.{inside, only, partition-at, partition-fit, end-within}
use Rattle.partitions.proofs.Granules.{word_number}
use Rattle.model.specs.declared.Command.{Command}
use Rattle.model.specs.declared.Command.TheVariants.{Write, Digest}
use Rattle.model.specs.Answers.{code_of}
use Rattle.constants.specs.Constants.{digest_start, digest_final}
use Rattle.model.specs.Lent.{Machine, Primitives}
use Rattle.model.specs.Acts.{Act, no_effect, say, program, perform}
use Rattle.model.specs.Commands.{digest_rule, stored_digest, data_words, computed_digest, digest_act, command_act, ready_act}
use Rattle.model.specs.PowerUp.{digest_holds}
use Rattle.model.specs.Step.{Step, unchanged, performed, act, power_up, obey, after, machine_after, answer_to}
use Rattle.model.specs.Claims.Terms.{ValidInputs, Digested, SamePartition, Put, DigestFits, writing_of, writes_nothing}
use Rattle.model.specs.Claims.Digests.{data_not_written, DataNotWritten, digest_now, Digestible}
use Rattle.model.proofs.Acts.{after_both, after-done}
use Rattle.model.proofs.Frame.{programs-nowhere, programs-none-word}
use Rattle.model.proofs.Steps.{outcome, step_both, step-all, step-obeys, step-inputs, step-constants, cells-length}
use Rattle.model.proofs.Locks.{stored_same}
use Rattle.model.proofs.Digests.{digest-taken, computed-word}
use Rattle.model.proofs.TransitionCells.{put-words}
use Rattle.model.proofs.Targets.{WriteBurns, left, DigestBurns, burnt, write-burnt, digest-burnt}
use Rattle.model.proofs.Forms.{computed}
use Rattle.model.proofs.Classes.{by-writing}
use Rattle.model.proofs.Guards.{allowed-both, digest-guards, digest-open, allowed-there, allowed-below}

-- ---- the digest of words of 16 bits is a number of 64 bits

data-small : (p : Partition) (cells : List ℕ) → ((i : ℕ) → get_or cells i 0 < 65536) → (i : ℕ) → get_or (data_words p cells) i 0 < 65536
unfolding data_words
data-small p cells w i = (part-words {c = cells} (record { small = w }) _ _).small i

pub digest-small : (prims : Primitives) → DigestFits prims → (map : Map) (m : Machine) → ValidInputs map m → (p : Partition)
    → computed_digest prims m.lent.constants p m.lent.cells < 2 ^ 64
unfolding computed_digest digest_start digest_final
digest-small prims G map m r p =
    G.fits _ _ _ (part-number-lt {c = m.lent.constants} (record { small = r.words }) 24 4)
    (part-number-lt {c = m.lent.constants} (record { small = r.words }) 28 8)
    (data-small p m.lent.cells r.fuses)

module _ (prims : Primitives) (map : Map) (F : fit map ≡ true) (n : ℕ) (D : Digested map n) where
  abbrev p : Partition
  p = partition map n

  -- the words of the partition decide
  data-same : (c d : List ℕ) → ((j : ℕ) → p.start ≤ 2 * j → 2 * j < p.digest → get_or c j 0 ≡ get_or d j 0) → data_words p c ≡ data_words p d
  unfolding data_words
  data-same c d h =
      let f = partition-fit map F D.known in
      part_same c d _ _ (λ j lo hi. h j (omega arith) (omega arith))

  computed_same : (k c d : List ℕ) → data_words p c ≡ data_words p d → computed_digest prims k p c ≡ computed_digest prims k p d
  unfolding computed_digest
  computed_same k c d e = ap (λ (ws : List ℕ). prims.digest (digest_start k) (digest_final k) ws) e

  pub holds_same : (k c d : List ℕ) → SamePartition map n c d → digest_holds prims k c p ≡ digest_holds prims k d p
  unfolding digest_holds
  holds_same k c d h =
      let f = partition-fit map F D.known in
      ap₂ (λ (s t : ℕ). not (rights_of p.kind).hardware || eqb s 0 || eqb s t) (stored_same prims map F n D c d h)
      (computed_same k c d (data-same c d (λ j lo hi. h.at j lo (omega (arith, f.tail D.direct)))))

  pub zero-holds : (k c : List ℕ) → stored_digest p c ≡ 0 → digest_holds prims k c p ≡ true
  unfolding digest_holds
  zero-holds k c e = rw (eq-eqb (stored_digest p c) 0 e, or-true (not (rights_of p.kind).hardware)) refl

  equal-holds : (k c : List ℕ) → stored_digest p c ≡ computed_digest prims k p c → digest_holds prims k c p ≡ true
  unfolding digest_holds
  equal-holds k c e = rw (eq-eqb _ _ e) (or-true (not (rights_of p.kind).hardware || eqb (stored_digest p c) 0))

  -- ---- one command

  -- words programmed outside the partition leave it
  others_same : (rule : Rule) (c words : List ℕ) (at : ℕ) → ((j : ℕ) → at ≤ j → j < at + length words → number_at map (2 * j) ≡ n → ⊥)
      → SamePartition map n c (program_cells rule c at words)
  others_same rule c words at h =
      record { at = λ j lo hi. sym (program-elsewhere rule c words at j (λ from upto. h j from upto (only map F D.known lo hi))) }

  module _ (hard : (rights_of p.kind).hardware ≡ true) (G : DigestFits prims) where
    abbrev Holds : List ℕ → List ℕ → Type 0
    Holds k c = digest_holds prims k c p ≡ true

    abbrev Keeps : Command → Machine → Type 0
    Keeps x m =
        ValidInputs map m → Holds m.lent.constants m.lent.cells → data_not_written map n x (outcome prims map x m).answer
        → Holds m.lent.constants (outcome prims map x m).cells

    write_keeps : (m : Machine) (a value : ℕ) → Keeps (Write a value) m
    write_keeps m a value r h s = go (write-burnt prims map m a value)
      where
        go : WriteBurns prims map m a value (outcome prims map (Write a value) m) → Holds m.lent.constants (outcome prims map (Write a value) m).cells
        go (left e) = rw e h
        go (burnt q k f e) =
            by_cases (eqb (number_at map a) n)
            (λ t.
            (let i = eqb-true (number_at map a) n t in
            let b = partition-at map a i in
            let firm : (rights_of (partition_at map a).kind).hardware ≡ true = rw b hard in
            let soft = not-passed (in_digest (partition_at map a) a) (λ d. true-not-false (and_both _ _ firm d) q.guards.not_digest) in
            absurd (s i soft (ap code_of e))))
            (λ t. sym (rw f (holds_same _ _ _ (others_same _ m.lent.cells _ _
            (λ j from upto i. eqb-false _ _ t (sym (word_number map F q.below from (rw length-words at upto)) ∙ i))))) ∙ h)

    digest-keeps : (m : Machine) (a : ℕ) → Keeps (Digest a) m
    digest-keeps m a r h s = go (digest-burnt prims map m a)
      where
        value : ℕ
        value = computed prims map m a

        go : DigestBurns prims map m a (outcome prims map (Digest a) m) → Holds m.lent.constants (outcome prims map (Digest a) m).cells
        go (left e) = rw e h
        go (burnt q t f e) =
            by_cases (eqb (number_at map a) n)
            (λ u.
            (let b = partition-at map a (eqb-true (number_at map a) n u) in
            let place : (partition_at map a).digest / 2 ≡ p.digest / 2 = ap (λ (q : Partition). q.digest / 2) b in
            let is : value ≡ computed_digest prims m.lent.constants p m.lent.cells =
            (ap (λ (q : Partition). computed_digest prims m.lent.constants q m.lent.cells) b) in
            let after : (outcome prims map (Digest a) m).cells
            ≡ program_cells digest_rule m.lent.cells (p.digest / 2) (words_of 4 value) =
            (f ∙ ap (λ (i : ℕ). program_cells digest_rule m.lent.cells i (words_of 4 (computed prims map m a))) place) in
            let fits : value < 2 ^ 64 = rw is (digest-small prims G map m r p) in
            let stored = digest-taken prims map F n D digest_rule m r value (rw place at t) in
            let untouched = data-same m.lent.cells (program_cells digest_rule m.lent.cells (p.digest / 2) (words_of 4 value))
            (λ j lo hi. sym (program-elsewhere digest_rule m.lent.cells (words_of 4 value) (p.digest / 2) j
            (λ from upto. omega (arith, (partition-fit map F D.known).digest-aligned)))) in
            rw after (equal-holds m.lent.constants _ (sym stored ∙ mod-eq_of_lt fits ∙ is ∙ computed_same m.lent.constants _ _ untouched))))
            (λ u. sym (rw f (holds_same _ _ _
            (others_same _ m.lent.cells _ _
            (λ j from upto i. eqb-false _ _ u (sym (computed-word prims map F n D q j from (rw length-words at upto)) ∙ i))))) ∙ h)

    programs-none-keeps : (m : Machine) (x : Command) → writing_of x ≡ writes_nothing → Keeps x m
    programs-none-keeps m x aim r h s =
        sym (holds_same m.lent.constants m.lent.cells _
        (record {
          at = λ j lo hi. sym (programs-none-word prims map F m x j (rw (partition-at map (2 * j) (only map F D.known lo hi)) D.direct)
              (programs-nowhere map x aim j));
        })) ∙ h

    keeps : (m : Machine) (x : Command) → Keeps x m
    keeps m = by-writing (λ (x : Command). Keeps x m) (write_keeps m) (digest-keeps m) (programs-none-keeps m)

    -- whatever the command, the check's result stays, unless data of the partition are written
    pub step-holds : (x : Command) (m : Machine) → ValidInputs map m → Holds m.lent.constants m.lent.cells
        → data_not_written map n x (answer_to prims map x m)
        → Holds m.lent.constants (machine_after prims map x m).lent.cells
    unfolding unchanged act performed power_up
    step-holds x m r h =
        step-all prims map (λ (s : Step). data_not_written map n x s.result.answer → Holds m.lent.constants s.result.machine.lent.cells) x m
        (λ answer e s. h) (λ s. h)
        (λ s. keeps m x r h s)

    pub after_holds : (l : List Command) (m : Machine) → ValidInputs map m → Holds m.lent.constants m.lent.cells → DataNotWritten prims map n l m
        → Holds m.lent.constants (after prims map l m).lent.cells
    unfolding after DataNotWritten
    after_holds [] m r h s = h
    after_holds (x ∷ l) m r h s =
        let m₁ = machine_after prims map x m in
        rw (step-constants prims map x m) at
        (after_holds l m₁ (step-inputs prims map x m r) (rw (step-constants prims map x m) (step-holds x m r h s.0)) s.1)

-- ---- a digest command

module _ (prims : Primitives) (map : Map) (m : Machine) (a : ℕ) where
  abbrev value : ℕ
  value = digest_now prims map (number_at map a) m

  -- where it is allowed, its act programs the digest
  allowed-act : Digestible prims map m a
      → ready_act prims map m (Digest a) ≡ program digest_rule ((partition_at map a).digest / 2) (words_of 4 value) no_effect (say (Ok value) no_effect)
  unfolding ready_act command_act digest_act partition_at computed_digest digest_start digest_final data_words
  allowed-act d =
      if-false _ _ (ap not d.ready)
      ∙ if-false _ _ (allowed-both map a _ d.below
      (digest-open (partition_at map a) a (record { hardware = d.hardware; start = d.start; unlocked = d.not_locked })))

  pub digest-only : code_of (answer_to prims map (Digest a) m) ≡ 0x00 → Digestible prims map m a
  unfolding unchanged obey act performed ready_act command_act digest_act perform partition_at computed_digest digest_start digest_final data_words
  digest-only =
      let Q : Act → Type 0 = λ x. code_of (perform x m.lent).answer ≡ 0x00 → Digestible prims map m a in
      step_both prims map (λ (s : Step). code_of s.result.answer ≡ 0x00 → Digestible prims map m a) (Digest a) m
      (λ answer e z. absurd (true-not-false e (rw z)))
      (if-both Q _ _ _ (λ t z. absurd (omega arith)) λ r. if-both Q _ _ _ (λ t z. absurd (omega arith)) λ t.
      (let g = digest-guards (partition_at map a) a (allowed-there map a _ t) in
      after_both (λ r. code_of r.answer ≡ 0x00 → Digestible prims map m a)
      (program_answer digest_rule m.lent.cells ((partition_at map a).digest / 2) (words_of 4 value)) _ _
      (λ e z. record { ready = not-false _ r; below = allowed-below map a _ t; hardware = g.hardware; start = g.start; not_locked = g.unlocked; takes = e })
      (λ cell e z. absurd (omega arith))))

  module _ (F : fit map ≡ true) (r : ValidInputs map m) (d : Digestible prims map m a) where
    digested : Digested map (number_at map a)
    digested = record { known = (inside map F d.below).known; direct = unfold partition_at in (hardware-direct _ d.hardware) }

    space : (partition_at map a).digest / 2 + length (words_of 4 value) ≤ length m.lent.cells
    unfolding partition_at
    space =
        let f = partition-fit map F digested.known in
        rw length-words (omega (arith, f.tail digested.direct, end-within map F digested.known, cells-length prims map m r))

    pub digest-done : (answer_to prims map (Digest a) m ≡ Ok value)
        × Put digest_rule ((partition_at map a).digest / 2) (words_of 4 value) m.lent.cells (machine_after prims map (Digest a) m).lent.cells
    unfolding obey act performed perform
    digest-done =
        rw (step-obeys prims map (Digest a) m r, machine_after, answer_to, allowed-act d, after-done _ _ d.takes)
        (refl, put-words digest_rule ((partition_at map a).digest / 2) (words_of 4 value) m.lent.cells space d.takes)

    module _ (G : DigestFits prims) where
      fits : value < 2 ^ 64
      unfolding computed_digest digest_start digest_final data_words
      fits = digest-small prims G map m r (partition map (number_at map a))

      pub digest-stored : stored_digest (partition_at map a) (machine_after prims map (Digest a) m).lent.cells ≡ value
      unfolding stored_digest
      digest-stored = ap number_of (rw length-words at digest-done.1.holds) ∙ number-block value fits

      -- the location was blank, so that the partition passed before
      blank : stored_digest (partition map (number_at map a)) m.lent.cells ≡ 0
      unfolding stored_digest partition_at
      blank = blank_part m.lent.cells _ 4 (λ j lo hi. done-blank (words_of 4 value) m.lent.cells _ j d.takes lo (rw length-words hi))

      pub digest-checks : (l : List Command) → DataNotWritten prims map (number_at map a) l (machine_after prims map (Digest a) m)
          → digest_holds prims m.lent.constants (after prims map l (machine_after prims map (Digest a) m)).lent.cells (partition_at map a) ≡ true
      unfolding partition_at
      digest-checks l s =
          let n = number_at map a in
          let x : Command = Digest a in
          let h = step-holds prims map F n digested d.hardware G x m r (zero-holds prims map F n digested m.lent.constants m.lent.cells blank) tt in
          rw (step-constants prims map x m) at
          (after_holds prims map F n digested d.hardware G l (machine_after prims map x m) (step-inputs prims map x m r)
          (rw (step-constants prims map x m) h) s)

pub digest-exact : (prims : Primitives) (map : Map) (m : Machine) (a : ℕ) → fit map ≡ true → ValidInputs map m
    → (code_of (answer_to prims map (Digest a) m) ≡ 0x00) ↔ Digestible prims map m a
digest-exact prims map m a F r = (digest-only prims map m a, λ d. ap code_of (digest-done prims map m a F r d).0)
