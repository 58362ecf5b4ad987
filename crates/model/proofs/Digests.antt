-- A digest is never written in part. The idea: the granule of an address in a digest is the whole digest, so a write or a digest command programs all of it
-- or none; and no other command programs a word of it.
use Rattle.std.specs.Prelude.{Ok}
use mathlib.Core.Path.{◌≡◌, refl, sym, ap, ◌∙◌}
use mathlib.Core.Bool.{true, ◌&&◌}
use mathlib.Core.List.{List, [], ◌∷◌}
use Prim.Native.Nat.{ℕ, ◌+◌, ◌*◌, ◌/◌, ◌%◌, ◌^◌, ◌≤◌, ◌<◌}
use native.Mathlib.Omega.{arith}
use lib.Dec.{eqb}
use lib.ListN.{length, get_or}
use borrow.Author.Tests.{eqb-true, eqb-false, eq-eqb}
use Rattle.basics.proofs.Choice.{by_cases, true-not-false, not-passed, and_left, and_right, and_both, if-false}
use Rattle.words.specs.declared.Rule.{Rule}
use Rattle.words.specs.Words.{number_of, words_of}
use Rattle.words.specs.Programming.{program_answer, program_cells}
use Rattle.words.proofs.Words.{length-words, number-words}
use Rattle.words.proofs.Parts.{part_same}
use Rattle.words.proofs.Programming.{program-elsewhere, program-takes}
use Rattle.partitions.specs.declared.Partition.{Partition}
use Rattle.partitions.specs.Map.{Map, number_at, partition, partition_at, in_digest, first_word, word_count}
use Rattle.partitions.specs.Fitness.{fit}
use Rattle.partitions.proofs.KindRights.{soft-plain, hardware-direct}
use Rattle.partitions.proofs.Map.{inside, partition-at, partition-fit, end-within}
use Rattle.partitions.proofs.Granules.{word-inside, word_number, digest-word, digest-granule}
use Rattle.model.specs.declared.Command.{Command}
use Rattle.model.specs.declared.Command.TheVariants.{Write, Digest}
use Rattle.model.specs.Answers.{Answer}
use Rattle.model.specs.Lent.{Machine, Primitives}
use Rattle.model.specs.Commands.{stored_digest, scrambled}
use Rattle.model.specs.Step.{Step, unchanged, performed, act, power_up, after, machine_after, answer_to}
use Rattle.model.specs.Claims.Terms.{ValidInputs, Digested, writing_of, writes_nothing, stored_words}
use Rattle.model.specs.Claims.Digests.{Puts, writes, computes, Source, found, put}
use Rattle.model.proofs.Frame.{programs-none-word, programs-nowhere}
use Rattle.model.proofs.Steps.{outcome, step-all, cells-length, step-inputs}
use Rattle.model.proofs.Forms.{Writes, Digesting}
use Rattle.model.proofs.Targets.{WriteBurns, DigestBurns, left, burnt, write-burnt, digest-burnt}
use Rattle.model.proofs.Classes.{by-writing}

module _ (prims : Primitives) (map : Map) (F : fit map ≡ true) (n : ℕ) (D : Digested map n) where
  abbrev p : Partition
  p = partition map n

  -- a word of the digest
  abbrev Word : ℕ → Type 0
  Word j = (p.digest / 2 ≤ j) × (j < p.digest / 2 + 4)

  word_at : (j : ℕ) → Word j → number_at map (2 * j) ≡ n
  word_at j w = (digest-word map F D.known D.direct w.0 w.1).0

  digest-same : (c d : List ℕ) → ((j : ℕ) → Word j → get_or c j 0 ≡ get_or d j 0) → stored_digest p c ≡ stored_digest p d
  unfolding stored_digest
  digest-same c d h = ap number_of (part_same c d _ 4 (λ j lo hi. h j (lo, hi)))

  -- four words programmed there are the digest
  pub digest-taken : (rule : Rule) (m : Machine) → ValidInputs map m → (value : ℕ)
      → program_answer rule m.lent.cells (p.digest / 2) (words_of 4 value) ≡ Ok tt
      → value % 2 ^ 64 ≡ stored_digest p (program_cells rule m.lent.cells (p.digest / 2) (words_of 4 value))
  unfolding stored_digest
  digest-taken rule m r value e =
      let f = partition-fit map F D.known in
      let space : p.digest / 2 + 4 ≤ length m.lent.cells = omega (arith, f.tail D.direct, end-within map F D.known, cells-length prims map m r) in
      sym (number-words 4 value)
      ∙ ap number_of (sym (rw length-words at (program-takes rule m.lent.cells (words_of 4 value) (p.digest / 2) (rw length-words space) e)))

  -- words programmed elsewhere leave it
  digest-left : (rule : Rule) (c words : List ℕ) (at : ℕ) → ((j : ℕ) → Word j → at ≤ j → j < at + length words → ⊥)
      → stored_digest p (program_cells rule c at words) ≡ stored_digest p c
  digest-left rule c words at h = digest-same _ c (λ j w. program-elsewhere rule c words at j (h j w))

  -- what a command makes of it
  pub data Change (x : Command) (c d : List ℕ) (answer : Answer) : Type 0 where
    kept : stored_digest p d ≡ stored_digest p c → Change x c d answer
    puts : Puts map n (stored_digest p d) x answer → Change x c d answer

  abbrev Changes : Command → Machine → Type 0
  Changes x m = Change x m.lent.cells (outcome prims map x m).cells (outcome prims map x m).answer

  -- ---- a write

  module _ {m : Machine} {a : ℕ} (w : Writes prims map m a) where
    -- in the digest it programs the four words of its data, plain
    write-inside : partition_at map a ≡ p → in_digest p a ≡ true → (given : ℕ)
        → (first_word (partition_at map a) a ≡ p.digest / 2) × (stored_words prims map m.lent.constants a given ≡ words_of 4 given)
    unfolding scrambled
    write-inside e d given =
        let h : in_digest (partition_at map a) a ≡ true = rw e d in
        let g = digest-granule map F w.below w.guards.direct h in
        let soft = not-passed _ (λ t. true-not-false (and_both _ _ t h) w.guards.not_digest) in
        (g.0 ∙ ap (λ (q : Partition). q.digest / 2) e, rw g.1 (ap (words_of 4) (if-false _ _ (soft-plain _ soft))))

    -- a word of the digest that it programs shows that it is in the digest
    write_meets : (j : ℕ) → Word j → first_word (partition_at map a) a ≤ j → j < first_word (partition_at map a) a + word_count (partition_at map a) a
        → (eqb (number_at map a) n && in_digest p a) ≡ true
    write_meets j v from below =
        let e : number_at map a ≡ n = sym (word_number map F w.below from below) ∙ word_at j v in
        let q = partition-at map a e in
        let side : in_digest p (2 * j) ≡ in_digest p a = rw q at (word-inside map F w.below from below).side in
        and_both _ _ (eq-eqb _ _ e) (sym side ∙ (digest-word map F D.known D.direct v.0 v.1).1)

  write-changes : (m : Machine) → ValidInputs map m → (a value : ℕ) → Changes (Write a value) m
  write-changes m r a value = go (write-burnt prims map m a value)
    where
      go : WriteBurns prims map m a value (outcome prims map (Write a value) m) → Changes (Write a value) m
      go (left e) = kept (rw e)
      go (burnt w k f e) =
          by_cases (eqb (number_at map a) n && in_digest p a)
          (λ t.
          (let q = eqb-true (number_at map a) n (and_left (eqb (number_at map a) n) (in_digest p a) t) in
          let d = and_right (eqb (number_at map a) n) (in_digest p a) t in
          let g = write-inside w (partition-at map a q) d value in
          puts (rw (f, e, g.0, g.1) (writes q d (digest-taken _ m r value (rw (g.0, g.1) at k))))))
          (λ t. kept (rw f (digest-left _ _ _ _ (λ j v lo hi. true-not-false (write_meets w j v lo (rw length-words at hi)) t))))

  -- ---- a digest command

  -- it programs words of its partition alone
  pub computed-word : {m : Machine} {a : ℕ} → Digesting prims map m a → (j : ℕ) → (partition_at map a).digest / 2 ≤ j → j < (partition_at map a).digest / 2 + 4
      → number_at map (2 * j) ≡ number_at map a
  unfolding partition_at
  computed-word {a = a} w j lo hi = (digest-word map F (inside map F w.below).known (hardware-direct _ w.guards.hardware) lo hi).0

  digest-changes : (m : Machine) → ValidInputs map m → (a : ℕ) → Changes (Digest a) m
  digest-changes m r a = go (digest-burnt prims map m a)
    where
      go : DigestBurns prims map m a (outcome prims map (Digest a) m) → Changes (Digest a) m
      go (left e) = kept (rw e)
      go (burnt w k f e) =
          by_cases (eqb (number_at map a) n)
          (λ t.
          (let q = partition-at map a (eqb-true _ _ t) in
          let place : (partition_at map a).digest / 2 ≡ p.digest / 2 = ap (λ (q : Partition). q.digest / 2) q in
          puts (rw (f, e, place) (computes (rw q at w.guards.start) (digest-taken _ m r _ (rw place at k))))))
          (λ t. kept (rw f (digest-left _ _ _ _ (λ j v lo hi. eqb-false _ _ t (sym (computed-word w j lo (rw length-words at hi)) ∙ word_at j v)))))

  -- ---- every command

  -- a command with no aim programs no word of it
  programs-none : (x : Command) (m : Machine) → writing_of x ≡ writes_nothing → Changes x m
  programs-none x m h =
      kept (digest-same _ _ (λ j w. programs-none-word prims map F m x j (rw (partition-at map (2 * j) (word_at j w)) D.direct)
      (programs-nowhere map x h j)))

  command-changes : (m : Machine) → ValidInputs map m → (x : Command) → Changes x m
  command-changes m r = by-writing (λ (x : Command). Changes x m) (write-changes m r) (digest-changes m r) (λ x h. programs-none x m h)

  pub step-changes : (x : Command) (m : Machine) → ValidInputs map m
      → Change x m.lent.cells (machine_after prims map x m).lent.cells (answer_to prims map x m)
  unfolding unchanged power_up act performed
  step-changes x m r =
      step-all prims map (λ (s : Step). Change x m.lent.cells s.result.machine.lent.cells s.result.answer) x m (λ answer e. kept refl) (kept refl)
      (command-changes m r x)

  pub whole-digests : (l : List Command) (m : Machine) → ValidInputs map m → Source prims map m l n (stored_digest p (after prims map l m).lent.cells)
  unfolding after
  whole-digests [] m r = found refl
  whole-digests (x ∷ l) m r = go (step-changes x m r) (whole-digests l (machine_after prims map x m) (step-inputs prims map x m r))
    where
      go : {digest : ℕ} → Change x m.lent.cells (machine_after prims map x m).lent.cells (answer_to prims map x m)
          → Source prims map (machine_after prims map x m) l n digest → Source prims map m (x ∷ l) n digest
      go (kept e) (found h) = found (sym e ∙ h)
      go (puts e) (found h) = put [] x l refl (unfold after in (rw (← h) e))
      go c (put l₁ y l₂ e h) = put (x ∷ l₁) y l₂ (ap (λ (k : List Command). x ∷ k) e) (unfold after in h)
