-- When a digest command answers 5 and 4. The idea: an address that is the start of a partition is in that partition, so that the guards of the act are the
-- conditions of the rule; past them the four words of the location decide.
use Rattle.std.specs.Prelude.{Ok, Err, Result, ⊤}
use mathlib.Core.Path.{◌≡◌, refl, sym, ap, ◌∙◌}
use mathlib.Core.Bool.{true, not, false, ◌||◌}
use mathlib.Core.List.{List}
use mathlib.Core.Logic.{◌↔◌}
use Prim.Native.Nat.{ℕ, ◌/◌, ◌<◌}
use native.Mathlib.Omega.{arith}
use lib.Dec.{leb}
use borrow.Author.Tests.{eq-eqb, not-true}
use Rattle.basics.proofs.Choice.{true-not-false, if-both}
use Rattle.words.specs.Words.{words_of}
use Rattle.words.specs.Programming.{program_answer}
use Rattle.words.proofs.Words.{length-words}
use Rattle.words.proofs.Programming.{refused-not-done, refused-lowest, lowest-refused}
use Rattle.partitions.specs.Fitness.{fit}
use Rattle.partitions.specs.Map.{Map, rights_of, number_at, partition_at, limit}
use Rattle.partitions.proofs.Map.{inside, only, partition-at, partition-fit, end-within}
use Rattle.model.specs.declared.Failure.TheVariants.{NotBlank, Denied}
use Rattle.model.specs.declared.Command.TheVariants.{Digest}
use Rattle.model.specs.Session.{is_ready, sensed_locked, sensed_at}
use Rattle.model.specs.Lent.{Machine, Primitives}
use Rattle.model.specs.Acts.{Act, perform}
use Rattle.model.specs.Commands.{digest_rule, computed_digest, digest_act, command_act, ready_act, digest_denied}
use Rattle.model.specs.Step.{performed, act, obey, answer_to}
use Rattle.model.specs.Claims.Terms.{ValidInputs, Says}
use Rattle.model.specs.Claims.Numbers.{LowestBurnt}
use Rattle.model.specs.Claims.Digests.{DigestAllowed}
use Rattle.model.proofs.KindNames.{hardware-kind, kind-hardware}
use Rattle.model.proofs.Acts.{after_both}
use Rattle.model.proofs.Steps.{step-obeys}
use Rattle.model.proofs.StoredWords.{lowest-blank}
use Rattle.model.proofs.Guards.{allowed-both, digest-guards, digest-open, allowed-there, allowed-below, not-locked}
use Rattle.model.specs.declared.Phase.TheVariants as phase
use Rattle.model.specs.Answers.{Answer}

module _ (prims : Primitives) (map : Map) (F : fit map ≡ true) (m : Machine) (a : ℕ) where
  -- an allowed command's address is in its partition
  abbrev Allowed : Type 0
  Allowed = DigestAllowed prims map m a

  in-partition : (d : Allowed) → number_at map a ≡ d.number
  in-partition d =
      let f = partition-fit map F d.known in
      only map F d.known (omega (arith, d.start)) (omega (arith, d.start, f.filled))

  below-limit : Allowed → a < limit map
  below-limit d =
      let f = partition-fit map F d.known in
      omega (arith, d.start, f.filled, end-within map F d.known)

  hardware-there : (d : Allowed) → (rights_of (partition_at map a).kind).hardware ≡ true
  hardware-there d = rw (partition-at map a (in-partition d)) (kind-hardware d.hardware)

  start-there : (d : Allowed) → a ≡ (partition_at map a).start
  start-there d = rw (partition-at map a (in-partition d)) d.start

  unlocked-there : (d : Allowed) → sensed_locked m.session (number_at map a) ≡ false
  unfolding sensed_locked
  unlocked-there d = ap not (eq-eqb (sensed_at m.session (number_at map a)) 0 (rw (in-partition d) d.unlocked))

  -- it is allowed where it is not denied, and nowhere else
  not-denied : Allowed → (leb (limit map) a || digest_denied (sensed_locked m.session (number_at map a)) (partition_at map a) a) ≡ false
  not-denied d =
      allowed-both map a _ (below-limit d)
      (digest-open (partition_at map a) a (record { hardware = hardware-there d; start = start-there d; unlocked = unlocked-there d }))

  allowed : (leb (limit map) a || digest_denied (sensed_locked m.session (number_at map a)) (partition_at map a) a) ≡ false → Allowed
  unfolding partition_at
  allowed t =
      let g = digest-guards (partition_at map a) a (allowed-there map a _ t) in
      record {
        number = number_at map a;
        known = (inside map F (allowed-below map a _ t)).known;
        hardware = hardware-kind _ g.hardware;
        start = g.start;
        unlocked = not-locked m.session (number_at map a) g.unlocked;
      }

  abbrev words : List ℕ
  words = words_of 4 (computed_digest prims m.lent.constants (partition_at map a) m.lent.cells)

  abbrev Takes : Result ⊤ ℕ → Type 0
  Takes result = program_answer digest_rule m.lent.cells ((partition_at map a).digest / 2) words ≡ result

  data DigestEnd (answer : Answer) : Type 0 where
    denied : (Allowed → ⊥) → answer ≡ Err Denied → DigestEnd answer
    stops : {i : ℕ} → Allowed → Takes (Err i) → answer ≡ Err (NotBlank i) → DigestEnd answer
    done : {value : ℕ} → Allowed → Takes (Ok tt) → answer ≡ Ok value → DigestEnd answer

  abbrev Ends : Act → Type 0
  Ends x = DigestEnd (perform x m.lent).answer

  digest-ends : Ends (digest_act prims map m a)
  unfolding digest_act perform
  digest-ends =
      if-both Ends (leb (limit map) a || digest_denied (sensed_locked m.session (number_at map a)) (partition_at map a) a) _ _
      (λ t. denied (λ d. true-not-false t (not-denied d)) refl)
      λ t. after_both (λ r. DigestEnd r.answer) _ _ _ (λ e. done (allowed t) e refl) (λ i e. stops (allowed t) e refl)

  abbrev Exact : Answer → Type 0
  Exact answer =
      (Says 0x05 0 answer ↔ (Allowed → ⊥))
      × ((i : ℕ) → Says 0x04 i answer ↔ (Allowed × LowestBurnt m.lent.cells ((partition_at map a).digest / 2) 4 i))

  -- the lowest word that refuses, of four
  lowest-of : (i : ℕ) → Takes (Err i) → LowestBurnt m.lent.cells ((partition_at map a).digest / 2) 4 i
  lowest-of i t =
      rw length-words at ((lowest-blank m.lent.cells words ((partition_at map a).digest / 2) i).0
      (refused-lowest digest_rule words m.lent.cells ((partition_at map a).digest / 2) i t))

  refused-at : (i : ℕ) → LowestBurnt m.lent.cells ((partition_at map a).digest / 2) 4 i → Takes (Err i)
  refused-at i b =
      lowest-refused digest_rule words m.lent.cells ((partition_at map a).digest / 2) i
      ((lowest-blank m.lent.cells words ((partition_at map a).digest / 2) i).1 (rw length-words b))

  exact : {answer : Answer} → DigestEnd answer → Exact answer
  exact (denied n e) = rw e (((λ q. n), λ q. (refl, refl)), λ i. ((λ q. absurd (omega (arith, q.0))), λ q. absurd (n q.0)))
  exact (stops {i = k} d t e) = rw e (
    ((λ q. absurd (omega (arith, q.0))), λ q. absurd (q d)),
    λ i. ((λ q. (d, lowest-of i (t ∙ ap Err q.1))), λ q. (refl, same_word i (refused-at i q.1))),
  )
    where
      same_word : (i : ℕ) → program_answer digest_rule m.lent.cells ((partition_at map a).digest / 2)
          (words_of 4 (computed_digest prims m.lent.constants (partition_at map a) m.lent.cells)) ≡ Err i → k ≡ i
      same_word i q = let z : Err k ≡ Err i = sym t ∙ q in cc
  exact (done d t e) = rw e (
    ((λ q. absurd (omega (arith, q.0))), λ q. absurd (q d)),
    λ i. ((λ q. absurd (omega (arith, q.0))), λ q. absurd (refused-not-done (sym (refused-at i q.1) ∙ t))),
  )

  pub digest-codes : ValidInputs map m → m.session.phase ≡ phase.Ready → Exact (answer_to prims map (Digest a) m)
  unfolding obey act performed ready_act command_act is_ready
  digest-codes r e =
      rw (step-obeys prims map (Digest a) m r, answer_to)
      (exact (if-both Ends (not (is_ready m.session.phase)) _ _ (λ t. absurd (true-not-false (ap is_ready e) (not-true _ t))) (λ t. digest-ends)))
