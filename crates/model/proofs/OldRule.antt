-- The old rule in AUTH_STATE data. The idea: a granule there is two words, which a write programs as they are by `KeepBits`; every other command leaves them.
use Rattle.std.specs.Prelude.{Ok, Err}
use mathlib.Core.Path.{◌≡◌, refl, sym, ap, ap₂, ◌∙◌}
use mathlib.Core.Bool.{true, false, not, ◌&&◌}
use mathlib.Core.List.{List}
use Prim.Native.Nat.{ℕ, ◌+◌, ◌*◌, ◌/◌, ◌≤◌, ◌<◌}
use native.Mathlib.Nat.{le_refl}
use native.Mathlib.Omega.{arith}
use lib.Dec.{eqb}
use lib.ListN.{length, get_or}
use borrow.Author.Tests.{leb-false, le-leb, lt-leb, eqb-true, eqb-false, not-true, eq-eqb}
use Rattle.basics.proofs.Choice.{by_cases, and_left, and_right, and_both, and-false, if-true, if-false}
use Rattle.words.specs.declared.Rule.TheVariants.{KeepBits, BlankOnly}
use Rattle.words.specs.Words.{words_of, part_at}
use Rattle.words.specs.Programming.{loses_bit, program_answer, program_cells, Lowest}
use Rattle.words.proofs.Words.{length-words}
use Rattle.words.proofs.Programming.{kept-part, lowest-refused, covered-done, program-takes, program-kept}
use Rattle.partitions.specs.declared.Kind.TheVariants.{AuthState}
use Rattle.partitions.specs.declared.Partition.{Partition}
use Rattle.partitions.specs.Map.{Map, rights_of, partition_at, limit, in_digest, granule_at, first_word, word_count}
use Rattle.partitions.specs.Fitness.{fit}
use Rattle.partitions.proofs.KindRights.{additive-kind}
use Rattle.partitions.proofs.Map.{inside}
use Rattle.partitions.proofs.Granules.{OneGranule, size-words, granule-inside, granule-within, shared-word}
use Rattle.model.specs.declared.Failure.TheVariants.{NotBlank}
use Rattle.model.specs.declared.Command.{Command}
use Rattle.model.specs.declared.Command.TheVariants.{Write, Digest, PowerUp}
use Rattle.model.specs.Lent.{Machine, Primitives, right_lengths}
use Rattle.model.specs.Acts.{effect_on, after_program, perform}
use Rattle.model.specs.Commands.{direct_rule, digest_rule, stored_digest, scrambled, write_denied}
use Rattle.model.specs.Step.{Step, unchanged, performed, act, obey, step, after, machine_after, answer_to}
use Rattle.model.specs.Claims.Terms.{ValidInputs, Cipher, not_written, stored_words, Allowed, TakesEffect}
use Rattle.model.specs.Claims.Demand3.{Ready}
use Rattle.model.specs.Claims.Sensing.{Since}
use Rattle.model.specs.Claims.OldRule.{InAuthState, two_words, Gains, stays, gains, OldRule}
use Rattle.model.specs.Session.{locking}
use Rattle.model.proofs.Targets.{digest-rule, WriteBurns, left, burnt, write-burnt}
use Rattle.model.proofs.Steps.{outcome, lengths-of, after-inputs, step-judged}
use Rattle.model.proofs.Ready.{step-act}
use Rattle.model.proofs.Since.{first-since, after-since}
use Rattle.model.proofs.Writes.{write-decided, write-takes, step_stays}
use Rattle.model.proofs.Forms.{Writes}
use Rattle.model.proofs.Classes.{by-writing}
use Rattle.model.proofs.Guards.{write-open}

-- ---- the rule of a place

pub auth-state-old : (p : Partition) (a : ℕ) → p.kind ≡ AuthState → a < p.digest → direct_rule p a ≡ KeepBits
unfolding direct_rule rights_of in_digest
auth-state-old p a k d = if-true _ _ (and_both (rights_of p.kind).additive _ (rw k refl) (ap not (lt-leb _ _ d)))

pub old-auth-state : (p : Partition) (a : ℕ) → direct_rule p a ≡ KeepBits → (p.kind ≡ AuthState) × (a < p.digest)
unfolding direct_rule in_digest
old-auth-state p a e =
    by_cases ((rights_of p.kind).additive && not (in_digest p a))
    (λ t. (additive-kind p.kind (and_left _ _ t), leb-false _ _ (not-true _ (and_right (rights_of p.kind).additive _ t))))
    (λ t. absurd (new-not-old (sym (if-false _ _ t) ∙ e)))
  where
    new-not-old : BlankOnly ≡ KeepBits → ⊥
    new-not-old e = cc

digest-new : (p : Partition) → direct_rule p p.digest ≡ digest_rule
digest-new p = digest-rule p p.digest (unfold in_digest in (le-leb _ _ (le_refl p.digest)))

module _ (prims : Primitives) (C : Cipher prims) (map : Map) (F : fit map ≡ true) where
  -- ---- the granule of an address there

  module _ {a : ℕ} (i : InAuthState map a) where
    abbrev p : Partition
    p = partition_at map a

    direct : (rights_of p.kind).direct ≡ true
    unfolding rights_of
    direct = rw i.is_auth_state refl

    plain : (rights_of p.kind).scrambled ≡ false
    unfolding rights_of
    plain = rw i.is_auth_state refl

    in-data : in_digest p a ≡ false
    unfolding in_digest
    in-data = lt-leb _ _ i.is_data

    not-digest : ((rights_of p.kind).hardware && in_digest p a) ≡ false
    not-digest = and-false (rights_of p.kind).hardware in-data

    -- a write there is not denied where the partition is open
    not-denied : (digest : ℕ) → digest ≡ 0 → write_denied (locking digest) p a ≡ false
    not-denied digest z = write-open p a (record { direct = direct; not_digest = not-digest; unlocked = ap not (eq-eqb digest 0 z) })

    four : granule_at p a ≡ 4
    unfolding granule_at
    four = if-false _ _ in-data ∙ (inside map F i.below).fits.sized ∙ if-false _ _ plain

    place : first_word p a ≡ a / 4 * 2
    place = (size-words p a 4 four).0

    count : word_count p a ≡ 2
    count = (size-words p a 4 four).1

    as-given : (constants : List ℕ) (value : ℕ) → stored_words prims map constants a value ≡ words_of 2 value
    unfolding scrambled
    as-given constants value = ap₂ words_of count (if-false _ _ plain)

    -- its two words, as the laws of granules have them
    as-two-words : (cells : List ℕ) → part_at cells (first_word p a) (word_count p a) ≡ two_words cells a
    as-two-words cells = ap₂ (part_at cells) place count

  -- ---- one command

  module _ {a : ℕ} (i : InAuthState map a) (m : Machine) where
    abbrev cells : List ℕ
    cells = m.lent.cells

    -- what a command that is no write to the granule makes of it
    unwritten : (x : Command) → not_written map a x (answer_to prims map x m)
        → Gains a (two_words cells a) x (answer_to prims map x m) (two_words (machine_after prims map x m).lent.cells a)
    unwritten x sp =
        let e = sym (as-two-words i _) ∙ step_stays prims C map F a i.below (direct i) (not-digest i) x m sp ∙ as-two-words i cells in
        rw e stays

    -- an address of the same granule is one of AUTH_STATE data
    module _ {b : ℕ} (low : b < limit map) (same : first_word (partition_at map b) b ≡ first_word (partition_at map a) a) where
      one : OneGranule map b a
      one =
          let w = granule-inside map F low in
          let v = granule-inside map F i.below in
          shared-word map F {j = first_word (partition_at map a) a} low i.below (omega arith) (omega arith) (omega arith) (omega arith)

      partition-same : partition_at map b ≡ partition_at map a
      unfolding partition_at
      partition-same = rw one.number

      there : InAuthState map b
      unfolding in_digest
      there = record {
        below = low;
        is_auth_state = rw partition-same i.is_auth_state;
        is_data = leb-false _ _ (one.side ∙ in-data i);
      }

      place_same : b / 4 * 2 ≡ a / 4 * 2
      place_same = sym (place there) ∙ same ∙ place i

    -- a write that is done has become the two words
    written : right_lengths map m.lent ≡ true → (b value : ℕ) → Writes prims map m b → first_word (partition_at map b) b ≡ first_word (partition_at map a) a
        → let rule = direct_rule (partition_at map b) b in
        let at = first_word (partition_at map b) b in
        let words = stored_words prims map m.lent.constants b value in
        program_answer rule cells at words ≡ Ok tt
        → Gains a (two_words cells a) (Write b value) (Ok 0) (two_words (program_cells rule cells at words) a)
    written right b value w same done =
        let t = there w.below same in
        let rule = direct_rule (partition_at map b) b in
        let spot : first_word (partition_at map b) b ≡ a / 4 * 2 = place t ∙ place_same w.below same in
        let whole = as-given t m.lent.constants value in
        let taken : two_words (program_cells rule cells (a / 4 * 2) (words_of 2 value)) a ≡ words_of 2 value =
        rw length-words at (program-takes rule cells (words_of 2 value) (a / 4 * 2) (rw length-words inside-cells) (rw (spot, whole) at done)) in
        rw (spot, whole, taken)
        (gains {b = b} (omega (arith, place_same w.below same))
        (rw taken at (kept-part (program-kept rule cells (words_of 2 value) (a / 4 * 2)) (a / 4 * 2) 2)))
      where
        inside-cells : a / 4 * 2 + 2 ≤ length cells
        inside-cells = omega (arith, granule-within map F i.below, place i, count i, (lengths-of prims map m.lent right).0)

    write-gains : (b value : ℕ)
        → Gains a (two_words cells a) (Write b value) (answer_to prims map (Write b value) m)
        (two_words (machine_after prims map (Write b value) m).lent.cells a)
    write-gains b value =
        by_cases (eqb (first_word (partition_at map b) b) (first_word (partition_at map a) a))
        (λ t. step-judged prims map After (Write b value) m (λ e. unfold unchanged in stays) (λ e v. unfold unchanged in stays)
        (λ right v. unfold obey act performed in (done right (eqb-true _ _ t) (write-burnt prims map m b value))))
        (λ t. unwritten (Write b value) (λ e. absurd (eqb-false _ _ t e)))
      where
        After : Step → Type 0
        After s = Gains a (two_words cells a) (Write b value) s.result.answer (two_words s.result.machine.lent.cells a)

        done : right_lengths map m.lent ≡ true → first_word (partition_at map b) b ≡ first_word (partition_at map a) a
            → WriteBurns prims map m b value (outcome prims map (Write b value) m)
            → Gains a (two_words cells a) (Write b value) (outcome prims map (Write b value) m).answer (two_words (outcome prims map (Write b value) m).cells a)
        done right same (left e) = rw e stays
        done right same (burnt w k f e) = rw (f, e) (written right b value w same k)

    step-gains : (x : Command) → Gains a (two_words cells a) x (answer_to prims map x m) (two_words (machine_after prims map x m).lent.cells a)
    step-gains =
        by-writing (λ (x : Command). Gains a (two_words cells a) x (answer_to prims map x m) (two_words (machine_after prims map x m).lent.cells a)) write-gains
        (λ b. unwritten (Digest b) tt) (λ x e. unwritten x (rw (e, not_written) tt))

  -- ---- a write that clears a bit, on a chip that is Ready since a power-up that found the cells c₀

  clears-refused : {a : ℕ} → InAuthState map a → (c₀ : List ℕ) (m : Machine) → Since prims map c₀ m → stored_digest (partition_at map a) c₀ ≡ 0
      → (value j : ℕ) → Lowest KeepBits m.lent.cells (a / 4 * 2) (words_of 2 value) j
      → (answer_to prims map (Write a value) m ≡ Err (NotBlank j)) × (machine_after prims map (Write a value) m ≡ m)
  unfolding act performed perform after_program effect_on
  clears-refused {a} i c₀ m f z value j low =
      let e = write-decided prims C map F c₀ m f a value i.below (not-denied i _ z) in
      let q = lowest-refused KeepBits (words_of 2 value) m.lent.cells (a / 4 * 2) j low in
      let old = auth-state-old (partition_at map a) a i.is_auth_state i.is_data in
      rw (machine_after, answer_to, step-act prims map (Write a value) m f.right tt, e, old, place i, as-given i m.lent.constants value, q) (refl, refl)

  -- ---- a write on a Ready chip: any commands l₀, a power-up that answers 0, commands l₁ while Ready lasts

  module _ (m : Machine) (r : ValidInputs map m) (l₀ l₁ : List Command) (ready : Ready prims map m l₀ l₁) {a : ℕ} (i : InAuthState map a) where
    abbrev c₀ : List ℕ
    c₀ = (after prims map l₀ m).lent.cells

    abbrev m₁ : Machine
    m₁ = after prims map l₁ (machine_after prims map PowerUp (after prims map l₀ m))

    since : Since prims map c₀ m₁
    since = after-since prims map F c₀ l₁ _ ready.lasts (first-since prims map F _ (after-inputs prims map l₀ m r) ready.succeeded)

    adding-taken : (value : ℕ) → stored_digest (partition_at map a) c₀ ≡ 0
        → ((j : ℕ) → j < 2 → loses_bit (get_or (two_words m₁.lent.cells a) j 0) (get_or (words_of 2 value) j 0) ≡ false)
        → TakesEffect prims map m₁ a value (step prims map (Write a value) m₁)
    adding-taken value z h = write-takes prims C map F c₀ m₁ since a value allowed
      where
        allowed : Allowed prims map m₁.lent.constants c₀ m₁.lent.cells a value
        allowed = record {
          below = i.below;
          not_denied = not-denied i _ z;
          takes = rw (auth-state-old (partition_at map a) a i.is_auth_state i.is_data, place i, as-given i m₁.lent.constants value)
              (covered-done (words_of 2 value) m₁.lent.cells (a / 4 * 2) (λ j l. rw length-words (h j (rw length-words at l))));
        }

    clearing-refused : (value : ℕ) → stored_digest (partition_at map a) c₀ ≡ 0
        → (j : ℕ) → Lowest KeepBits m₁.lent.cells (a / 4 * 2) (words_of 2 value) j
        → (answer_to prims map (Write a value) m₁ ≡ Err (NotBlank j)) × (machine_after prims map (Write a value) m₁ ≡ m₁)
    clearing-refused value z j low = clears-refused i c₀ m₁ since z value j low

  pub old-rule : OldRule prims map
  old-rule = record {
    there = auth-state-old;
    only = old-auth-state;
    digests = digest-new;
    granules = λ m l x a i. step-gains i (after prims map l m) x;
    taken = λ m r l₀ l₁ ready a value i z h. adding-taken m r l₀ l₁ ready i value z h;
    refused = λ m r l₀ l₁ ready a value i z j low. clearing-refused m r l₀ l₁ ready i value z j low;
  }
