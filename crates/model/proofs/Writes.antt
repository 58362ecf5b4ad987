-- A write that the rules allow takes effect and reads back. The idea: on a chip that is Ready since a power-up the guards pass and the granule is programmed;
-- only a write to that granule that answers 0 changes its words, whatever else comes; and a read of them unscrambles what was scrambled.
use Rattle.std.specs.Prelude.{Ok}
use mathlib.Core.Path.{◌≡◌, refl, sym, ap, ap₂, ◌∙◌}
use mathlib.Core.Bool.{true, false, not, ◌&&◌}
use mathlib.Core.List.{List, [], ◌∷◌}
use Prim.Native.Nat.{ℕ, ◌+◌, ◌^◌, ◌≤◌, ◌<◌}
use native.Mathlib.Omega.{arith}
use lib.Dec.{eqb, lit<}
use lib.ListN.{get_or}
use borrow.Author.Tests.{eq-eqb, eqb-true, eqb-false, not-false}
use Rattle.basics.proofs.Choice.{by_cases, true-not-false, not-passed, and_both, and-false, if-true, if-false, if-both}
use Rattle.words.specs.declared.Rule.{Rule}
use Rattle.words.specs.declared.Rule.TheVariants.{KeepBits, BlankOnly}
use Rattle.words.specs.Words.{number_of, words_of, part_at}
use Rattle.words.specs.Programming.{program_cells}
use Rattle.words.proofs.Words.{length-words, number-block}
use Rattle.words.proofs.Parts.{part-number-lt, part_same}
use Rattle.words.proofs.Programming.{program-elsewhere, program-takes}
use Rattle.partitions.specs.declared.Kind.{Kind}
use Rattle.partitions.specs.declared.Partition.{Partition}
use Rattle.partitions.specs.Fitness.{fit}
use Rattle.partitions.proofs.KindRights.{soft-plain}
use Rattle.partitions.proofs.Map.{inside}
use Rattle.partitions.proofs.Granules.{OneGranule, scrambled-words, granule-inside, granule-within, word-inside, word_number, shared-word}
use Rattle.partitions.specs.Map.{Map, rights_of, number_at, partition_at, limit, in_digest, first_word, word_count}
use Rattle.model.specs.declared.Command.{Command}
use Rattle.model.specs.declared.Command.TheVariants.{Read, Write, Digest, PowerUp}
use Rattle.model.specs.Answers.{code_of, value_of}
use Rattle.model.specs.Session.{sensed_locked, read_locked, locking}
use Rattle.constants.specs.Constants.{key_of}
use Rattle.model.specs.Lent.{Machine, Primitives}
use Rattle.model.specs.Acts.{no_effect, Act, say, program, perform}
use Rattle.model.specs.Commands.{direct_rule, granule, stored_digest, scrambled, unscrambled, write_act, read_act, command_act, ready_act, write_denied}
use Rattle.model.specs.Commands.{read_value}
use Rattle.model.specs.Step.{Step, unchanged, performed, act, power_up, step, after, machine_after, answer_to}
use Rattle.model.specs.Claims.Terms.{ValidInputs, Cipher, Digested, not_written, stored_words, used_value, Lasts, NotWritten, Allowed, TakesEffect}
use Rattle.model.specs.Claims.Demand3.{Ready}
use Rattle.model.specs.Claims.Sensing.{Since}
use Rattle.model.proofs.Acts.{after-done, not_done}
use Rattle.model.proofs.Frame.{HardwareDigestWord, programs-none-granule, programs-nowhere}
use Rattle.model.proofs.Steps.{outcome, step-all, cells-length, step-inputs, after-inputs, step-constants, after-constants}
use Rattle.model.proofs.SecondBurns.{after-held}
use Rattle.model.proofs.Ready.{step-act}
use Rattle.model.proofs.Since.{first-since, step-since, after-since, since-sensed}
use Rattle.model.proofs.Targets.{WriteBurns, left, burnt, write-burnt}
use Rattle.model.proofs.Classes.{by-writing}
use Rattle.model.proofs.Guards.{allowed-both, allowed-below, WriteGuards, read-open, write-guards, write-open}
use Rattle.partitions.specs.declared.Kind.TheVariants as kind

-- ---- either rule

pub by-rule {ℓ} : {X : Type ℓ} → (r : Rule) → (r ≡ KeepBits → X) → (r ≡ BlankOnly → X) → X
by-rule KeepBits f g = f refl
by-rule BlankOnly f g = g refl

-- ---- keys fit, so scrambling can be undone

key_fits : (c : List ℕ) (k : Kind) → ((i : ℕ) → get_or c i 0 < 65536) → key_of c k < 2 ^ 128
unfolding key_of
key_fits c kind.Software h = lit< tt
key_fits c kind.AuthState h = lit< tt
key_fits c kind.HwCfg h = lit< tt
key_fits c kind.Secret0 h = part-number-lt (record { small = h }) 0 8
key_fits c kind.Secret1 h = part-number-lt (record { small = h }) 8 8
key_fits c kind.Secret2 h = part-number-lt (record { small = h }) 16 8
key_fits c kind.LifeCycle h = lit< tt

module _ (prims : Primitives) (C : Cipher prims) (map : Map) (F : fit map ≡ true) where
  -- a scrambled granule is a block
  block_words : (a : ℕ) → a < limit map → (rights_of (partition_at map a).kind).scrambled ≡ true → word_count (partition_at map a) a ≡ 4
  block_words a l t = scrambled-words (inside map F l).fits t a

  -- what is read of the words that a write stored
  read-stored : (constants : List ℕ) → ((i : ℕ) → get_or constants i 0 < 65536) → (a value : ℕ) → a < limit map → value < 2 ^ 64
      → unscrambled prims constants (partition_at map a) (number_of (stored_words prims map constants a value)) ≡ used_value map a value
  unfolding unscrambled scrambled
  read-stored constants h a value l v =
      let p = partition_at map a in
      let key = key_of constants p.kind in
      let fits = key_fits constants p.kind h in
      by_cases (rights_of p.kind).scrambled
      (λ t. rw (t, block_words a l t) (if-true _ _ refl
      ∙ ap (λ (x : ℕ). prims.decrypt key (number_of (words_of 4 x))) (if-true (prims.encrypt key value) value refl)
      ∙ ap (prims.decrypt key) (number-block (prims.encrypt key value) (C.fits key value fits v)) ∙ C.back key value fits v ∙ sym (number-block value v)))
      (λ t. rw t (if-false _ _ refl ∙ ap (λ (x : ℕ). number_of (words_of (word_count p a) x)) (if-false (prims.encrypt key value) value refl)))

  -- ---- it takes effect

  direct-known : (a : ℕ) → a < limit map → (rights_of (partition_at map a).kind).direct ≡ true → Digested map (number_at map a)
  unfolding partition_at
  direct-known a l d = record { known = (inside map F l).known; direct = d }

  not-sensed : (c₀ : List ℕ) (m : Machine) → Since prims map c₀ m → (a : ℕ) → a < limit map → (rights_of (partition_at map a).kind).direct ≡ true
      → stored_digest (partition_at map a) c₀ ≡ 0 → sensed_locked m.session (number_at map a) ≡ false
  unfolding sensed_locked partition_at
  not-sensed c₀ m f a l d z = rw (eq-eqb _ 0 (since-sensed prims map F c₀ m f (number_at map a) (direct-known a l d) ∙ z))

  -- where it is not denied, the write is to program its granule
  pub write-decided : (c₀ : List ℕ) (m : Machine) → Since prims map c₀ m → (a value : ℕ) → a < limit map
      → write_denied (locking (stored_digest (partition_at map a) c₀)) (partition_at map a) a ≡ false
      → ready_act prims map m (Write a value)
      ≡ program (direct_rule (partition_at map a) a) (first_word (partition_at map a) a) (stored_words prims map m.lent.constants a value) no_effect
      (say (Ok 0) no_effect)
  unfolding ready_act command_act write_act
  write-decided c₀ m f a value below e =
      let w = write-guards (partition_at map a) a e in
      let z = not-sensed c₀ m f a below w.direct (eqb-true _ 0 (not-false _ w.unlocked)) in
      if-false _ _ (ap not f.ready)
      ∙ if-false _ _ (allowed-both map a _ below (write-open (partition_at map a) a (record { direct = w.direct; not_digest = w.not_digest; unlocked = z })))

  -- and where no word refuses, it does
  write-performed : (c₀ : List ℕ) (m : Machine) → Since prims map c₀ m → (a value : ℕ) → Allowed prims map m.lent.constants c₀ m.lent.cells a value
      → perform (ready_act prims map m (Write a value)) m.lent
      ≡ record {
        cells =
            program_cells (direct_rule (partition_at map a) a) m.lent.cells (first_word (partition_at map a) a)
            (stored_words prims map m.lent.constants a value);
        answer = Ok 0;
        effect = no_effect;
        compared = [];
      }
  unfolding perform
  write-performed c₀ m f a value al =
      ap (λ (x : Act). perform x m.lent) (write-decided c₀ m f a value al.below al.not_denied)
      ∙ after-done _ _ al.takes

  pub write-takes : (c₀ : List ℕ) (m : Machine) → Since prims map c₀ m → (a value : ℕ) → Allowed prims map m.lent.constants c₀ m.lent.cells a value
      → TakesEffect prims map m a value (step prims map (Write a value) m)
  unfolding act performed
  write-takes c₀ m f a value al =
      rw (step-act prims map (Write a value) m f.right tt, write-performed c₀ m f a value al)
      (record {
        done = refl;
        holds = held;
        others = λ j n. program-elsewhere (direct_rule (partition_at map a) a) m.lent.cells vs i j (λ l u. n l (rw length-words at u));
      })
    where
      i : ℕ
      i = first_word (partition_at map a) a

      vs : List ℕ
      vs = stored_words prims map m.lent.constants a value

      held : part_at (program_cells (direct_rule (partition_at map a) a) m.lent.cells i vs) i (word_count (partition_at map a) a) ≡ vs
      held =
          let inside = granule-within map F al.below in
          rw length-words at (program-takes (direct_rule (partition_at map a) a) m.lent.cells vs i
          (rw length-words (omega (arith, inside, cells-length prims map m f.right))) al.takes)

  -- ---- what leaves the granule alone

  module _ (a : ℕ) (below : a < limit map) (direct : (rights_of (partition_at map a).kind).direct ≡ true)
      (token_unlocked : ((rights_of (partition_at map a).kind).hardware && in_digest (partition_at map a) a) ≡ false) where
    abbrev first : ℕ
    first = first_word (partition_at map a) a

    abbrev count : ℕ
    count = word_count (partition_at map a) a

    -- a word of the granule is in no hardware digest
    not-sealed : (j : ℕ) → first ≤ j → j < first + count → HardwareDigestWord map j → ⊥
    unfolding partition_at
    not-sealed j lo hi k =
        let e = word_number map F below lo hi in
        true-not-false (and_both _ _ (rw e at k.hard) (sym (word-inside map F below lo hi).side ∙ (rw e at k.high))) token_unlocked

    write-stays : (m : Machine) (b value : ℕ) → not_written map a (Write b value) (outcome prims map (Write b value) m).answer
        → (j : ℕ) → first ≤ j → j < first + count → get_or (outcome prims map (Write b value) m).cells j 0 ≡ get_or m.lent.cells j 0
    write-stays m b value sp j lo hi = go (write-burnt prims map m b value)
      where
        go : WriteBurns prims map m b value (outcome prims map (Write b value) m)
            → get_or (outcome prims map (Write b value) m).cells j 0 ≡ get_or m.lent.cells j 0
        go (left e) = rw e
        go (burnt w k f e) =
            rw f (program-elsewhere _ m.lent.cells _ _ j
            (λ lo' hi'. sp (shared-word map F w.below below lo' (rw length-words at hi') lo hi).first (ap code_of e)))

    -- every other command aims at no word of it
    word-stays : (m : Machine) (x : Command) → not_written map a x (outcome prims map x m).answer → (j : ℕ) → first ≤ j → j < first + count
        → get_or (outcome prims map x m).cells j 0 ≡ get_or m.lent.cells j 0
    word-stays m =
        by-writing
        (λ (x : Command). not_written map a x (outcome prims map x m).answer → (j : ℕ) → first ≤ j → j < first + count
        → get_or (outcome prims map x m).cells j 0 ≡ get_or m.lent.cells j 0)
        (write-stays m) (λ b sp j lo hi. programs-none-granule prims map F m (Digest b) below direct j lo hi (not-sealed j lo hi))
        (λ x n sp j lo hi. programs-none-granule prims map F m x below direct j lo hi (programs-nowhere map x n j))

    pub step_stays : (x : Command) (m : Machine) → not_written map a x (answer_to prims map x m)
        → part_at (machine_after prims map x m).lent.cells first count ≡ part_at m.lent.cells first count
    unfolding unchanged power_up act performed
    step_stays x m =
        step-all prims map
        (λ (s : Step). not_written map a x s.result.answer → part_at s.result.machine.lent.cells first count ≡ part_at m.lent.cells first count) x m
        (λ answer e sp. refl) (λ sp. refl) (λ sp. part_same _ m.lent.cells first count (word-stays m x sp))

    -- while no write to the granule answers 0, its words stay, through power-ups and transitions too
    after-stays : (l : List Command) (m : Machine) → NotWritten prims map a l m
        → part_at (after prims map l m).lent.cells first count ≡ part_at m.lent.cells first count
    unfolding NotWritten after
    after-stays [] m sp = refl
    after-stays (x ∷ l) m sp = after-stays l (machine_after prims map x m) sp.1 ∙ step_stays x m sp.0

    -- ---- it reads back

    -- an address of the same granule
    module _ (b : ℕ) (low : b < limit map) (same : first_word (partition_at map b) b ≡ first) where
      one : OneGranule map b a
      one =
          let w = granule-inside map F low in
          let v = granule-inside map F below in
          shared-word map F {j = first} low below (omega arith) (omega arith) (omega arith) (omega arith)

      same-partition : partition_at map b ≡ partition_at map a
      unfolding partition_at
      same-partition = rw one.number

      same-side : in_digest (partition_at map b) b ≡ in_digest (partition_at map a) a
      same-side = one.side

      -- the granule holds the words of the value; what is read of it
      module _ (m : Machine) (r : ValidInputs map m) (value : ℕ) (v : value < 2 ^ 64)
          (held : part_at m.lent.cells first count ≡ stored_words prims map m.lent.constants a value) where
        abbrev p : Partition
        p = partition_at map b

        granule-is : granule p m.lent.cells b ≡ number_of (stored_words prims map m.lent.constants a value)
        unfolding granule
        granule-is = ap number_of (ap₂ (λ (i n : ℕ). part_at m.lent.cells i n) one.first one.count ∙ held)

        data_is : unscrambled prims m.lent.constants p (granule p m.lent.cells b) ≡ used_value map a value
        data_is =
            ap₂ (λ (p : Partition) (x : ℕ). unscrambled prims m.lent.constants p x) same-partition granule-is
            ∙ read-stored m.lent.constants r.words a value below v

        -- a digest that direct access may write is stored plain
        digest-is : in_digest p b ≡ true → granule p m.lent.cells b ≡ used_value map a value
        digest-is t = sym (plain (soft-plain _ soft)) ∙ data_is
          where
            soft : (rights_of p.kind).hardware ≡ false
            soft = rw same-partition (not-passed _ (λ h. true-not-false (and_both _ _ h (sym same-side ∙ t)) token_unlocked))

            plain : (rights_of p.kind).scrambled ≡ false
                → unscrambled prims m.lent.constants p (granule p m.lent.cells b) ≡ granule p m.lent.cells b
            plain q = unfold unscrambled in (if-false _ _ q)

        value-is : read_value prims m.lent.constants p m.lent.cells b ≡ used_value map a value
        unfolding read_value
        value-is = if-both (λ (x : ℕ). x ≡ used_value map a value) (in_digest p b) _ _ digest-is (λ t. data_is)

        -- on a chip that is Ready since a power-up that found the partition open, a read answers 0 and the data used
        read-act : (c₀ : List ℕ) → Since prims map c₀ m → stored_digest (partition_at map a) c₀ ≡ 0
            → (in_digest p b ≡ false → read_locked m.session (number_at map b) ≡ false)
            → ready_act prims map m (Read b) ≡ say (Ok (used_value map a value)) no_effect
        unfolding ready_act command_act read_act
        read-act c₀ f z k =
            let d' : (rights_of p.kind).direct ≡ true = rw same-partition direct in
            let z' : stored_digest p c₀ ≡ 0 = rw same-partition z in
            if-false _ _ (ap not f.ready)
            ∙ if-false _ _ (allowed-both map b _ low (read-open p b (record {
              direct = d';
              not_read_locked = λ t. and-false (rights_of p.kind).lockable (k t);
              not_secret_locked = λ t. and-false (rights_of p.kind).scrambled (not-sensed c₀ m f b low d' z');
            })))
            ∙ ap (λ (x : ℕ). say (Ok x) no_effect) value-is

        read_back : (c₀ : List ℕ) → Since prims map c₀ m → stored_digest (partition_at map a) c₀ ≡ 0
            → (in_digest p b ≡ false → read_locked m.session (number_at map b) ≡ false)
            → answer_to prims map (Read b) m ≡ Ok (used_value map a value)
        unfolding act performed perform
        read_back c₀ f z k = rw (step-act prims map (Read b) m r tt, answer_to, read-act c₀ f z k)

    -- on any chip, a read that answers 0 answers the data used
    read-shows : (m : Machine) → ValidInputs map m → (value : ℕ) → value < 2 ^ 64
        → part_at m.lent.cells first count ≡ stored_words prims map m.lent.constants a value
        → (b shown : ℕ) → first_word (partition_at map b) b ≡ first → (outcome prims map (Read b) m).answer ≡ Ok shown → shown ≡ used_value map a value
    unfolding ready_act command_act read_act perform
    read-shows m r value v held b shown same =
        if-both Q _ _ _ (λ t e. absurd (not_done refl e)) λ t. if-both Q _ _ _ (λ t e. absurd (not_done refl e)) λ t e.
        sym (ap value_of e) ∙ value-is b (allowed-below map b _ t) same m r value v held
      where
        Q : Act → Type 0
        Q x = (perform x m.lent).answer ≡ Ok shown → shown ≡ used_value map a value

    read-lasts : (m : Machine) → ValidInputs map m → (value : ℕ) → value < 2 ^ 64
        → part_at m.lent.cells first count ≡ stored_words prims map m.lent.constants a value
        → (b shown : ℕ) → first_word (partition_at map b) b ≡ first → answer_to prims map (Read b) m ≡ Ok shown → shown ≡ used_value map a value
    unfolding act performed
    read-lasts m r value v held b shown same = rw (step-act prims map (Read b) m r tt, answer_to) (read-shows m r value v held b shown same)

  -- ---- the theorems: any commands l₀, a power-up that answers 0, commands l₁ while Ready lasts, the write, then l₂

  module _ (m : Machine) (l₀ l₁ : List Command) where
    -- the chip before that power-up, after it, and before the write
    abbrev found : Machine
    found = after prims map l₀ m

    abbrev powered : Machine
    powered = machine_after prims map PowerUp found

    abbrev at_write : Machine
    at_write = after prims map l₁ powered

  module _ (m : Machine) (r : ValidInputs map m) (l₀ l₁ : List Command) (ready : Ready prims map m l₀ l₁) (a value : ℕ) (v : value < 2 ^ 64)
      (al : Allowed prims map m.lent.constants (found m l₀ l₁).lent.cells (at_write m l₀ l₁).lent.cells a value) where
    abbrev m₁ : Machine
    m₁ = at_write m l₀ l₁

    abbrev s : Step
    s = step prims map (Write a value) m₁

    abbrev c₀ : List ℕ
    c₀ = (found m l₀ l₁).lent.cells

    guards : WriteGuards (partition_at map a) a (locking (stored_digest (partition_at map a) c₀))
    guards = write-guards (partition_at map a) a al.not_denied

    since : Since prims map c₀ m₁
    since =
        after-since prims map F c₀ l₁ (powered m l₀ l₁) ready.lasts
        (first-since prims map F (found m l₀ l₁) (after-inputs prims map l₀ m r) ready.succeeded)

    same-constants : m₁.lent.constants ≡ m.lent.constants
    same-constants = after-constants prims map l₁ (powered m l₀ l₁) ∙ step-constants prims map PowerUp (found m l₀ l₁) ∙ after-constants prims map l₀ m

    pub write-taken : TakesEffect prims map m₁ a value s
    write-taken = write-takes c₀ m₁ since a value (rw same-constants al)

    stored-number : granule (partition_at map a) s.result.machine.lent.cells a ≡ number_of (stored_words prims map m.lent.constants a value)
    unfolding granule
    stored-number = rw (write-taken.holds, same-constants)

    module _ (l₂ : List Command) where
      abbrev m₂ : Machine
      m₂ = after prims map l₂ s.result.machine

      -- the granule is as the write left it
      abbrev Stays : Type 0
      Stays =
          let p = partition_at map a in
          part_at m₂.lent.cells (first_word p a) (word_count p a) ≡ part_at s.result.machine.lent.cells (first_word p a) (word_count p a)

      -- so it is where no other write to it answers 0
      unwritten-stays : NotWritten prims map a l₂ s.result.machine → Stays
      unwritten-stays = after-stays a al.below guards.direct guards.not_digest l₂ s.result.machine

      -- and always, where the stored form is not zero: the granule is not blank
      lasting-stays : (number_of (stored_words prims map m.lent.constants a value) ≡ 0 → NotWritten prims map a l₂ s.result.machine)
          → (direct_rule (partition_at map a) a ≡ KeepBits → NotWritten prims map a l₂ s.result.machine) → Stays
      lasting-stays unwritten again =
          by_cases (eqb (number_of (stored_words prims map m.lent.constants a value)) 0) (λ t. unwritten-stays (unwritten (eqb-true _ _ t)))
          (λ t. by-rule (direct_rule (partition_at map a) a) (λ k. unwritten-stays (again k))
          (λ b. after-held prims map F a al.below guards.direct b l₂ s.result.machine (λ z. eqb-false _ _ t (sym stored-number ∙ z))))

      still-inputs : ValidInputs map m₂
      still-inputs = after-inputs prims map l₂ s.result.machine (step-inputs prims map (Write a value) m₁ since.right)

      still-held : Stays → part_at m₂.lent.cells (first_word (partition_at map a) a) (word_count (partition_at map a) a)
          ≡ stored_words prims map m₂.lent.constants a value
      still-held stays =
          let e : m₂.lent.constants ≡ m₁.lent.constants = after-constants prims map l₂ s.result.machine ∙ step-constants prims map (Write a value) m₁ in
          rw e (stays ∙ write-taken.holds)

      pub words_last : (number_of (stored_words prims map m.lent.constants a value) ≡ 0 → NotWritten prims map a l₂ s.result.machine)
          → (direct_rule (partition_at map a) a ≡ KeepBits → NotWritten prims map a l₂ s.result.machine)
          → part_at m₂.lent.cells (first_word (partition_at map a) a) (word_count (partition_at map a) a) ≡ stored_words prims map m.lent.constants a value
      words_last unwritten again = lasting-stays unwritten again ∙ write-taken.holds ∙ ap (λ (k : List ℕ). stored_words prims map k a value) same-constants

      -- while Ready lasts, every read of the granule answers 0 and the data used
      pub reads-back : NotWritten prims map a l₂ s.result.machine → Lasts prims map l₂ s.result.machine
          → (b : ℕ) → b < limit map → first_word (partition_at map b) b ≡ first_word (partition_at map a) a
          → (in_digest (partition_at map b) b ≡ false → read_locked m₂.session (number_at map b) ≡ false)
          → answer_to prims map (Read b) m₂ ≡ Ok (used_value map a value)
      reads-back unwritten lasts b low same =
          let f = after-since prims map F c₀ l₂ s.result.machine lasts (step-since prims map F c₀ (Write a value) m₁ tt since) in
          read_back a al.below guards.direct guards.not_digest b low same m₂ still-inputs value v (still-held (unwritten-stays unwritten)) c₀ f
          (eqb-true _ 0 (not-false _ guards.unlocked))

      -- and ever after, every read of the granule that answers 0 answers the data used
      pub reads-last : (number_of (stored_words prims map m.lent.constants a value) ≡ 0 → NotWritten prims map a l₂ s.result.machine)
          → (direct_rule (partition_at map a) a ≡ KeepBits → NotWritten prims map a l₂ s.result.machine)
          → (b shown : ℕ) → first_word (partition_at map b) b ≡ first_word (partition_at map a) a
          → answer_to prims map (Read b) m₂ ≡ Ok shown → shown ≡ used_value map a value
      reads-last unwritten again =
          read-lasts a al.below guards.direct guards.not_digest m₂ still-inputs value v (still-held (lasting-stays unwritten again))
