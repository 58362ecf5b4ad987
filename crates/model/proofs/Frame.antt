-- Where each command may program. The idea: a word that is programmed lies in a partition whose sensed digest is zero, and there in the granule written or in a
-- hardware digest; or it is a life cycle word, and the command a transition.
use mathlib.Core.Path.{◌≡◌, refl, ap₂}
use mathlib.Core.Bool.{true, false}
use mathlib.Core.List.{List}
use Prim.Native.Nat.{ℕ, suc, ◌+◌, ◌*◌, ◌≤◌, ◌<◌, ◌/◌}
use native.Mathlib.Omega.{arith}
use lib.ListN.{get_or, length}
use Rattle.basics.proofs.Choice.{true-not-false}
use Rattle.words.proofs.Words.{length-words}
use Rattle.words.proofs.Parts.{part_same}
use Rattle.words.specs.Words.{words_of}
use Rattle.partitions.specs.Fitness.{fit}
use Rattle.partitions.proofs.KindRights.{hardware-direct}
use Rattle.partitions.proofs.Map.{inside, life-cycle-word, life-cycle-partition}
use Rattle.partitions.proofs.Granules.{word_number, digest-word}
use Rattle.life_cycle.proofs.Encoding.{counter-length, state-length}
use Rattle.partitions.specs.Map.{Map, rights_of, number_at, partition, partition_at, limit, in_digest, first_word, word_count, number_of_kind}
use Rattle.life_cycle.specs.Words.{decoded, counter_words, state_words}
use Rattle.model.specs.declared.Session.{Session}
use Rattle.model.specs.declared.Command.{Command}
use Rattle.model.specs.declared.Command.TheVariants.{Write, Digest, Transition}
use Rattle.model.specs.Session.{is_ready, sensed_at, sensed_locked}
use Rattle.model.specs.Lent.{Machine, Primitives, Lent}
use Rattle.model.specs.Acts.{perform}
use Rattle.model.specs.Commands.{counter_at, state_at, ready_act, class_of, transiting}
use Rattle.model.specs.PowerUp.{life_cycle_in}
use Rattle.model.specs.Claims.Terms.{writing_of, writes_nothing, stored_words, writes_at, digests_at}
use Rattle.model.proofs.Acts.{Within, perform-frame, Pieces}
use Rattle.model.proofs.Guards.{not-locked}
use Rattle.model.proofs.Forms.{Writes, Digesting, computed}
use Rattle.model.proofs.Leaves.{act-within}
use Rattle.partitions.specs.declared.Kind.TheVariants as kind

-- a word of a hardware digest
pub record HardwareDigestWord (map : Map) (j : ℕ) : Type 0 where
  pub hard : (rights_of (partition_at map (2 * j)).kind).hardware ≡ true
  pub high : in_digest (partition_at map (2 * j)) (2 * j) ≡ true

-- where a command aims outside the life cycle: a write at the words of its granule, a digest command at a hardware digest
abbrev pub ProgramsAt : Map → Command → ℕ → Type 0
ProgramsAt map x j =
    elim (writing_of x) [
      | writes_at a value ↦ (first_word (partition_at map a) a ≤ j) × (j < first_word (partition_at map a) a + word_count (partition_at map a) a)
      | digests_at a ↦ HardwareDigestWord map j
      | writes_nothing ↦ ⊥
    ]

pub programs-nowhere : (map : Map) (x : Command) → writing_of x ≡ writes_nothing → (j : ℕ) → ProgramsAt map x j → ⊥
programs-nowhere map x e j = rw (e, ProgramsAt) (λ z. z)

-- a word that a command may program under this record
pub data Programmable (map : Map) (x : Command) (s : Session) (j : ℕ) : Type 0 where
  unlocked : is_ready s.phase ≡ true → (rights_of (partition_at map (2 * j)).kind).direct ≡ true → sensed_at s (number_at map (2 * j)) ≡ 0 → ProgramsAt map x j
      → Programmable map x s j
  life_cycle : is_ready s.phase ≡ true → class_of x ≡ transiting → number_at map (2 * j) ≡ number_of_kind map kind.LifeCycle → Programmable map x s j

module _ (prims : Primitives) (map : Map) (F : fit map ≡ true) where
  -- ---- the life cycle words: they lie in LIFE_CYCLE, direct access is closed to them, and what is decoded depends on them alone

  pub life-words : (j : ℕ) → counter_at map ≤ j → j < counter_at map + 44 → number_at map (2 * j) ≡ number_of_kind map kind.LifeCycle
  unfolding counter_at
  life-words j l u = life-cycle-word map F l u

  pub life-closed : (j : ℕ) → number_at map (2 * j) ≡ number_of_kind map kind.LifeCycle → (rights_of (partition_at map (2 * j)).kind).direct ≡ false
  unfolding partition_at
  life-closed j e = rw e (life-cycle-partition map F).closed

  pub life-same : (l l' : Lent) → l.constants ≡ l'.constants
      → ((j : ℕ) → counter_at map ≤ j → j < counter_at map + 44 → get_or l.cells j 0 ≡ get_or l'.cells j 0)
      → life_cycle_in map l ≡ life_cycle_in map l'
  unfolding life_cycle_in state_at
  life-same l l' e h =
      rw e (ap₂ (λ (x y : List ℕ). decoded l'.constants x y) (part_same l.cells l'.cells _ 24 (λ j lo hi. h j lo (omega arith)))
      (part_same l.cells l'.cells _ 20 (λ j lo hi. h j (omega arith) (omega arith))))

  module _ (m : Machine) where
    part-open : (x : Command) (n j : ℕ) → is_ready m.session.phase ≡ true → (rights_of (partition map n).kind).direct ≡ true
        → sensed_locked m.session n ≡ false → number_at map (2 * j) ≡ n → ProgramsAt map x j → Programmable map x m.session j
    unfolding partition_at
    part-open x n j r d z e aim = unlocked r (rw e d) (rw e (not-locked _ _ z)) aim

    write-open : (a value : ℕ) → Writes prims map m a
        → Pieces (Programmable map (Write a value) m.session) (first_word (partition_at map a) a) (stored_words prims map m.lent.constants a value)
    unfolding partition_at
    write-open a value w j lo hi =
        let up = rw length-words at hi in
        part-open (Write a value) (number_at map a) j w.ready w.guards.direct w.guards.unlocked (word_number map F w.below lo up) (lo, up)

    digest-open : (a : ℕ) → Digesting prims map m a
        → Pieces (Programmable map (Digest a) m.session) ((partition_at map a).digest / 2) (words_of 4 (computed prims map m a))
    unfolding partition_at
    digest-open a w j lo hi =
        let hard = w.guards.hardware in
        let d = hardware-direct _ hard in
        let e = digest-word map F (inside map F w.below).known d lo (rw length-words at hi) in
        part-open (Digest a) (number_at map a) j w.ready d w.guards.unlocked e.0 (record { hard = rw e.0 hard; high = rw e.0 e.1 })

    -- counter words and state words are life cycle words
    life_open : (target given at : ℕ) (words : List ℕ) → is_ready m.session.phase ≡ true → counter_at map ≤ at → at + length words ≤ counter_at map + 44
        → Pieces (Programmable map (Transition target given) m.session) at words
    life_open target given at words r lo hi j from upto = life_cycle r refl (life-words j (omega arith) (omega arith))

    pub act-open : (x : Command) → Within (Pieces (Programmable map x m.session)) (ready_act prims map m x)
    act-open x = act-within prims map m (record {
      write = λ a value e w. rw e (write-open a value w);
      digest = λ a e w. rw e (digest-open a w);
      counter =
          λ target given e t. rw e (life_open target given (counter_at map) (counter_words k' (suc m.session.count)) t.ready (omega arith)
          (omega (arith, counter-length k' (suc m.session.count))));
      state =
          λ target given e t. rw e (life_open target given (state_at map) (state_words k' target) t.ready from-state.0
          (rw state-length from-state.1));
    })
      where
        k' : List ℕ
        k' = m.lent.constants

        from-state : (counter_at map ≤ state_at map) × (state_at map + 20 ≤ counter_at map + 44)
        from-state = unfold state_at in (omega arith, omega arith)

    -- a word that direct access reaches stays where the command has no aim at it
    pub programs-none-word : (x : Command) (j : ℕ) → (rights_of (partition_at map (2 * j)).kind).direct ≡ true → (ProgramsAt map x j → ⊥)
        → get_or (perform (ready_act prims map m x) m.lent).cells j 0 ≡ get_or m.lent.cells j 0
    programs-none-word x j d n = perform-frame (act-open x) m.lent j shut
      where
        shut : Programmable map x m.session j → ⊥
        shut (unlocked r e z aim) = n aim
        shut (life_cycle r t e) = true-not-false d (life-closed j e)

    -- and so does a word of the granule of such an address
    pub programs-none-granule : (x : Command) {a : ℕ} → a < limit map → (rights_of (partition_at map a).kind).direct ≡ true
        → (j : ℕ) → first_word (partition_at map a) a ≤ j → j < first_word (partition_at map a) a + word_count (partition_at map a) a → (ProgramsAt map x j → ⊥)
        → get_or (perform (ready_act prims map m x) m.lent).cells j 0 ≡ get_or m.lent.cells j 0
    unfolding partition_at
    programs-none-granule x below d j lo hi n = programs-none-word x j (rw (word_number map F below lo hi) d) n
