-- The act that each command is decided to be, by cases on the commands. The idea: past the refusals that change nothing a command shows a value, locks a
-- partition, programs a granule or a digest, or spends a stroke; whatever else holds of acts is shown for these forms.
use Rattle.std.specs.Prelude.{Ok, Err}
use mathlib.Core.Path.{◌≡◌, refl}
use mathlib.Core.Bool.{Bool, true, false, ◌||◌}
use mathlib.Core.List.{List}
use Prim.Native.Nat.{ℕ, suc, ◌/◌, ◌≤◌, ◌<◌}
use native.Mathlib.Omega.{arith}
use lib.Dec.{leb, ltb}
use borrow.Author.Tests.{not-false, not-true, leb-true, ltb-true, ltb-false}
use Rattle.basics.specs.Choice.{when◌then◌else◌}
use Rattle.basics.proofs.Choice.{if-both, and_left, and_right}
use Rattle.words.specs.Words.{words_of}
use Rattle.partitions.specs.Map.{Map, number_at, partition_at, limit, first_word}
use Rattle.life_cycle.specs.Words.{counter_words}
use Rattle.life_cycle.specs.Transitions.{table_entry}
use Rattle.model.specs.declared.Failure.TheVariants.{Denied, NotReady, UnknownTarget, StrokesUsed}
use Rattle.model.specs.declared.Command.{Command}
use Rattle.model.specs.declared.Command.TheVariants.{Read, Write, FrontRead, Digest, ReadLock, Transition, PowerUp}
use Rattle.model.specs.declared.Failure.{Failure}
use Rattle.model.specs.Session.{is_ready, sensed_locked}
use Rattle.model.specs.Lent.{Machine, Primitives}
use Rattle.model.specs.Acts.{no_effect, lock, to_inert, to_dead, Act, say, program, refuse}
use Rattle.model.specs.Commands.{direct_rule, digest_rule, life_cycle_rule, computed_digest, counter_at, authorization, authorized_act, write_act, read_act}
use Rattle.model.specs.Commands.{front_read_act, digest_act, read_lock_act, transition_act, command_act, ready_act}
use Rattle.model.specs.Claims.Terms.{quiet, stored_words}
use Rattle.model.specs.Answers.{code_of}
use Rattle.model.proofs.Guards.{WriteGuards, write-guards, DigestGuards, digest-guards, allowed-below, allowed-there}

-- the refusals that change nothing
pub data Refuses : Command → Failure → Type 0 where
  denied : {x : Command} → quiet x → Refuses x Denied
  not_ready : {x : Command} → Refuses x NotReady
  unknown_target : {target given : ℕ} → Refuses (Transition target given) UnknownTarget

pub refuses-above : {x : Command} {failure : Failure} → Refuses x failure → ltb 4 (code_of (Err failure)) ≡ true
refuses-above (denied q) = refl
refuses-above not_ready = refl
refuses-above unknown_target = refl

pub refuses-not-done : {x : Command} {failure : Failure} → Refuses x failure → code_of (Err failure) ≡ 0x00 → ⊥
refuses-not-done (denied q) z = omega arith
refuses-not-done not_ready z = omega arith
refuses-not-done unknown_target z = omega arith

module _ (prims : Primitives) (map : Map) (m : Machine) where
  abbrev pub k : List ℕ
  k = m.lent.constants

  -- a write and a digest command that are not denied, on a Ready chip
  pub record Writes (a : ℕ) : Type 0 where
    pub ready : is_ready m.session.phase ≡ true
    pub below : a < limit map
    pub guards : WriteGuards (partition_at map a) a (sensed_locked m.session (number_at map a))

  pub record Digesting (a : ℕ) : Type 0 where
    pub ready : is_ready m.session.phase ≡ true
    pub below : a < limit map
    pub guards : DigestGuards (partition_at map a) a (sensed_locked m.session (number_at map a))

  -- a Ready chip whose record counts strokes and states that there are, and a target that there is
  pub record Transits (target : ℕ) : Type 0 where
    pub ready : is_ready m.session.phase ≡ true
    pub state : m.session.state ≤ 20
    pub count : m.session.count ≤ 24
    pub within : target ≤ 20

  -- the digest that a digest command computes
  abbrev pub computed : ℕ → ℕ
  computed a = computed_digest prims k (partition_at map a) m.lent.cells

  pub data Form : Command → Act → Type 0 where
    refuses : {x : Command} {failure : Failure} → Refuses x failure → Form x (refuse failure)
    reads : {a value : ℕ} → Form (Read a) (say (Ok value) no_effect)
    front_reads : {a value : ℕ} → Form (FrontRead a) (say (Ok value) no_effect)
    locks : {n : ℕ} → Form (ReadLock n) (say (Ok 0) (lock n))
    writes : {a value : ℕ} → Writes a
        → Form (Write a value) (program (direct_rule (partition_at map a) a) (first_word (partition_at map a) a) (stored_words prims map k a value) no_effect
        (say (Ok 0) no_effect))
    digests : {a : ℕ} → Digesting a
        → Form (Digest a) (program digest_rule ((partition_at map a).digest / 2) (words_of 4 (computed a)) no_effect (say (Ok (computed a)) no_effect))
    used : {target given : ℕ} → Transits target → 24 ≤ m.session.count → Form (Transition target given) (say (Err StrokesUsed) to_inert)
    spends : {target given : ℕ} → Transits target → m.session.count < 24
        → Form (Transition target given) (program life_cycle_rule (counter_at map) (counter_words k (suc m.session.count)) to_dead
        (authorized_act prims map m (authorization prims map m.session (table_entry m.session.state target) given) target))

  choose : {x : Command} (b : Bool) {y z : Act} → (b ≡ true → Form x y) → (b ≡ false → Form x z) → Form x (when b then y else z)
  choose {x} b {y} {z} f g = if-both (Form x) b y z f g

  on-address : {x : Command} (a : ℕ) (rule : Bool) {next : Act} → quiet x → (a < limit map → rule ≡ false → Form x next)
      → Form x (when leb (limit map) a || rule then refuse Denied else next)
  on-address a rule q f = choose _ (λ t. refuses (denied q)) (λ t. f (allowed-below map a rule t) (allowed-there map a rule t))

  transition-form : is_ready m.session.phase ≡ true → (target given : ℕ)
      → Form (Transition target given) (transition_act prims map m target given)
  unfolding transition_act
  transition-form r target given =
      choose _ (λ t. refuses not_ready) λ t. choose _ (λ t. refuses unknown_target) λ u.
      (let known = not-false _ t in
      let h : Transits target = record {
        ready = r;
        state = leb-true _ _ (and_left (leb m.session.state 20) _ known);
        count = leb-true _ _ (and_right (leb m.session.state 20) _ known);
        within = leb-true _ _ (not-false _ u);
      } in
      choose _ (λ t. used h (ltb-false _ _ (not-true _ t))) (λ t. spends h (ltb-true _ _ (not-false _ t))))

  command-form : (x : Command) → is_ready m.session.phase ≡ true → Form x (command_act prims map m x)
  unfolding command_act write_act read_act front_read_act digest_act read_lock_act
  command-form (Read a) r = on-address a _ tt (λ l o. reads)
  command-form (Write a value) r = on-address a _ tt (λ l o. writes (record { ready = r; below = l; guards = write-guards (partition_at map a) a o }))
  command-form (FrontRead a) r = on-address a _ tt (λ l o. front_reads)
  command-form (Digest a) r = on-address a _ tt (λ l o. digests (record { ready = r; below = l; guards = digest-guards (partition_at map a) a o }))
  command-form (ReadLock number) r = choose _ (λ t. refuses (denied tt)) (λ t. locks)
  command-form (Transition target given) r = transition-form r target given
  command-form PowerUp r = refuses not_ready

  pub act-form : (x : Command) → Form x (ready_act prims map m x)
  unfolding ready_act
  act-form x = choose _ (λ t. refuses not_ready) (λ t. command-form x (not-false _ t))
