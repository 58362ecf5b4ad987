-- What a write stores, and by which rule it is refused. The idea: the kind decides whether data are scrambled, and the granule how many words there are; a rule
-- refuses a word that is not zero, or one that would lose a bit.
use mathlib.Core.Path.{◌≡◌, ap, subst, ◌∙◌}
use mathlib.Core.Bool.{true, false, not, ◌&&◌}
use mathlib.Core.List.{List}
use mathlib.Core.Logic.{◌↔◌}
use Prim.Native.Nat.{ℕ, ◌<◌}
use lib.Dec.{eqb, leb}
use lib.ListN.{length}
use borrow.Author.Tests.{eqb-true, eq-eqb, ne_eqb, leb-true, leb-false}
use Rattle.basics.specs.Digits.{bit}
use Rattle.basics.specs.Range.{any_below}
use Rattle.basics.proofs.Range.{some_at, at_some}
use Rattle.words.proofs.Rules.{blank-passed}
use Rattle.basics.proofs.Choice.{by_cases, true-not-false, not-passed, and_left, and_right, and_both, if-true, if-false}
use Rattle.words.specs.declared.Rule.TheVariants.{KeepBits, BlankOnly}
use Rattle.words.specs.Words.{words_of}
use Rattle.words.specs.Programming.{loses_bit, refuses, Lowest}
use Rattle.partitions.specs.declared.Partition.{Partition}
use Rattle.partitions.specs.Fitness.{fit}
use Rattle.partitions.specs.Map.{Map, rights_of, partition_at, limit, in_digest, word_count}
use Rattle.partitions.proofs.Map.{FitPartition, inside}
use Rattle.partitions.proofs.KindRights.{life-cycle-only, soft-plain, soft-lockable}
use Rattle.partitions.proofs.Granules.{granule-digest, granule-plain, granule-scrambled, size-words}
use Rattle.model.specs.Lent.{Machine, Primitives}
use Rattle.model.specs.Commands.{direct_rule, scrambled}
use Rattle.model.specs.Claims.Terms.{stored_words}
use Rattle.model.specs.Claims.Numbers.{LowestBurnt, Clears, LowestCleared, eight_from}
use Rattle.model.specs.Claims.Burns.{Stores, WriteDenied, past, in_life_cycle, in_hardware_digest}
use Rattle.model.proofs.KindNames.{Keyed, hardware-kind, lockable-kind, scrambled-keyed, key-is, plain-kind}
use Rattle.model.proofs.OldRule.{auth-state-old, old-auth-state}
use Rattle.model.proofs.Writes.{by-rule}
use Rattle.partitions.specs.declared.Kind.TheVariants as kind

-- ---- the words

module _ (prims : Primitives) (map : Map) (F : fit map ≡ true) where
  stored-as : (constants : List ℕ) (a value count : ℕ) (x : ℕ) → word_count (partition_at map a) a ≡ count
      → scrambled prims constants (partition_at map a) value ≡ x
      → words_of count x ≡ stored_words prims map constants a value
  stored-as constants a value count x e f = rw (e, f)

  pub write-stores : (m : Machine) (a value : ℕ) → (WriteDenied prims map m a → ⊥)
      → Stores prims map m.lent.constants a value (stored_words prims map m.lent.constants a value)
  unfolding in_digest
  write-stores m a value token_unlocked =
      by_cases (in_digest p a)
      (λ d. (let soft = not-passed (rights_of p.kind).hardware (λ h. token_unlocked (in_hardware_digest (hardware-kind _ h) (leb-true _ _ d))) in
      to (stored-as k a value 4 value (size-words p a 8 (granule-digest p a d)).1 (as-given (soft-plain p.kind soft)))
      (Stores.digest (leb-true _ _ d) (lockable-kind p.kind (soft-lockable p.kind direct soft)))))
      (λ d. by_cases (rights_of p.kind).scrambled
      (λ s. (let key = scrambled-keyed p.kind s in
      to (stored-as k a value 4 (prims.encrypt (eight_from k key.first) value) (size-words p a 8 (granule-scrambled fits s a)).1 (as-block s key))
      (Stores.secret (leb-false _ _ d) key.at)))
      (λ s. to (stored-as k a value 2 value (size-words p a 4 (granule-plain fits s a d)).1 (as-given s))
      (Stores.plain (leb-false _ _ d) (plain-kind p.kind direct s))))
    where
      k : List ℕ
      k = m.lent.constants

      p : Partition
      p = partition_at map a

      low : a < limit map
      low = leb-false _ _ (not-passed (leb (limit map) a) (λ l. token_unlocked (past (leb-true _ _ l))))

      fits : FitPartition (partition_at map a)
      fits = (inside map F low).fits

      direct : (rights_of (partition_at map a).kind).direct ≡ true
      direct = by_cases (rights_of (partition_at map a).kind).direct (λ t. t) (λ t. absurd (token_unlocked (in_life_cycle (life-cycle-only _ t))))

      to : {xs ys : List ℕ} → xs ≡ ys → Stores prims map m.lent.constants a value xs → Stores prims map m.lent.constants a value ys
      to e h = subst (Stores prims map m.lent.constants a value) e h

      as-given : (rights_of (partition_at map a).kind).scrambled ≡ false → scrambled prims m.lent.constants (partition_at map a) value ≡ value
      as-given e = unfold scrambled in (if-false _ _ e)

      as-block : (rights_of (partition_at map a).kind).scrambled ≡ true → (key : Keyed (partition_at map a).kind)
          → scrambled prims m.lent.constants (partition_at map a) value ≡ prims.encrypt (eight_from m.lent.constants key.first) value
      as-block e key = unfold scrambled in (if-true _ _ e ∙ ap (λ (x : ℕ). prims.encrypt x value) (key-is m.lent.constants key.at))

-- ---- the rules

-- a word that is not zero
blank-refuses : (s v : ℕ) → (refuses BlankOnly s v ≡ true) ↔ (s ≡ 0 → ⊥)
unfolding refuses
blank-refuses s v = ((λ e z. true-not-false e (ap not (eq-eqb s 0 z))), λ n. ap not (ne_eqb s 0 n))

-- a word that would lose a bit
bit-refuses : (s v : ℕ) → (refuses KeepBits s v ≡ true) ↔ Clears s v
unfolding refuses loses_bit
bit-refuses s v = (found, λ c. some_at 16 _ c.place c.within (and_both _ _ (eq-eqb _ 1 c.one) (eq-eqb _ 0 c.zero)))
  where
    found : any_below 16 (λ i. eqb (bit s i) 1 && eqb (bit v i) 0) ≡ true → Clears s v
    found e =
        let h = at_some 16 (λ i. eqb (bit s i) 1 && eqb (bit v i) 0) e in
        record {
          place = h.at;
          within = h.below;
          one = eqb-true _ 1 (and_left (eqb (bit s h.at) 1) _ h.holds);
          zero = eqb-true _ 0 (and_right (eqb (bit s h.at) 1) _ h.holds);
        }

-- the lowest word that refuses by the new rule
pub lowest-blank : (cells words : List ℕ) (at i : ℕ) → Lowest BlankOnly cells at words i ↔ LowestBurnt cells at (length words) i
lowest-blank cells words at i = (
  (λ l. record { from = l.from; to = l.to; burnt = (blank-refuses _ _).0 l.refusing; lower = λ j f u. blank-passed _ _ (l.lower j f u) }),
  λ b. record {
    from = b.from;
    to = b.to;
    refusing = (blank-refuses _ _).1 b.burnt;
    lower = λ j f u. not-passed _ (λ e. (blank-refuses _ _).0 e (b.lower j f u));
  },
)

-- which rule a write has
blank-rule : (p : Partition) (a : ℕ) → (p.kind ≡ kind.AuthState → a < p.digest → ⊥) → direct_rule p a ≡ BlankOnly
blank-rule p a n = by-rule (direct_rule p a) (λ e. absurd (let o = old-auth-state p a e in n o.0 o.1)) (λ e. e)

module _ (map : Map) (cells words : List ℕ) (at a i : ℕ) where
  pub blank-lowest : ((partition_at map a).kind ≡ kind.AuthState → a < (partition_at map a).digest → ⊥)
      → Lowest (direct_rule (partition_at map a) a) cells at words i ↔ LowestBurnt cells at (length words) i
  blank-lowest n = rw (blank-rule (partition_at map a) a n) (lowest-blank cells words at i)

  pub cleared-lowest : (partition_at map a).kind ≡ kind.AuthState → a < (partition_at map a).digest
      → Lowest (direct_rule (partition_at map a) a) cells at words i ↔ LowestCleared cells at words i
  cleared-lowest e d = rw (auth-state-old (partition_at map a) a e d) (
    (λ l. record {
      from = l.from;
      to = l.to;
      clears = (bit-refuses _ _).0 l.refusing;
      lower = λ j f u c. true-not-false ((bit-refuses _ _).1 c) (l.lower j f u);
    }),
    λ b. record {
      from = b.from;
      to = b.to;
      refusing = (bit-refuses _ _).1 b.clears;
      lower = λ j f u. not-passed _ (λ e. b.lower j f u ((bit-refuses _ _).0 e));
    },
  )
