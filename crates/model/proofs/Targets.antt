-- What direct access programs. The idea: a write and a digest command are a row of refusals that ends in one programming of a granule.
use Rattle.std.specs.Prelude.{Ok}
use mathlib.Core.Path.{◌≡◌, refl, sym, ap, ◌∙◌}
use mathlib.Core.Bool.{true, not}
use mathlib.Core.List.{List}
use Prim.Native.Nat.{ℕ, ◌*◌, ◌/◌, ◌<◌}
use native.Mathlib.Omega.{arith}
use lib.ListN.{length}
use Rattle.basics.proofs.Choice.{and-false, if-false, true-not-false}
use Rattle.words.specs.declared.Rule.{Rule}
use Rattle.words.specs.declared.Rule.TheVariants.{BlankOnly}
use Rattle.words.specs.Words.{words_of}
use Rattle.words.proofs.Words.{length-words}
use Rattle.words.specs.Programming.{program_answer, program_cells}
use Rattle.partitions.specs.declared.Partition.{Partition}
use Rattle.partitions.specs.Map.{Map, rights_of, partition_at, limit, in_digest, first_word, word_count}
use Rattle.partitions.specs.Fitness.{fit}
use Rattle.partitions.proofs.KindRights.{hardware-direct}
use Rattle.partitions.proofs.Map.{inside, partition-at, end-within}
use Rattle.partitions.proofs.Granules.{digest-word, digest-granule}
use Rattle.model.specs.declared.Command.TheVariants.{Write, Digest}
use Rattle.model.specs.Lent.{Machine, Primitives}
use Rattle.model.specs.Commands.{direct_rule, digest_rule}
use Rattle.model.specs.Claims.Terms.{stored_words}
use Rattle.model.specs.Acts.{Performed, perform, program, Act, no_effect, say}
use Rattle.model.specs.Step.{unchanged, obey, act, performed, answer_to, Step}
use Rattle.model.specs.Answers.{code_of}
use Rattle.model.proofs.Steps.{outcome, step_both}
use Rattle.model.proofs.Forms.{Writes, Digesting, computed, Form, act-form, refuses-not-done}
use Rattle.model.proofs.Acts.{after_both}

-- what the act of a command that programs once comes to: it leaves every cell, or the words are programmed whole
pub data Burnt (W : Type 0) (cells : List ℕ) (rule : Rule) (at : ℕ) (words : List ℕ) (value : ℕ) (r : Performed) : Type 0 where
  left : r.cells ≡ cells → Burnt W cells rule at words value r
  burnt : W → program_answer rule cells at words ≡ Ok tt → r.cells ≡ program_cells rule cells at words → r.answer ≡ Ok value
      → Burnt W cells rule at words value r

module _ (prims : Primitives) (map : Map) (m : Machine) where
  performs : {W : Type 0} {rule : Rule} {at value : ℕ} {words : List ℕ} → W
      → Burnt W m.lent.cells rule at words value (perform (program rule at words no_effect (say (Ok value) no_effect)) m.lent)
  unfolding perform
  performs {W} {rule} {at} {value} {words} w =
      after_both (Burnt W m.lent.cells rule at words value) (program_answer rule m.lent.cells at words) _ _ (λ e. burnt w e refl refl)
      (λ cell e. left refl)

  -- a write programs the words of its data, a digest command those of the digest
  abbrev pub WriteBurns : ℕ → ℕ → Performed → Type 0
  WriteBurns a value =
      Burnt (Writes prims map m a) m.lent.cells (direct_rule (partition_at map a) a) (first_word (partition_at map a) a)
      (stored_words prims map m.lent.constants a value) 0

  abbrev pub DigestBurns : ℕ → Performed → Type 0
  DigestBurns a =
      Burnt (Digesting prims map m a) m.lent.cells digest_rule ((partition_at map a).digest / 2) (words_of 4 (computed prims map m a)) (computed prims map m a)

  pub write-burnt : (a value : ℕ) → WriteBurns a value (outcome prims map (Write a value) m)
  write-burnt a value = by_form (act-form prims map m (Write a value))
    where
      by_form : {act : Act} → Form prims map m (Write a value) act → WriteBurns a value (perform act m.lent)
      by_form (Form.refuses r) = left (unfold perform in refl)
      by_form (Form.writes w) = performs w

  pub digest-burnt : (a : ℕ) → DigestBurns a (outcome prims map (Digest a) m)
  digest-burnt a = by_form (act-form prims map m (Digest a))
    where
      by_form : {act : Act} → Form prims map m (Digest a) act → DigestBurns a (perform act m.lent)
      by_form (Form.refuses r) = left (unfold perform in refl)
      by_form (Form.digests w) = performs w

  -- a write that answers 0 was not denied
  pub write-only : (a value : ℕ) → code_of (answer_to prims map (Write a value) m) ≡ 0x00 → Writes prims map m a
  unfolding unchanged obey act performed
  write-only a value =
      step_both prims map (λ (s : Step). code_of s.result.answer ≡ 0x00 → Writes prims map m a) (Write a value) m
      (λ answer e z. absurd (true-not-false e (rw z)))
      (by_form (act-form prims map m (Write a value)))
    where
      by_form : {act : Act} → Form prims map m (Write a value) act → code_of (perform act m.lent).answer ≡ 0x00 → Writes prims map m a
      by_form (Form.refuses r) = λ z. absurd (refuses-not-done r (unfold perform in z))
      by_form (Form.writes w) = λ z. w

-- the rule is one on each side of a partition's digest address, and the new one past it
pub rule-side : (p : Partition) (a b : ℕ) → in_digest p a ≡ in_digest p b → direct_rule p a ≡ direct_rule p b
unfolding direct_rule
rule-side p a b e = rw e

pub digest-rule : (p : Partition) (a : ℕ) → in_digest p a ≡ true → direct_rule p a ≡ BlankOnly
unfolding direct_rule
digest-rule p a e = if-false _ _ (and-false (rights_of p.kind).additive (ap not e))

-- So many words from a place on are the granule of an address, with its rule of direct access.
pub record Target (map : Map) (rule : Rule) (at n : ℕ) : Type 0 where
  pub address : ℕ
  pub below : address < limit map
  pub by-rule : rule ≡ direct_rule (partition_at map address) address
  pub first : at ≡ first_word (partition_at map address) address
  pub count : n ≡ word_count (partition_at map address) address

module _ (prims : Primitives) (map : Map) (F : fit map ≡ true) (m : Machine) where
  pub write-target : (a value : ℕ) → Writes prims map m a
      → Target map (direct_rule (partition_at map a) a) (first_word (partition_at map a) a) (length (stored_words prims map m.lent.constants a value))
  write-target a value w = record { address = a; below = w.below; by-rule = refl; first = refl; count = length-words _ _ }

  -- a digest location is the granule of its first address
  pub digest-target : (a : ℕ) → Digesting prims map m a
      → Target map digest_rule ((partition_at map a).digest / 2) (length (words_of 4 (computed prims map m a)))
  unfolding partition_at
  digest-target a w =
      let p = partition_at map a in
      let d = hardware-direct _ w.guards.hardware in
      let i = inside map F w.below in
      let e = digest-word map F {j = p.digest / 2} i.known d (omega arith) (omega arith) in
      let q = partition-at map (2 * (p.digest / 2)) e.0 in
      let low : 2 * (p.digest / 2) < limit map = omega (arith, i.fits.tail d, end-within map F i.known) in
      let g = digest-granule map F low (rw q d) (rw q e.1) in
      record {
        address = 2 * (p.digest / 2);
        below = low;
        by-rule = sym (digest-rule _ _ (rw q e.1));
        first = sym (g.0 ∙ ap (λ (q : Partition). q.digest / 2) q);
        count = rw length-words (sym g.1);
      }
