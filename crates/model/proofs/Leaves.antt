-- What holds of every act of a command. The idea: its form says what it may program and what it may answer, so that a law about either names no command
-- but those that do.
use Rattle.std.specs.Prelude.{Ok, Err}
use mathlib.Core.Path.{◌≡◌, refl}
use mathlib.Core.List.{List}
use Prim.Native.Nat.{ℕ, suc, ◌/◌}
use Rattle.words.specs.Words.{words_of}
use Rattle.partitions.specs.Map.{Map, partition_at, first_word}
use Rattle.life_cycle.specs.Words.{counter_words, state_words}
use Rattle.life_cycle.specs.Transitions.{table_entry}
use Rattle.model.specs.declared.Failure.TheVariants.{NotBlank, StrokesUsed}
use Rattle.model.specs.declared.Command.{Command}
use Rattle.model.specs.declared.Command.TheVariants.{Write, Digest, ReadLock, Transition}
use Rattle.model.specs.declared.Failure.{Failure}
use Rattle.model.specs.Answers.{Answer}
use Rattle.model.specs.Lent.{Machine, Primitives}
use Rattle.model.specs.Acts.{Effect, no_effect, lock, to_inert, Act}
use Rattle.model.specs.Commands.{counter_at, state_at, move_act, ready_act, transiting, class_of}
use Rattle.model.specs.Claims.Terms.{quiet, stored_words}
use Rattle.model.proofs.Acts.{Within, Gives}
use Rattle.model.proofs.Transitions.{EndCases, entry-all, Ends, entry_gives}
use Rattle.model.proofs.Forms.{Refuses, Writes, Digesting, Transits, computed, k, Form, refuses, reads, front_reads, locks, writes, digests, used, spends}
use Rattle.model.proofs.Forms.{act-form}

module _ (prims : Primitives) (map : Map) (m : Machine) where
  -- ---- what may be programmed

  pub record Programming (P : ℕ → List ℕ → Type 0) (x : Command) : Type 0 where
    pub write : (a value : ℕ) → x ≡ Write a value → Writes prims map m a
        → P (first_word (partition_at map a) a) (stored_words prims map (k prims map m) a value)
    pub digest : (a : ℕ) → x ≡ Digest a → Digesting prims map m a → P ((partition_at map a).digest / 2) (words_of 4 (computed prims map m a))
    pub counter : (target given : ℕ) → x ≡ Transition target given → Transits prims map m target
        → P (counter_at map) (counter_words (k prims map m) (suc m.session.count))
    pub state : (target given : ℕ) → x ≡ Transition target given → Transits prims map m target → P (state_at map) (state_words (k prims map m) target)

  module _ {P : ℕ → List ℕ → Type 0} where
    moves : (target : ℕ) → P (state_at map) (state_words (k prims map m) target) → EndCases prims map m target (Within P)
    unfolding move_act
    moves target h = record {
      moved = Within.programs h Within.says;
      forbidden = Within.says;
      token_unlocked = Within.says;
      differs = Within.says;
      compared = λ test same other. Within.compares;
    }

    form-within : {x : Command} {act : Act} → Programming P x → Form prims map m x act → Within P act
    form-within h (refuses r) = Within.says
    form-within h reads = Within.says
    form-within h front_reads = Within.says
    form-within h locks = Within.says
    form-within h (writes {a} {value} w) = Within.programs (h.write a value refl w) Within.says
    form-within h (digests {a} w) = Within.programs (h.digest a refl w) Within.says
    form-within h (used t n) = Within.says
    form-within h (spends {target} {given} t n) =
        Within.programs (h.counter target given refl t)
        (entry-all prims map m target (Within P) (moves target (h.state target given refl t)) (table_entry m.session.state target) _)

    pub act-within : {x : Command} → Programming P x → Within P (ready_act prims map m x)
    act-within {x} h = form-within h (act-form prims map m x)

  -- ---- what may be answered, with the effects that go with it

  pub record Answering (T : Answer → Effect → Type 0) (x : Command) : Type 0 where
    pub refused : {failure : Failure} → Refuses x failure → T (Err failure) no_effect
    pub done : quiet x → (value : ℕ) → T (Ok value) no_effect
    pub not_blank : quiet x → (cell : ℕ) → T (Err (NotBlank cell)) no_effect
    pub locked : (n : ℕ) → x ≡ ReadLock n → T (Ok 0) (lock n)
    pub used : class_of x ≡ transiting → T (Err StrokesUsed) to_inert
    pub spent : class_of x ≡ transiting → Ends T

  form-gives : {T : Answer → Effect → Type 0} {x : Command} {act : Act} → Answering T x → Form prims map m x act → Gives T act
  form-gives h (refuses r) = Gives.says (h.refused r)
  form-gives h reads = Gives.says (h.done tt _)
  form-gives h front_reads = Gives.says (h.done tt _)
  form-gives h (locks {n}) = Gives.says (h.locked n refl)
  form-gives h (writes w) = Gives.programs (h.not_blank tt) (Gives.says (h.done tt _))
  form-gives h (digests w) = Gives.programs (h.not_blank tt) (Gives.says (h.done tt _))
  form-gives h (used t n) = Gives.says (h.used refl)
  form-gives h (spends {target} t n) =
      Gives.programs (h.spent refl).not-blank (entry_gives (h.spent refl) prims map m (table_entry m.session.state target) target _)

  pub act-gives : {T : Answer → Effect → Type 0} {x : Command} → Answering T x → Gives T (ready_act prims map m x)
  act-gives {x = x} h = form-gives h (act-form prims map m x)
