-- Computed runs on Map 2, and premises that are met there: AUTH_STATE data and the old rule; tokens, digests and locks at their places in Map 2.
use Rattle.std.specs.Prelude.{Ok, Err}
use mathlib.Core.Path.{◌≡◌, refl}
use mathlib.Core.Bool.{Bool, true, false}
use mathlib.Core.List.{List, [], ◌∷◌, ◌++◌}
use Prim.Native.Nat.{ℕ, zero, suc, ◌<◌}
use native.Mathlib.Omega.{arith}
use lib.Dec.{lit<}
use lib.ListN.{get_or, set, replicate}
use Rattle.words.specs.declared.Rule.TheVariants.{KeepBits}
use Rattle.words.specs.Words.{words_of, part_at}
use Rattle.words.specs.Programming.{loses_bit, Lowest}
use Rattle.partitions.specs.declared.Kind.{Kind}
use Rattle.partitions.specs.Map.{partition_at, first_word, word_count}
use Rattle.partitions.specs.Map2.{map2}
use Rattle.partitions.proofs.Maps.{map2-fit}
use Rattle.model.specs.declared.Phase.TheVariants.{Ready}
use Rattle.model.specs.declared.Failure.TheVariants.{NotBlank, Denied, DigestFailed, TokenDiffers}
use Rattle.model.specs.declared.Command.{Command}
use Rattle.model.specs.declared.Command.TheVariants.{Read, Write, Transition, PowerUp}
use Rattle.model.specs.Session.{no_digests}
use Rattle.model.specs.Lent.{Machine}
use Rattle.model.specs.Commands.{direct_rule, granule}
use Rattle.model.specs.Step.{step, after, answers, machine_after, answer_to}
use Rattle.model.specs.CaseTables.{array_with, off_chip}
use Rattle.model.specs.Claims.Terms.{ValidInputs, Lasts, NotWritten, used_value, Allowed, TakesEffect}
use Rattle.model.specs.Claims.OldRule.{InAuthState, two_words, Gains}
use Rattle.model.specs.Claims.Numbers.{Lockable}
use Rattle.model.specs.Claims.All.{Claims}
use Rattle.model.proofs.Everything.{everything}
use Rattle.model.proofs.ToyChip.{toy}
use Rattle.model.proofs.Theorems.{claims}
use Rattle.model_examples.proofs.Examples.{toy-cipher, toy-digest, small_at}
use Rattle.partitions.specs.declared.Kind.TheVariants as kind
use Rattle.model.specs.Claims.Demand3 as demand

-- the chip with these cells, switched off
abbrev off-map2 : List ℕ → Machine
off-map2 cells = off_chip toy (λ i. 0) 740 cells

abbrev blank-chip : Machine
blank-chip = off-map2 (replicate 740 0)

abbrev toy-claims : Claims toy map2
toy-claims = claims toy toy-cipher toy-digest map2 map2-fit

right : ValidInputs map2 blank-chip
unfolding everything map2
right = record {
  lengths = refl;
  valid = refl;
  words = small_at blank-chip.lent.constants refl;
  fuses = small_at blank-chip.lent.cells refl;
}

-- ---- AUTH_STATE data: 0x0F at 0x418 of a blank chip

there : InAuthState map2 0x41B
unfolding everything map2
there = record { below = lit< tt; is_auth_state = refl; is_data = lit< tt }

old : direct_rule (partition_at map2 0x437) 0x437 ≡ KeepBits
unfolding everything map2
old = toy-claims.old_rule.there (partition_at map2 0x437) 0x437 refl (lit< tt)

-- a write to the granule, and what it makes of the two words
gained : Gains 0x41B (0 ∷ 0 ∷ []) (Write 0x418 0x0F) (Ok 0) (0x0F ∷ 0 ∷ [])
unfolding everything map2
gained = toy-claims.old_rule.granules blank-chip (PowerUp ∷ []) (Write 0x418 0x0F) 0x41B there

first : List Command
first = Write 0x418 0x0F ∷ []

ready : demand.Ready toy map2 blank-chip [] first
unfolding everything map2 Lasts first
ready = record { succeeded = refl; lasts = (tt, tt) }

abbrev wrote : Machine
wrote = after toy map2 first (machine_after toy map2 PowerUp blank-chip)

-- 0x1F adds a bit to 0x0F
loses-none : (i : ℕ) → i < 2 → loses_bit (get_or (two_words wrote.lent.cells 0x41B) i 0) (get_or (words_of 2 0x1F) i 0) ≡ false
unfolding everything map2 first
loses-none zero l = refl
loses-none (suc zero) l = refl
loses-none (suc (suc i)) l = absurd (omega arith)

added : TakesEffect toy map2 wrote 0x41B 0x1F (step toy map2 (Write 0x41B 0x1F) wrote)
unfolding first after
added = toy-claims.old_rule.taken blank-chip right [] first ready 0x41B 0x1F there (unfold everything map2 in refl) loses-none

-- 0xF0 clears bits of it
lowest : Lowest KeepBits wrote.lent.cells 0x20C (words_of 2 0xF0) 0x20C
unfolding everything map2 first
lowest = record { from = omega arith; to = omega arith; refusing = refl; lower = λ j l u. absurd (omega arith) }

cleared : answer_to toy map2 (Write 0x41B 0xF0) wrote ≡ Err (NotBlank 0x20C)
unfolding first after
cleared = (toy-claims.old_rule.refused blank-chip right [] first ready 0x41B 0xF0 there (unfold everything map2 in refl) 0x20C lowest).0

-- what was stored is what is read, while no other write there answers 0: one that clears a bit, and a power-up
allowed : Allowed toy map2 blank-chip.lent.constants (replicate 740 0) (machine_after toy map2 PowerUp blank-chip).lent.cells 0x418 0x0F
unfolding everything map2
allowed = record { below = lit< tt; not_denied = refl; takes = refl }

powered : demand.Ready toy map2 blank-chip [] []
unfolding everything map2 Lasts
powered = record { succeeded = refl; lasts = tt }

not-writing : List Command
not-writing = Write 0x419 0xF0 ∷ PowerUp ∷ []

unwritten : NotWritten toy map2 0x418 not-writing (step toy map2 (Write 0x418 0x0F) (machine_after toy map2 PowerUp blank-chip)).result.machine
unfolding everything map2 NotWritten not-writing
unwritten = (λ same done. omega arith, (tt, tt))

reads_on : answer_to toy map2 (Read 0x41A)
    (after toy map2 not-writing (step toy map2 (Write 0x418 0x0F) (machine_after toy map2 PowerUp blank-chip)).result.machine) ≡ Ok 0x0F
unfolding everything map2 not-writing
reads_on = refl

stored_on : 0x0F ≡ used_value map2 0x418 0x0F
unfolding after
stored_on =
    toy-claims.burns.lasting blank-chip right [] [] powered 0x418 0x0F (lit< tt) allowed not-writing (λ z. unwritten) (λ e. unwritten) 0x41A 0x0F
    (unfold everything map2 in refl) reads_on

-- ---- the digest behind it: the new rule, so that it never changes

abbrev digested : Machine
digested = after toy map2 (PowerUp ∷ Write 0x438 1 ∷ []) blank-chip

held : granule (partition_at map2 0x43C) digested.lent.cells 0x43C ≡ 1
unfolding everything map2
held = refl

digest-stays : let p = partition_at map2 0x43C in
    part_at (after toy map2 (Write 0x438 3 ∷ PowerUp ∷ []) digested).lent.cells (first_word p 0x43C) (word_count p 0x43C)
    ≡ part_at digested.lent.cells (first_word p 0x43C) (word_count p 0x43C)
unfolding after
digest-stays =
    toy-claims.burns.granules blank-chip 0x43C (unfold everything map2 in (lit< tt)) (unfold everything map2 in refl) (unfold everything map2 in refl)
    (PowerUp ∷ Write 0x438 1 ∷ []) (Write 0x438 3 ∷ PowerUp ∷ []) (λ z. omega (arith, held))

-- ---- a token of a locked partition: TEST_LOCKED0 goes to TEST_UNLOCKED1. SECRET0 starts at word 0x24C; TEST_UNLOCK is 0x71, whose hash 0x70 is stored with
-- its lowest bit flipped in each block; TEST_LOCKED0 stands after two strokes

tested-map2 : List ℕ
tested-map2 =
    replicate 0x24C 0 ++ (0x71 ∷ 0 ∷ 0 ∷ 0 ∷ 1 ∷ 0 ∷ 0 ∷ 0 ∷ []) ++ replicate 8 0 ++ (1 ∷ replicate 91 0) ++ (3 ∷ 3 ∷ replicate 22 1)
    ++ (3 ∷ 3 ∷ replicate 18 1)

token-taken : answers toy map2 (PowerUp ∷ Transition 3 0x71 ∷ PowerUp ∷ []) (off-map2 tested-map2) ≡ Ok 514 ∷ Ok 0 ∷ Ok 771 ∷ []
unfolding everything map2 tested-map2
token-taken = refl

token-refused : answers toy map2 (PowerUp ∷ Transition 3 0x70 ∷ PowerUp ∷ []) (off-map2 tested-map2) ≡ Ok 514 ∷ Err TokenDiffers ∷ Ok 770 ∷ []
unfolding everything map2 tested-map2
token-refused = refl

-- TEST_EXIT, 0x91, eight words further on: TEST_UNLOCKED0 goes to DEV
exiting : List ℕ
exiting = replicate 0x254 0 ++ (0x91 ∷ 0 ∷ 0 ∷ 0 ∷ 1 ∷ 0 ∷ 0 ∷ 0 ∷ []) ++ (1 ∷ replicate 91 0) ++ (3 ∷ replicate 23 1) ++ (3 ∷ replicate 19 1)

exit-taken :
    (answers toy map2 (PowerUp ∷ Transition 16 0x91 ∷ PowerUp ∷ []) (off-map2 exiting) ≡ Ok 257 ∷ Ok 0 ∷ Ok 528 ∷ [])
    × (answers toy map2 (PowerUp ∷ Transition 16 0x90 ∷ PowerUp ∷ []) (off-map2 exiting) ≡ Ok 257 ∷ Err TokenDiffers ∷ Ok 513 ∷ [])
unfolding everything map2 exiting
exit-taken = (refl, refl)

-- the RMA token, 0x81, at the start of SECRET2, word 0x28C, which is locked, and SECRET0 open: DEV goes to RMA
returning : List ℕ
returning =
    replicate 0x28C 0 ++ (0x81 ∷ 0 ∷ 0 ∷ 0 ∷ 1 ∷ 0 ∷ 0 ∷ 0 ∷ []) ++ replicate 32 0 ++ (1 ∷ 0 ∷ 0 ∷ 0 ∷ []) ++ (3 ∷ replicate 23 1)
    ++ (replicate 16 3 ++ replicate 4 1)

rma-taken :
    (answers toy map2 (PowerUp ∷ Transition 19 0x81 ∷ PowerUp ∷ []) (off-map2 returning) ≡ Ok 272 ∷ Ok 0 ∷ Ok 531 ∷ [])
    × (answers toy map2 (PowerUp ∷ Transition 19 0x80 ∷ PowerUp ∷ []) (off-map2 returning) ≡ Ok 272 ∷ Err TokenDiffers ∷ Ok 528 ∷ [])
unfolding everything map2 returning
rma-taken = (refl, refl)

-- ---- a digest that differs: the partition of the map in use is named, each of 5 to 9, and of two the first

failed-digests-named :
    (answer_to toy map2 PowerUp (off-map2 (array_with 740 0x240 (2 ∷ []))) ≡ Err (DigestFailed 5))
    × (answer_to toy map2 PowerUp (off-map2 (array_with 740 0x248 (2 ∷ []))) ≡ Err (DigestFailed 6))
    × (answer_to toy map2 PowerUp (off-map2 (array_with 740 0x25C (2 ∷ []))) ≡ Err (DigestFailed 7))
    × (answer_to toy map2 PowerUp (off-map2 (array_with 740 0x288 (2 ∷ []))) ≡ Err (DigestFailed 8))
    × (answer_to toy map2 PowerUp (off-map2 (array_with 740 0x2B4 (2 ∷ []))) ≡ Err (DigestFailed 9))
    × (answer_to toy map2 PowerUp (off-map2 (set (array_with 740 0x248 (2 ∷ [])) 0x288 2)) ≡ Err (DigestFailed 6))
unfolding everything map2
failed-digests-named = (refl, refl, refl, refl, refl, refl)

-- and no other digest is checked: those of 0 to 4 lock
digest-unchecked :
    answers toy map2 (PowerUp ∷ Write 0x000 1 ∷ Write 0x040 1 ∷ Write 0x140 1 ∷ Write 0x240 1 ∷ Write 0x418 1 ∷ [])
    (off-map2 (set (set (set (set (set (replicate 740 0) 0x01C 2) 0x09C 2) 0x11C 2) 0x208 2) 0x21C 2))
    ≡ Ok 0 ∷ Err Denied ∷ Err Denied ∷ Err Denied ∷ Err Denied ∷ Err Denied ∷ []
unfolding everything map2
digest-unchecked = refl

-- ---- a record whose read locks are all set: that of a partition without a read lock says nothing

abbrev with-locks : Bool → Machine
with-locks lock = record { lent = blank-chip.lent; session = record { phase = Ready; sensed = no_digests; locks = replicate 10 lock; state = 0; count = 0 } }

locks-that-count : answers toy map2 (Read 0x000 ∷ Read 0x040 ∷ Read 0x140 ∷ Read 0x240 ∷ Read 0x418 ∷ Read 0x440 ∷ Read 0x488 ∷ Read 0x498 ∷ [])
    (with-locks true)
    ≡ Err Denied ∷ Err Denied ∷ Err Denied ∷ Err Denied ∷ Err Denied ∷ Ok 0 ∷ Ok 0 ∷ Ok 1 ∷ []
unfolding everything map2
locks-that-count = refl

hw-cfg-unlocked : {k : Kind} → k ≡ kind.HwCfg → Lockable k → ⊥
hw-cfg-unlocked e Lockable.software = cc
hw-cfg-unlocked e Lockable.auth_state = cc

lock-of-none : answer_to toy map2 (Read 0x440) (with-locks true) ≡ answer_to toy map2 (Read 0x440) (with-locks false)
lock-of-none = toy-claims.read_locks.lockless (with-locks false) 0x440 (hw-cfg-unlocked (unfold everything map2 in refl)) (replicate 10 true)
