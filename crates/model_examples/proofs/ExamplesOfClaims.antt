-- Premises of the claims on transitions, digests, read locks, failed power-ups and lists are met: computed runs, and why the premises stand.
use Rattle.std.specs.Prelude.{Ok, Err}
use mathlib.Core.Path.{◌≡◌, refl}
use mathlib.Core.List.{[], ◌∷◌, ◌++◌}
use Prim.Native.Nat.{◌+◌}
use native.Mathlib.Omega.{arith}
use lib.Dec.{lit<}
use lib.ListN.{get_or, set}
use Rattle.words.specs.declared.Rule.TheVariants.{KeepBits}
use Rattle.partitions.specs.Map1.{map1}
use Rattle.partitions.proofs.Maps.{map1-fit}
use Rattle.model.specs.declared.Phase.TheVariants.{Ready}
use Rattle.model.specs.declared.Failure.TheVariants.{Denied, DigestFailed}
use Rattle.model.specs.declared.Command.TheVariants.{Read, Write, Digest, ReadLock, Transition, PowerUp}
use Rattle.model.specs.Answers.{code_of}
use Rattle.model.specs.Lent.{Machine, Primitives}
use Rattle.model.specs.Step.{after, answers, machine_after, answer_to}
use Rattle.model.specs.Cases.{blank}
use Rattle.model.specs.Session.{no_digests, no_locks}
use Rattle.model.specs.Claims.Terms.{ValidInputs, Put, Says}
use Rattle.model.specs.Claims.Refusals.{reads, refused}
use Rattle.model.specs.Claims.Burns.{past}
use Rattle.model.specs.Claims.Transitions.{stroke_only, stroke_words, move_words, Stopped, Fair, Leaves}
use Rattle.model.specs.Claims.Digests.{DataNotWritten, Digestible}
use Rattle.model.specs.Claims.FailedPowerUps.{WrittenAfterDigest, Scrapped}
use Rattle.model.specs.Claims.Sensing.{Since}
use Rattle.model.specs.Claims.All.{Claims}
use Rattle.model.proofs.Everything.{everything}
use Rattle.model.proofs.ToyChip.{toy_with, toy, off, ready}
use Rattle.model.proofs.Theorems.{claims}
use Rattle.model_examples.proofs.Examples.{toy-cipher, toy-claims, right}

-- the blank chip after a power-up
up : Machine
up = machine_after toy map1 PowerUp (off blank)

-- ---- transitions

-- the blank chip gives none of 0x10, 0x12, 0x07
fair : Fair toy map1 up
unfolding everything up
fair = record { lengths = refl; valid = refl; ready = refl; state = omega arith; count = omega arith }

fair-later : Fair toy map1 (after toy map1 (PowerUp ∷ Write 0 5 ∷ []) (off blank))
fair-later = (toy-claims.transitions.fair (off blank) (right blank refl) (Write 0 5 ∷ []) (unfold everything in refl)).0

-- TEST_LOCKED0 to TEST_UNLOCKED1 with SECRET0 open: 0x22, and the stroke is burnt; RAW to TEST_UNLOCKED0 with the right token: 0, and the state words too
stroke-burnt : Put KeepBits 404 (stroke_words toy map1 (ready 2 blank)) blank (machine_after toy map1 (Transition 3 0) (ready 2 blank)).lent.cells
unfolding everything stroke_only
stroke-burnt = toy-claims.transitions.spent (ready 2 blank) 3 0 refl

move-burnt : Put KeepBits 404 (move_words toy map1 (ready 0 blank) 1) blank (machine_after toy map1 (Transition 1 7) (ready 0 blank)).lent.cells
unfolding everything
move-burnt = toy-claims.transitions.moved (ready 0 blank) 1 7 refl

-- a counter word that would lose a bit, and a state word that would
counter-stopped : Stopped toy map1 (ready 0 (set blank 404 4)) 1 404 (machine_after toy map1 (Transition 1 7) (ready 0 (set blank 404 4))).lent.cells
unfolding everything
counter-stopped = toy-claims.transitions.stopped (ready 0 (set blank 404 4)) 1 7 refl

state-stopped : Stopped toy map1 (ready 0 (set blank 430 4)) 1 430 (machine_after toy map1 (Transition 1 7) (ready 0 (set blank 430 4))).lent.cells
unfolding everything
state-stopped = toy-claims.transitions.stopped (ready 0 (set blank 430 4)) 1 7 refl

-- 24 strokes: 0x20, no cell changes
spent-all : Machine
spent-all = record { lent = (off blank).lent; session = record { phase = Ready; sensed = no_digests; locks = no_locks; state = 1; count = 24 } }

no-stroke-left : (machine_after toy map1 (Transition 20 0) spent-all).lent.cells ≡ blank
unfolding everything spent-all
no-stroke-left = toy-claims.transitions.used spent-all 20 0 refl

-- RAW to DEV is not in the table: one stroke, state RAW, and the next power-up answers 256
left-raw : Leaves toy map1 0 1 (machine_after toy map1 (Transition 16 0) (after toy map1 (PowerUp ∷ []) (off blank)))
unfolding everything stroke_only
left-raw = (toy-claims.transitions.leaves (off blank) (right blank refl) [] 16 0).0 refl

answered-256 : Says 0x00 256 (answer_to toy map1 PowerUp (machine_after toy map1 (Transition 16 0) (after toy map1 (PowerUp ∷ []) (off blank))))
unfolding everything
answered-256 = left-raw.answered [] tt refl

-- ---- digests: HW_CFG of the blank chip may be digested, and passes its check after a write to another partition

digestible : Digestible toy map1 up 0x200
unfolding everything up
digestible = record { ready = refl; below = lit< tt; hardware = refl; start = refl; not_locked = refl; takes = refl }

elsewhere : DataNotWritten toy map1 2 (Write 0 5 ∷ PowerUp ∷ []) (machine_after toy map1 (Digest 0x200) up)
unfolding everything up DataNotWritten
elsewhere = ((λ n d z. omega (arith, n)), (tt, tt))

-- ---- power-ups that fail

-- a chip whose digest is its first word and one: HW_CFG is digested, written, and fails its check
summing : Primitives
summing = toy_with (λ words. get_or words 0 0 + 1)

summing-claims : Claims summing map1
unfolding summing
summing-claims =
    claims summing (record { fits = toy-cipher.fits; back = toy-cipher.back; plain_fits = toy-cipher.plain_fits; forth = toy-cipher.forth })
    (record { fits = λ start final words s f w. omega (arith, w 0) }) map1 map1-fit

written_after : WrittenAfterDigest summing map1 (machine_after summing map1 PowerUp (off blank)) (Digest 0x200 ∷ Write 0x200 5 ∷ []) 2
written_after =
    summing-claims.failed_power_ups.sixes (off blank) (right blank refl) (unfold everything summing in refl) (Digest 0x200 ∷ Write 0x200 5 ∷ []) 2
    (unfold everything summing in (refl, refl))

-- SCRAP after one stroke
scrapped : Scrapped toy map1 (machine_after toy map1 PowerUp (off blank)) (Transition 20 0 ∷ [])
scrapped = toy-claims.failed_power_ups.sevens (off blank) (right blank refl) (unfold everything in refl) (Transition 20 0 ∷ []) (unfold everything in refl)

-- without a bound on the digest a power-up fails with nothing written: the digest 2 ^ 64 + 1 is stored as 1
unbounded :
    answers (toy_with (λ words. 0x10000000000000001)) map1 (PowerUp ∷ Digest 0x200 ∷ PowerUp ∷ []) (off blank)
    ≡ Ok 0 ∷ Ok 0x10000000000000001 ∷ Err (DigestFailed 2) ∷ []
unfolding everything
unbounded = refl

-- ---- read locks: partition 0 is locked, and a read of its data answers 5 after a write

shut : answer_to toy map1 (Read 0) (after toy map1 (Write 4 1 ∷ []) (machine_after toy map1 (ReadLock 0) (after toy map1 (PowerUp ∷ []) (off blank))))
    ≡ Err Denied
unfolding everything
shut = toy-claims.read_locks.lasts (off blank) (right blank refl) [] 0 refl (Write 4 1 ∷ []) (tt, tt) 0 refl (lit< tt)

-- a record without locks takes a read lock that locks nothing: no power-up leaves one
without-locks : Machine
without-locks = record { lent = (off blank).lent; session = record { phase = Ready; sensed = no_digests; locks = []; state = 0; count = 0 } }

locks-nothing : answers toy map1 (ReadLock 0 ∷ Read 0 ∷ []) without-locks ≡ Ok 0 ∷ Ok 0 ∷ []
unfolding everything without-locks
locks-nothing = refl

-- ---- writes: 5 past the limit, 4 with the word, 0

past-limit : Says 0x05 0 (answer_to toy map1 (Write 0x380 5) (ready 0 blank))
past-limit = (toy-claims.burns.exactly (ready 0 blank) ready-inputs refl 0x380 5).0.1 (past (unfold everything in (omega arith)))
  where
    ready-inputs : ValidInputs map1 (ready 0 blank)
    ready-inputs =
        record { lengths = (right blank refl).lengths; valid = (right blank refl).valid; words = (right blank refl).words; fuses = (right blank refl).fuses }

-- ---- commands that can be left out: a read, and a write that is denied

read-left-out : after toy map1 (PowerUp ∷ Read 0 ∷ Write 0 5 ∷ []) (off blank) ≡ after toy map1 (PowerUp ∷ Write 0 5 ∷ []) (off blank)
read-left-out = (toy-claims.refusals.left_out (off blank) (PowerUp ∷ []) (Write 0 5 ∷ []) (Read 0) reads).0

denied-left-out : after toy map1 (PowerUp ∷ Write 0x248 1 ∷ Write 0 5 ∷ []) (off blank) ≡ after toy map1 (PowerUp ∷ Write 0 5 ∷ []) (off blank)
denied-left-out = (toy-claims.refusals.left_out (off blank) (PowerUp ∷ []) (Write 0 5 ∷ []) (Write 0x248 1) (refused tt denied)).0
  where
    denied : code_of (answer_to toy map1 (Write 0x248 1) (after toy map1 (PowerUp ∷ []) (off blank))) ≡ 0x00 → ⊥
    denied = unfold everything in (λ e. omega (arith, e))

-- ---- sensing: a second power-up finds what the first left

since-first : Since toy map1 (after toy map1 (Write 0x200 5 ∷ []) up).lent.cells (after toy map1 ((Write 0x200 5 ∷ []) ++ PowerUp ∷ Write 0 5 ∷ []) up)
since-first = toy-claims.sensing.since up up-inputs (Write 0x200 5 ∷ []) (Write 0 5 ∷ []) (tt, tt) (unfold everything up in refl)
  where
    up-inputs : ValidInputs map1 up
    up-inputs =
        unfold up in (record {
          lengths = unfold everything in refl;
          valid = unfold everything in refl;
          words = unfold everything in (right blank refl).words;
          fuses = unfold everything in (right blank refl).fuses;
        })
