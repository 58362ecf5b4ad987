-- Computed runs of rules that the table of cases does not show: tokens of a locked partition, digests, second burns, read locks, power-ups that fail, and
-- records that no power-up leaves.
use Rattle.std.specs.Prelude.{Ok, Err}
use mathlib.Core.Path.{◌≡◌, refl}
use mathlib.Core.List.{List, [], ◌∷◌, ◌++◌}
use Prim.Native.Nat.{ℕ}
use lib.ListN.{get_or, set, replicate}
use Rattle.partitions.specs.Map1.{map1}
use Rattle.model.specs.declared.Reason.TheVariants.{BitCleared}
use Rattle.model.specs.declared.Phase.TheVariants.{Dead}
use Rattle.model.specs.declared.Failure.TheVariants.{NotBlank, Denied, DigestFailed, NotReady, LifeCycleFailed, UnknownTarget, TokenDiffers}
use Rattle.model.specs.declared.Command.TheVariants.{Read, Write, FrontRead, Digest, ReadLock, Transition, PowerUp}
use Rattle.model.specs.Lent.{Primitives}
use Rattle.model.specs.Step.{step, after, answers, machine_after, answer_to}
use Rattle.model.specs.Cases.{chip, blank}
use Rattle.model.proofs.Everything.{everything}
use Rattle.model.proofs.ToyChip.{toy_with, toy, off, ready, tested}

-- ---- a token of a locked partition: TEST_LOCKED0 goes to TEST_UNLOCKED1

token-taken : answers toy map1 (PowerUp ∷ Transition 3 0x71 ∷ PowerUp ∷ []) (off tested) ≡ Ok 514 ∷ Ok 0 ∷ Ok 771 ∷ []
unfolding everything tested
token-taken = refl

token-refused : answers toy map1 (PowerUp ∷ Transition 3 0x70 ∷ PowerUp ∷ []) (off tested) ≡ Ok 514 ∷ Err TokenDiffers ∷ Ok 770 ∷ []
unfolding everything tested
token-refused = refl

-- ---- a digest: with a digest that is the lowest data word, SECRET0's is taken over the stored words

abbrev lowest : Primitives
lowest = toy_with (λ words. get_or words 0 0)

digest-taken :
    answers lowest map1 (PowerUp ∷ Write 0x250 0x40 ∷ Digest 0x250 ∷ Write 0x258 0x40 ∷ PowerUp ∷ Read 0x250 ∷ Read 0x270 ∷ []) (chip lowest (λ i. 0) blank)
    ≡ Ok 0 ∷ Ok 0 ∷ Ok 0x41 ∷ Ok 0 ∷ Ok 0 ∷ Err Denied ∷ Ok 0x41 ∷ []
unfolding everything
digest-taken = refl

-- "A computed zero is no error and locks nothing."
zero-digest :
    answers (toy_with (λ words. 0)) map1 (PowerUp ∷ Digest 0x200 ∷ PowerUp ∷ Write 0x200 1 ∷ Digest 0x200 ∷ []) (chip (toy_with (λ words. 0)) (λ i. 0) blank)
    ≡ Ok 0 ∷ Ok 0 ∷ Ok 0 ∷ Ok 0 ∷ Ok 0 ∷ []
unfolding everything
zero-digest = refl

-- ---- no second burn (request Three): a digest command on a digest that is there, though it computes the same

digest-again : answers toy map1 (PowerUp ∷ Digest 0x200 ∷ Digest 0x200 ∷ []) (off blank) ≡ Ok 0 ∷ Ok 1 ∷ Err (NotBlank 292) ∷ []
unfolding everything
digest-again = refl

-- "a zero in a secret granule is stored scrambled, and burns": here as 1
zero-scrambled : answers toy map1 (PowerUp ∷ Write 0x250 0 ∷ Write 0x250 0 ∷ Read 0x250 ∷ []) (off blank) ≡ Ok 0 ∷ Ok 0 ∷ Err (NotBlank 296) ∷ Ok 0 ∷ []
unfolding everything
zero-scrambled = refl

-- ".. unless that form is zero too": here that of 1
scrambled-zero :
    (answers toy map1 (PowerUp ∷ Write 0x250 1 ∷ Read 0x250 ∷ []) (off blank) ≡ Ok 0 ∷ Ok 0 ∷ Ok 1 ∷ [])
    × ((after toy map1 (PowerUp ∷ Write 0x250 1 ∷ []) (off blank)).lent.cells ≡ blank)
    × (answers toy map1 (PowerUp ∷ Write 0x250 1 ∷ Write 0x250 5 ∷ Read 0x250 ∷ []) (off blank) ≡ Ok 0 ∷ Ok 0 ∷ Ok 0 ∷ Ok 5 ∷ [])
unfolding everything
scrambled-zero = (refl, refl, refl)

-- ---- read locks last until power-up, and locking again answers 0

locks-last :
    answers toy map1 (PowerUp ∷ ReadLock 1 ∷ ReadLock 1 ∷ Read 0x100 ∷ PowerUp ∷ Read 0x100 ∷ ReadLock 2 ∷ []) (off blank)
    ≡ Ok 0 ∷ Ok 0 ∷ Ok 0 ∷ Err Denied ∷ Ok 0 ∷ Ok 0 ∷ Err Denied ∷ []
unfolding everything
locks-last = refl

-- ---- power-ups that fail: SCRAP, words that decode to nothing, a digest that differs; then every command but power-up answers 7

scrapped : List ℕ
scrapped = replicate 404 0 ++ (3 ∷ replicate 23 1) ++ replicate 20 3

scrap-found : answers toy map1 (PowerUp ∷ Read 0 ∷ []) (off scrapped) ≡ Err (LifeCycleFailed 276) ∷ Err NotReady ∷ []
unfolding everything scrapped
scrap-found = refl

damaged : List ℕ
damaged = set scrapped 430 2

invalid-found : answers toy map1 (PowerUp ∷ FrontRead 0x200 ∷ []) (off damaged) ≡ Err (LifeCycleFailed 0xFFFF) ∷ Err NotReady ∷ []
unfolding everything scrapped damaged
invalid-found = refl

forged : List ℕ
forged = set (set blank 292 1) 312 2

digest-found : answers toy map1 (PowerUp ∷ Write 0 1 ∷ []) (off forged) ≡ Err (DigestFailed 3) ∷ Err NotReady ∷ []
unfolding everything forged
digest-found = refl

-- what a power-up that fails leaves
copy-zeroed : (after toy map1 (PowerUp ∷ []) (off forged)).lent.copy ≡ replicate 448 0
unfolding everything forged
copy-zeroed = refl

-- ---- records and cells that no power-up leaves: a Ready record over any cells

-- "A 4 at either programming leaves that step's words alone": a counter word that refuses
stroke-refused :
    (answer_to toy map1 (Transition 1 7) (ready 0 (set blank 404 4)) ≡ Err (NotBlank 404))
    × ((machine_after toy map1 (Transition 1 7) (ready 0 (set blank 404 4))).lent.cells ≡ set blank 404 4)
    × ((machine_after toy map1 (Transition 1 7) (ready 0 (set blank 404 4))).session.phase ≡ Dead BitCleared)
unfolding everything
stroke-refused = (refl, refl, refl)

-- a state word that refuses, once the stroke is spent: the counter words stand
state-refused :
    (answer_to toy map1 (Transition 1 7) (ready 0 (set blank 430 4)) ≡ Err (NotBlank 430))
    × ((machine_after toy map1 (Transition 1 7) (ready 0 (set blank 430 4))).lent.cells
    ≡ replicate 404 0 ++ (3 ∷ replicate 23 1) ++ (0 ∷ 0 ∷ 4 ∷ replicate 17 0))
unfolding everything
state-refused = (refl, refl)

-- 7 for a record's state above 20, before 0x11 for the target; 0x11 changes nothing
record-above : answer_to toy map1 (Transition 21 7) (ready 21 blank) ≡ Err NotReady
unfolding everything
record-above = refl

target-above : (step toy map1 (Transition 21 7) (ready 0 blank)).result ≡ record { machine = ready 0 blank; answer = Err UnknownTarget }
unfolding everything
target-above = refl
