-- Premises are met: computed runs beside the theorems, each handed to the theorem where its conclusion is not plain.
use Rattle.std.specs.Prelude.{Ok, Err}
use mathlib.Core.Path.{◌≡◌, refl, sym, subst}
use mathlib.Core.Bool.{true, false, Bool, ◌&&◌}
use mathlib.Core.List.{List, [], ◌∷◌, ◌++◌}
use Prim.Native.Nat.{ℕ, zero, suc, ◌≤◌, ◌<◌}
use native.Mathlib.Omega.{arith}
use lib.Bits.{xor_lt}
use lib.Dec.{eqb, ltb, lit<}
use lib.ListN.{length, get_or, set}
use lib.Seq.{get_or-set_other}
use borrow.Author.Tests.{eqb-true, eqb-false, ltb-true}
use Rattle.basics.proofs.Choice.{by_cases, and_left, and_right}
use Rattle.basics.proofs.Bits.{xor-xor}
use Rattle.words.specs.Words.{number_of, part_at}
use Rattle.partitions.specs.Map.{number_at, partition, partition_at, in_digest, first_word, word_count}
use Rattle.partitions.specs.Map1.{map1}
use Rattle.partitions.proofs.Maps.{map1-fit}
use Rattle.model.specs.declared.Failure.TheVariants.{NotBlank, Denied}
use Rattle.model.specs.declared.Command.{Command}
use Rattle.model.specs.declared.Command.TheVariants.{Read, Write, FrontRead, Digest, ReadLock, Transition, PowerUp}
use Rattle.model.specs.Lent.{Machine}
use Rattle.words.specs.declared.Rule.TheVariants.{KeepBits}
use Rattle.model.specs.Commands.{direct_rule, granule, stored_digest}
use Rattle.model.specs.PowerUp.{life_cycle_in}
use Rattle.model.specs.Step.{after, answers, machine_after, answer_to}
use Rattle.model.specs.CaseTables.{number}
use Rattle.model.specs.Cases.{blank, table, Hold, blank_digest}
use Rattle.model.specs.Claims.Terms.{ValidInputs, Cipher, DigestFits, Digested, stored_words, Lasts, NotWritten, used_value, Allowed, Matched, valid_life}
use Rattle.model.specs.Claims.Terms.{HiddenWord, Alike}
use Rattle.model.specs.Claims.Terms.{Says}
use Rattle.model.specs.Claims.Demand3.{Ready}
use Rattle.model.specs.Session.{read_locked}
use Rattle.model.specs.Claims.Transitions.{Asked, stays, moves}
use Rattle.model.specs.Claims.Burns.{writing, digesting, Named}
use Rattle.model.specs.Claims.Digests.{Puts, writes, Source, put}
use Rattle.model.specs.Claims.All.{Claims}
use Rattle.model.proofs.Everything.{everything}
use Rattle.model.proofs.ToyChip.{toy_with, toy, off, ready, tested}
use Rattle.model_examples.proofs.Cases.{cases}
use Rattle.model.proofs.Theorems.{claims}

pub toy-cipher : Cipher toy
toy-cipher = record {
  fits = λ key block k b. xor_lt 64 block 1 b (lit< tt);
  back = λ key block k b. xor-xor block 1;
  plain_fits = λ key block k b. xor_lt 64 block 1 b (lit< tt);
  forth = λ key block k b. xor-xor block 1;
}

pub toy-digest : DigestFits toy
toy-digest = record { fits = λ start final words s f w. lit< tt }

abbrev pub toy-claims : Claims toy map1
toy-claims = claims toy toy-cipher toy-digest map1 map1-fit

-- words of 16 bits, by a test that is computed
abbrev pub small : List ℕ → Bool
small [] = true
small (w ∷ ws) = ltb w 65536 && small ws

pub small_at : (l : List ℕ) → small l ≡ true → (i : ℕ) → get_or l i 0 < 65536
small_at [] e i = lit< tt
small_at (w ∷ ws) e zero = ltb-true _ _ (and_left (ltb w 65536) _ e)
small_at (w ∷ ws) e (suc i) = small_at ws (and_right (ltb w 65536) _ e) i

pub right : (cells : List ℕ) → (eqb (length cells) 448 && small cells) ≡ true → ValidInputs map1 (off cells)
right cells e = record {
  lengths = unfold everything in (rw (and_left (eqb (length cells) 448) _ e));
  valid = unfold everything in refl;
  words = small_at (off blank).lent.constants (unfold everything in refl);
  fuses = small_at cells (and_right (eqb (length cells) 448) _ e);
}

-- ---- a write: 0x55 at 0x003 of a blank chip is allowed after a power-up, and reads back at 0x000

powered : Ready toy map1 (off blank) [] []
unfolding everything Lasts
powered = record { succeeded = refl; lasts = tt }

allowed : Allowed toy map1 (off blank).lent.constants blank (machine_after toy map1 PowerUp (off blank)).lent.cells 0x003 0x55
unfolding everything
allowed = record { below = lit< tt; not_denied = refl; takes = refl }

wrote : Machine
wrote = machine_after toy map1 (Write 0x003 0x55) (machine_after toy map1 PowerUp (off blank))

reads-back : answer_to toy map1 (Read 0x000) wrote ≡ Ok 0x55
unfolding everything wrote
reads-back = refl

one-granule : first_word (partition_at map1 0x001) 0x001 ≡ first_word (partition_at map1 0x003) 0x003
unfolding everything
one-granule = refl

-- ---- Ready lasts through a refused write to the granule, a read lock elsewhere and a transition that answers 0x11

staying : List Command
staying = Write 0x002 0xAA ∷ ReadLock 1 ∷ Transition 21 0 ∷ []

still-ready : Lasts toy map1 staying wrote
unfolding everything Lasts staying wrote
still-ready = (tt, (tt, (refl, tt)))

unwritten : NotWritten toy map1 0x003 staying wrote
unfolding everything NotWritten staying wrote
unwritten = (λ same done. omega arith, (tt, (tt, tt)))

not-read-locked : in_digest (partition_at map1 0x001) 0x001 ≡ false → read_locked (after toy map1 staying wrote).session (number_at map1 0x001) ≡ false
unfolding everything staying wrote
not-read-locked e = refl

reads-meanwhile : answer_to toy map1 (Read 0x001) (after toy map1 staying wrote) ≡ Ok (used_value map1 0x003 0x55)
unfolding wrote after
reads-meanwhile =
    (toy-claims.demand3.writes (off blank) (right blank refl) [] [] powered 0x003 0x55 (lit< tt) allowed).1 staying still-ready unwritten 0x001
    (unfold everything in (lit< tt)) one-granule
    not-read-locked

-- secret data is scrambled and reads back while it is open
secret-reads-back : answers toy map1 (PowerUp ∷ Write 0x250 0x77 ∷ Read 0x257 ∷ []) (off blank) ≡ Ok 0 ∷ Ok 0 ∷ Ok 0x77 ∷ []
unfolding everything
secret-reads-back = refl

-- ---- it lasts: a write that clears no bit is refused, a transition and a power-up follow, and 0x001 still reads the same

passing : List Command
passing = Write 0x002 0xFF ∷ Transition 1 7 ∷ PowerUp ∷ []

not-zero : number_of (stored_words toy map1 (off blank).lent.constants 0x003 0x55) ≡ 0 → ⊥
unfolding everything
not-zero z = omega arith

not-old : direct_rule (partition_at map1 0x003) 0x003 ≡ KeepBits → ⊥
unfolding everything
not-old e = cc

reads_on : answer_to toy map1 (Read 0x001) (after toy map1 passing wrote) ≡ Ok 0x55
unfolding everything passing wrote
reads_on = refl

stored_on : 0x55 ≡ used_value map1 0x003 0x55
unfolding wrote after
stored_on =
    toy-claims.burns.lasting (off blank) (right blank refl) [] [] powered 0x003 0x55 (lit< tt) allowed passing (λ z. absurd (not-zero z))
    (λ e. absurd (not-old e)) 0x001 0x55 one-granule reads_on

-- a write of zero leaves its granule blank: it reads 0 as long as no other write to the granule answers 0
allowed-zero : Allowed toy map1 (off blank).lent.constants blank (machine_after toy map1 PowerUp (off blank)).lent.cells 0x003 0
unfolding everything
allowed-zero = record { below = lit< tt; not_denied = refl; takes = refl }

wrote-zero : Machine
wrote-zero = machine_after toy map1 (Write 0x003 0) (machine_after toy map1 PowerUp (off blank))

not-writing : List Command
not-writing = Write 0x004 0xFF ∷ Transition 1 7 ∷ PowerUp ∷ []

passed : NotWritten toy map1 0x003 not-writing wrote-zero
unfolding everything NotWritten not-writing wrote-zero
passed = (λ same done. omega arith, (tt, (tt, tt)))

zero-read : answer_to toy map1 (Read 0x001) (after toy map1 not-writing wrote-zero) ≡ Ok 0
unfolding everything not-writing wrote-zero
zero-read = refl

zero-on : 0 ≡ used_value map1 0x003 0
unfolding wrote-zero after
zero-on =
    toy-claims.burns.lasting (off blank) (right blank refl) [] [] powered 0x003 0 (lit< tt) allowed-zero not-writing (λ z. passed)
    (λ e. passed) 0x001 0 one-granule zero-read

-- ---- nothing is burnt twice: the write of 0x55 at 0x003 found words 0 and 1 blank, and whatever else is written there, 0x55 stands

found_word : get_or (after toy map1 (PowerUp ∷ []) (off blank)).lent.cells 1 0 ≡ 0
found_word =
    toy-claims.burns.taken (off blank) (PowerUp ∷ []) (Write 0x003 0x55) 0 (0x55 ∷ 0 ∷ []) (unfold everything in (writing refl))
    (unfold everything in refl) 1 (omega arith) (lit< tt)

-- a digest command found the four words of HW_CFG's digest blank
found-digest : get_or (after toy map1 (PowerUp ∷ []) (off blank)).lent.cells 295 0 ≡ 0
found-digest =
    toy-claims.burns.taken (off blank) (PowerUp ∷ []) (Digest 0x200) 292 (1 ∷ 0 ∷ 0 ∷ 0 ∷ []) (unfold everything in digesting)
    (unfold everything in refl) 295 (omega arith) (lit< tt)

burnt-word : get_or wrote.lent.cells 0 0 ≡ 0x55
unfolding everything wrote
burnt-word = refl

word-left : get_or (machine_after toy map1 (Write 0x003 0xFF) wrote).lent.cells 0 0 ≡ get_or wrote.lent.cells 0 0
unfolding after
word-left = toy-claims.burns.burns wrote [] (Write 0x003 0xFF) 0 (0xFF ∷ 0 ∷ []) (unfold everything in (writing refl)) 0 (λ z. omega (arith, burnt-word))

granule-held : granule (partition_at map1 0x001) wrote.lent.cells 0x001 ≡ 0x55
unfolding everything wrote
granule-held = refl

granule-left : let p = partition_at map1 0x001 in
    part_at (after toy map1 (passing ++ staying) wrote).lent.cells (first_word p 0x001) (word_count p 0x001)
    ≡ part_at wrote.lent.cells (first_word p 0x001) (word_count p 0x001)
unfolding after
granule-left =
    toy-claims.burns.granules wrote 0x001 (unfold everything in (lit< tt)) (unfold everything in refl) (unfold everything in refl) [] (passing ++ staying)
    (λ z. omega (arith, granule-held))

-- ---- which word: the second of a granule that a write meets, the lowest of a digest given again, a counter word and a state word

write-named : Named toy map1 (after toy map1 (PowerUp ∷ []) (off (set blank 1 7))) (Write 0x000 0x55) 1
unfolding everything
write-named = toy-claims.burns.refused (off (set blank 1 7)) (PowerUp ∷ []) (Write 0x000 0x55) refl

digest-named : Named toy map1 (after toy map1 (PowerUp ∷ Digest 0x200 ∷ []) (off blank)) (Digest 0x200) 292
unfolding everything
digest-named = toy-claims.burns.refused (off blank) (PowerUp ∷ Digest 0x200 ∷ []) (Digest 0x200) refl

stroke-named : Named toy map1 (ready 0 (set blank 404 4)) (Transition 1 7) 404
unfolding everything
stroke-named = toy-claims.burns.refused (ready 0 (set blank 404 4)) [] (Transition 1 7) refl

state-named : Named toy map1 (ready 0 (set blank 430 4)) (Transition 1 7) 430
unfolding everything
state-named = toy-claims.burns.refused (ready 0 (set blank 430 4)) [] (Transition 1 7) refl

-- ---- a lock: with a digest of 1 written to CREATOR_SW_CFG, the next power-up finds it locked

locking : List Command
locking = PowerUp ∷ Write 0x000 0x99 ∷ Write 0x0F8 1 ∷ []

digested : Digested map1 0
unfolding everything
digested = record { known = lit< tt; direct = refl }

found-locked : stored_digest (partition map1 0) (after toy map1 locking (off blank)).lent.cells ≡ 1
unfolding everything locking
found-locked = refl

refused-since : answer_to toy map1 (Write 0x000 0xFF) (after toy map1 (locking ++ PowerUp ∷ []) (off blank)) ≡ Err Denied
unfolding everything locking
refused-since = refl

-- with value 0, as the theorem says
says-locked : Says 0x05 0 (answer_to toy map1 (Write 0x000 0xFF) (after toy map1 (locking ++ PowerUp ∷ []) (off blank)))
says-locked =
    (toy-claims.burns.locked (off blank) (right blank refl) (locking ++ PowerUp ∷ []) 0x000 0xFF (unfold everything locking in refl)
    (unfold everything locking in refl)).0

-- ---- a digest in one piece: the other half of CREATOR_SW_CFG's is refused, so that after the next power-up it still is what one write put there

halves : List Command
halves = PowerUp ∷ Write 0x0F8 1 ∷ Write 0x0FC 0x100000000 ∷ PowerUp ∷ []

halves-answer : answers toy map1 halves (off blank) ≡ Ok 0 ∷ Ok 0 ∷ Err (NotBlank 124) ∷ Ok 0 ∷ []
unfolding everything halves
halves-answer = refl

put_whole : Source toy map1 (off blank) halves 0 1
unfolding everything halves
put_whole = put (PowerUp ∷ []) (Write 0x0F8 1) (Write 0x0FC 0x100000000 ∷ PowerUp ∷ []) refl (writes refl refl refl)

-- the digest that is stored then, of which the theorem speaks
stored-whole : stored_digest (partition map1 0) (after toy map1 halves (off blank)).lent.cells ≡ 1
unfolding everything halves
stored-whole = refl

-- a write of one half is no source of both
half-put : Puts map1 0 0x100000001 (Write 0x0FC 0x100000000) (Ok 0) → ⊥
half-put (writes n d e) = omega arith

-- ---- what the table of cases asks: the digest of a blank HW_CFG is a number of 64 bits, and the hash of the token one of 128

table-held : let prims = toy_with (λ words. number) in Hold prims (λ i. 0) (table (blank_digest prims (λ i. 0)))
table-held = cases (toy_with (λ words. number)) (λ i. 0) (lit< tt) (lit< tt)

-- ---- two chips: SECRET0 locked on both with digest 1, and one word of its data (at 0x250) different

one : List ℕ
one = set blank 312 1

other : List ℕ
other = set one 296 5

differ : get_or one 296 0 ≡ get_or other 296 0 → ⊥
unfolding one other
differ e = omega arith

hidden : HiddenWord map1 one other 296
unfolding everything one other
hidden = record {
  hidden = record { known = lit< tt; secret = refl; equal = refl; nonzero = λ e. omega arith };
  is_data = refl;
}

alike : Alike map1 one other one other
alike = record { at = word }
  where
    word : (j : ℕ) → (HiddenWord map1 one other j → ⊥) → get_or one j 0 ≡ get_or other j 0
    word j h =
        by_cases (eqb j 296) (λ t. absurd (h (subst (HiddenWord map1 one other) (sym (eqb-true j 296 t)) hidden)))
        (λ t. unfold other in (sym (get_or-set_other one 296 j 5 0 (eqb-false j 296 t))))

trying : List Command
trying = Read 0x250 ∷ Write 0x250 1 ∷ Digest 0x250 ∷ Read 0x270 ∷ Transition 1 7 ∷ []

matched : Matched toy map1 (PowerUp ∷ trying) (off one) (off other)
unfolding everything Matched one other trying
matched = (tt, (refl, tt), (tt, tt, (tt, tt, (tt, tt, (tt, tt, ((refl, tt), tt, tt))))))

-- both answer this
both-answer : answers toy map1 (PowerUp ∷ trying) (off other) ≡ Ok 0 ∷ Err Denied ∷ Err Denied ∷ Err Denied ∷ Ok 1 ∷ Ok 0 ∷ []
unfolding everything one other trying
both-answer = refl

chips-agree : answers toy map1 (PowerUp ∷ trying) (off one) ≡ answers toy map1 (PowerUp ∷ trying) (off other)
chips-agree =
    (toy-claims.demand3.chips (off one) (off other) (right one (unfold one in refl)) (right other (unfold one other in refl)) refl alike trying matched).0

-- ---- two chips and a hidden token: TEST_EXIT differs, and a transition compares TEST_UNLOCK on both

exchanged : List ℕ
exchanged = set tested 304 9

token-matched : Matched toy map1 (PowerUp ∷ Transition 3 0x71 ∷ []) (off tested) (off exchanged)
unfolding everything Matched tested exchanged
token-matched = (tt, (refl, tt), ((refl, tt), tt, tt))

-- ---- tokens: TEST_LOCKED0 to TEST_UNLOCKED1 asks for TEST_UNLOCK, 0x71; its hash 0x70 is no token, and costs the third stroke

token-right : Asked toy map1 (after toy map1 (PowerUp ∷ []) (off tested)) 3 0x71 true
unfolding everything tested
token-right = (toy-claims.transitions.tokens (after toy map1 (PowerUp ∷ []) (off tested)) 3 0x71).0 refl

token-wrong : Asked toy map1 (after toy map1 (PowerUp ∷ []) (off tested)) 3 0x70 false
unfolding everything tested
token-wrong = (toy-claims.transitions.tokens (after toy map1 (PowerUp ∷ []) (off tested)) 3 0x70).1 refl

third-stroke : (after toy map1 (PowerUp ∷ Transition 3 0x70 ∷ []) (off tested)).lent.cells ≡ set tested 406 3
unfolding everything tested
third-stroke = refl

-- ---- the device code: HW_CFG locked with the DEVICE_ID's first word 0x1234; a later front read that answers 0 shows it

coded : List ℕ
coded = set (set blank 256 0x1234) 292 1

front-read : answer_to toy map1 (FrontRead 0x200) (after toy map1 (PowerUp ∷ Write 0x200 0xFFFF ∷ PowerUp ∷ []) (off coded)) ≡ Ok 0x1234
unfolding everything coded
front-read = refl

-- ---- a progress: RAW to TEST_UNLOCKED0 spends a stroke and takes an entry of the table

progress-taken : life_cycle_in map1 (after toy map1 (PowerUp ∷ Transition 1 7 ∷ []) (off blank)).lent ≡ valid_life 1 1
unfolding everything
progress-taken = refl

-- the count rises
count-risen : 0 ≤ 1
unfolding everything
count-risen = toy-claims.transitions.counts 0 0 1 1 (moves stays refl)

-- ---- a quiet list leaves the copy: a write and a digest command show only after a power-up

quietly : List Command
quietly = Write 0x200 0x99 ∷ Digest 0x200 ∷ ReadLock 0 ∷ []

copy-left : (after toy map1 quietly wrote).lent.copy ≡ wrote.lent.copy
unfolding quietly
copy-left = (toy-claims.sensing.unsensed wrote quietly (tt, (tt, (tt, tt)))).0

-- ---- a refusal: a denied write leaves the machine

refused-whole : machine_after toy map1 (Write 0x248 1) wrote ≡ wrote
refused-whole = toy-claims.refusals.commands wrote (Write 0x248 1) tt (unfold everything wrote in (λ e. omega arith))
