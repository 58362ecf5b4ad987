-- Premises of the claims in the papers' numbers are met: computed runs.
use Rattle.std.specs.Prelude.{Ok}
use mathlib.Core.Path.{◌≡◌, refl}
use mathlib.Core.Bool.{true}
use mathlib.Core.List.{List, [], ◌∷◌}
use mathlib.Core.Logic.{◌⊎◌}
use Prim.Native.Nat.{ℕ}
use native.Mathlib.Omega.{arith}
use lib.Dec.{lit<}
use lib.ListN.{set}
use Rattle.words.specs.Words.{number_of, part_at}
use Rattle.partitions.specs.declared.Kind.{Kind}
use Rattle.partitions.specs.Map.{partition}
use Rattle.partitions.specs.Map1.{map1}
use Rattle.model.specs.declared.Command.TheVariants.{Read, FrontRead, Digest, ReadLock, PowerUp}
use Rattle.model.specs.Lent.{Machine}
use Rattle.model.specs.Answers.{code_of}
use Rattle.model.specs.Step.{after, answer_to}
use Rattle.model.specs.Cases.{blank}
use Rattle.model.specs.Claims.Terms.{ValidInputs, Says}
use Rattle.model.specs.Claims.Numbers.{Lockable, Shown}
use Rattle.model.specs.Claims.Order.{Lengths, ValidPairs}
use Rattle.model.specs.Claims.Reads.{InHwCfgData}
use Rattle.model.specs.Claims.Transitions.{Compared}
use Rattle.model.specs.Claims.Tokens.{test_unlock, HashStored}
use Rattle.model.specs.Claims.PowerUps.{FirstFails, Encodes}
use Rattle.model.proofs.Everything.{everything}
use Rattle.model.proofs.ToyChip.{toy, off, ready, tested}
use Rattle.model_examples.proofs.Examples.{toy-claims, right}
use Rattle.partitions.specs.declared.Kind.TheVariants as kind
use Rattle.life_cycle.specs.declared.Token.TheVariants as token

ready-inputs : ValidInputs map1 (ready 0 blank)
ready-inputs = record {
  lengths = (right blank refl).lengths;
  valid = (right blank refl).valid;
  words = (right blank refl).words;
  fuses =
      (right blank refl).fuses;
}

-- ---- the order of refusals: the blank chip, switched off, has right lengths and valid constants, and answers 7

lengths : Lengths map1 (off blank).lent
unfolding everything
lengths = record { cells = refl; copy = refl; constants = refl }

-- no constant is invalid: else the answer to a read were 0x12
pairs : (ValidPairs (off blank).lent.constants → ⊥) → ⊥
pairs n = not-twelve ((toy-claims.order.constants (off blank) (Read 0) (right blank refl).words lengths).1 n)
  where
    not-twelve : code_of (answer_to toy map1 (Read 0) (off blank)) ≡ 0x12 → ⊥
    not-twelve = unfold everything in (λ e. omega (arith, e))

-- a constant C that is zero gives 0x12
wrong-constants : Machine
wrong-constants = record { lent = record { cells = blank; copy = blank; constants = set (off blank).lent.constants 36 0 }; session = (off blank).session }

twelve : code_of (answer_to toy map1 PowerUp wrong-constants) ≡ 0x12
unfolding everything wrong-constants
twelve = refl

-- ---- reads: HW_CFG data of a Ready chip, by a read and by a front read

shown : Shown toy map1 (ready 0 blank).lent.constants blank 0x203 0
unfolding everything
shown = toy-claims.reads.shows (ready 0 blank) ready-inputs 0x203 0 refl

in-hw-cfg : InHwCfgData map1 0x203
unfolding everything
in-hw-cfg = record { below = lit< tt; is_hw_cfg = refl; is_data = lit< tt }

front-shown : answer_to toy map1 (FrontRead 0x203) (ready 0 blank) ≡ Ok (number_of (part_at (ready 0 blank).lent.copy 256 2))
front-shown = (toy-claims.reads.front_read (ready 0 blank) ready-inputs refl 0x203).0 in-hw-cfg

-- ---- a digest location that is not blank: word 293 is named; a read lock of a partition without one: 5

named : Says 0x04 293 (answer_to toy map1 (Digest 0x200) (ready 0 (set blank 293 7)))
unfolding everything
named = (refl, refl)

no-lock : Says 0x05 0 (answer_to toy map1 (ReadLock 2) (ready 0 blank))
no-lock = (toy-claims.read_locks.exactly (ready 0 blank) ready-inputs refl 2).1 (λ l. hw-cfg)
  where
    none : {k : Kind} → k ≡ kind.HwCfg → Lockable k → ⊥
    none e Lockable.software = cc
    none e Lockable.auth_state = cc

    hw-cfg : Lockable (partition map1 2).kind → ⊥
    hw-cfg = none (unfold everything in refl)

-- ---- power-ups: a wrong digest of HW_CFG, of which the toy's is 1

wrong-digest : List ℕ
wrong-digest = set blank 292 5

six : FirstFails toy map1 (off wrong-digest).lent 2
six = (toy-claims.power_ups.sixes (off wrong-digest) (right wrong-digest (unfold wrong-digest in refl)) 2).0 (unfold everything wrong-digest in (refl, refl))

-- the blank chip encodes RAW and no stroke; it answers 0, and a word of the copy is the cell
encodes-raw : Encodes toy map1 (off blank).lent 0 0
unfolding everything
encodes-raw = record { counter = refl; states = refl; count_known = omega arith; state_known = omega arith; raw = λ e. refl }

-- one that encodes no state: word 430 is 4
neither : List ℕ
neither = set blank 430 4

ffff : Says 0x07 0xFFFF (answer_to toy map1 PowerUp (off neither))
unfolding everything neither
ffff = (refl, refl)

-- ---- tokens: SECRET0 holds the hash 0x70 of TEST_UNLOCK 0x71, scrambled; TEST_LOCKED0

stored : HashStored toy map1 (off tested).lent.constants tested kind.Secret0 0 0 0x70 0
unfolding everything tested
stored = record { digest = λ e. omega (arith, e); low_half = refl; high_half = refl }

compared : Compared toy map1 (after toy map1 (PowerUp ∷ []) (off tested)) 0x71 true token.TestUnlock
unfolding after tested
compared =
    (toy-claims.tokens.compared (off tested) (right tested (unfold tested in refl)) [] [] tt
    (unfold everything tested in refl) token.TestUnlock kind.Secret0 0 0 0x70 0 test_unlock
    (lit< tt) (lit< tt) stored 0x71 true).1 refl

out-of-locked : Compared toy map1 (after toy map1 (PowerUp ∷ []) (off tested)) 0x71 true token.TestUnlock
    ⊎ Compared toy map1 (after toy map1 (PowerUp ∷ []) (off tested)) 0x71 true token.TestExit
out-of-locked =
    toy-claims.life_cycles.out_of_locked (after toy map1 (PowerUp ∷ []) (off tested)) 0 3 0x71 (lit< tt) (unfold everything tested in refl)
    (λ e. omega (arith, e))
    (unfold everything tested in refl)
