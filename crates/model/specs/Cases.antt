-- The 14 cases of document 01, read with the hashing of request Four, and those of requests Two, Three and Five in one table, over Map 1.
use Rattle.std.specs.Prelude.{ℕ, List, [], ◌∷◌, ◌++◌, replicate, None, Some}
use Rattle.partitions.specs.Map1.{map1}
use Rattle.model.specs.declared.Command.{Command}
use Rattle.model.specs.declared.Command.TheVariants.{Read, Write, FrontRead, Digest, ReadLock, Transition, PowerUp}
use Rattle.constants.specs.Constants.{digest_start, digest_final}
use Rattle.model.specs.Lent.{Machine, Primitives}
use Rattle.model.specs.CaseTables.{Case, as_is, lowest_bit_changed, blank_array, on_blank, off, both_sides, second_burn, which_word, constants}
use Rattle.model.specs.CaseTables.{off_chip, HoldOn}

-- 448 words
abbrev pub blank : List ℕ
blank = blank_array 448

abbrev pub case : List Command → List (ℕ × ℕ) → Case
case = on_blank 448

-- count 24, state RAW: from word 404 (0x328) on, 24 counter words that are all D and 20 state words that are zero
abbrev pub spent : List ℕ
spent = replicate 404 0 ++ replicate 24 3 ++ replicate 20 0

-- The cases of document 01, case 7 as request Two has it, case 4 as requests Three and Five have it. Tokens are raw, and 7 is given: it is the right RAW_UNLOCK
-- token, but in case 10, where one bit of the stored hash is another.
abbrev pub paper : List Case
paper =
    -- 1. Blank power-up: 0, value 0.
    case (PowerUp ∷ []) ((0x00, 0) ∷ [])
    -- 2. Blank read at 0x327: 0; at 0x328, 0x37F, 0x380: 5.
    ∷ case (PowerUp ∷ Read 0x327 ∷ Read 0x328 ∷ Read 0x37F ∷ Read 0x380 ∷ []) ((0x00, 0) ∷ (0x00, 0) ∷ (0x05, 0) ∷ (0x05, 0) ∷ (0x05, 0) ∷ [])
    -- 3. Write at 3 acts at 0.
    ∷ case (PowerUp ∷ Write 3 0x55 ∷ Read 0 ∷ []) ((0x00, 0) ∷ (0x00, 0) ∷ (0x00, 0x55) ∷ [])
    -- 4. At 0: 0x0F, then 0xF0 gives 4; then 0xFF "also gives 4". The word named is word 0.
    ∷ case (PowerUp ∷ Write 0 0x0F ∷ Write 0 0xF0 ∷ Write 0 0xFF ∷ []) ((0x00, 0) ∷ (0x00, 0) ∷ (0x04, 0) ∷ (0x04, 0) ∷ [])
    -- 5. Write at 0x248: 5.
    ∷ case (PowerUp ∷ Write 0x248 1 ∷ []) ((0x00, 0) ∷ (0x05, 0) ∷ [])
    -- 6. Digest at 0x000 or 0x204: 5.
    ∷ case (PowerUp ∷ Digest 0x000 ∷ Digest 0x204 ∷ []) ((0x00, 0) ∷ (0x05, 0) ∷ (0x05, 0) ∷ [])
    -- 7. Write 1 at 0x0F8, "one 64-bit write", then at 0x004: 0. After power-up 0x004: 5.
    ∷ case (PowerUp ∷ Write 0x0F8 1 ∷ Read 0x0FC ∷ Write 0x004 1 ∷ PowerUp ∷ Write 0x004 3 ∷ [])
    ((0x00, 0) ∷ (0x00, 0) ∷ (0x00, 1) ∷ (0x00, 0) ∷ (0x00, 0) ∷ (0x05, 0) ∷ [])
    -- 8. Partition 0 read-locked: read 0x000 is 5, 0x0F8 is 0.
    ∷ case (PowerUp ∷ ReadLock 0 ∷ Read 0x000 ∷ Read 0x0F8 ∷ []) ((0x00, 0) ∷ (0x00, 0) ∷ (0x05, 0) ∷ (0x00, 0) ∷ [])
    -- 9. RAW to state 1, right token: 0; any next command but power-up: 7; power-up: 257.
    ∷ case (PowerUp ∷ Transition 1 7 ∷ Read 0 ∷ Write 0 0 ∷ FrontRead 0x200 ∷ Digest 0x200 ∷ ReadLock 0 ∷ Transition 1 7 ∷ PowerUp ∷ [])
    ((0x00, 0) ∷ (0x00, 0) ∷ (0x07, 0) ∷ (0x07, 0) ∷ (0x07, 0) ∷ (0x07, 0) ∷ (0x07, 0) ∷ (0x07, 0) ∷ (0x00, 257) ∷ [])
    -- 10. Wrong token: 0x23; power-up 256.
    ∷ record {
      cells = blank_array 448;
      commands = PowerUp ∷ Transition 1 7 ∷ PowerUp ∷ [];
      expected = (0x00, 0) ∷ (0x23, 0) ∷ (0x00, 256) ∷ [];
      left = None;
      stored = lowest_bit_changed;
    }
    -- 11. RAW to DEV: 0x21; power-up 256.
    ∷ case (PowerUp ∷ Transition 16 7 ∷ PowerUp ∷ []) ((0x00, 0) ∷ (0x21, 0) ∷ (0x00, 256) ∷ [])
    -- 12. Count 24, target SCRAP: 0x20, cells unchanged.
    ∷ record { cells = spent; commands = PowerUp ∷ Transition 20 0 ∷ []; expected = (0x00, 6144) ∷ (0x20, 0) ∷ []; left = Some spent; stored = as_is }
    -- 13. TEST_LOCKED0 to TEST_UNLOCKED1, SECRET0 open: 0x22; the stroke is spent, and a power-up answers 770.
    ∷ case (PowerUp ∷ Transition 1 7 ∷ PowerUp ∷ Transition 2 0 ∷ PowerUp ∷ Transition 3 0 ∷ PowerUp ∷ [])
    ((0x00, 0) ∷ (0x00, 0) ∷ (0x00, 257) ∷ (0x00, 0) ∷ (0x00, 514) ∷ (0x22, 0) ∷ (0x00, 770) ∷ [])
    -- 14. DEVICE_ID written: front read old, read new; after power-up both new.
    ∷ case (PowerUp ∷ Write 0x200 0x99 ∷ FrontRead 0x200 ∷ Read 0x200 ∷ PowerUp ∷ FrontRead 0x200 ∷ Read 0x200 ∷ [])
    ((0x00, 0) ∷ (0x00, 0) ∷ (0x00, 0) ∷ (0x00, 0x99) ∷ (0x00, 0) ∷ (0x00, 0x99) ∷ (0x00, 0x99) ∷ [])
    ∷ []

-- Request Two, a hardware digest: reads of 0x248 and 0x24C answer its 64 bits. The digest of a blank HW_CFG is given.
abbrev pub hardware : ℕ → Case
hardware digest =
    case (PowerUp ∷ Digest 0x200 ∷ Read 0x247 ∷ Read 0x248 ∷ Read 0x24C ∷ [])
    ((0x00, 0) ∷ (0x00, digest) ∷ (0x00, 0) ∷ (0x00, digest) ∷ (0x00, digest) ∷ [])

-- Request Five: "A locked partition still answers 5 with value 0 first", here OWNER_SW_CFG.
abbrev pub locked_first : Case
locked_first =
    case (PowerUp ∷ Write 0x100 0x10000 ∷ Write 0x1F8 1 ∷ Write 0x100 1 ∷ PowerUp ∷ Write 0x100 1 ∷ Write 0x1FC 1 ∷ [])
    ((0x00, 0) ∷ (0x00, 0) ∷ (0x00, 0) ∷ (0x04, 0x81) ∷ (0x00, 0) ∷ (0x05, 0) ∷ (0x05, 0) ∷ [])

unfoldable pub table : ℕ → List Case
table digest =
    paper ++ both_sides 448 0x000 ++ (hardware digest ∷ []) ++ second_burn 448 0x000 ++ which_word 448 0x250 ++ (locked_first ∷ off 448 ∷ [])

-- the rows of requests Two, Three and Five in other partitions: OWNER_SW_CFG, HW_CFG, and the last granule of SECRET2
unfoldable pub table_elsewhere : List Case
table_elsewhere = both_sides 448 0x100 ++ second_burn 448 0x200 ++ which_word 448 0x318

module _ (prims : Primitives) (keys : ℕ → ℕ) where
  abbrev pub chip : List ℕ → Machine
  chip = off_chip prims keys 448

  abbrev pub Hold : List Case → Type 0
  Hold = HoldOn prims keys map1 448

  -- the digest of a blank HW_CFG, 36 words
  abbrev pub blank_digest : ℕ
  blank_digest = prims.digest (digest_start (constants prims keys)) (digest_final (constants prims keys)) (replicate 36 0)
