-- The 14 cases of document 01 over Map 2, and cases of what is new there (request Six), in one table. HW_CFG0 stands for HW_CFG, partition 0 is VENDOR_TEST.
use Rattle.std.specs.Prelude.{ℕ, List, [], ◌∷◌, ◌++◌, replicate, None, Some}
use Rattle.partitions.specs.Map2.{map2}
use Rattle.model.specs.declared.Command.TheVariants.{Read, Write, FrontRead, Digest, ReadLock, Transition, PowerUp}
use Rattle.constants.specs.Constants.{digest_start, digest_final}
use Rattle.model.specs.Lent.{Primitives}
use Rattle.model.specs.CaseTables.{Case, as_is, lowest_bit_changed, words, number, blank_array, array_with, on_blank, off, both_sides, second_burn, which_word}
use Rattle.model.specs.CaseTables.{constants, HoldOn}

-- count 24, state RAW: from word 696 (0x570) on, 24 counter words that are all D and 20 state words that are zero
abbrev pub spent_of_map2 : List ℕ
spent_of_map2 = replicate 696 0 ++ replicate 24 3 ++ replicate 20 0

abbrev pub paper_on_map2 : List Case
paper_on_map2 =
    -- 1. Blank power-up: 0, value 0.
    on_blank 740 (PowerUp ∷ []) ((0x00, 0) ∷ [])
    -- 2. Blank read at the last address before LIFE_CYCLE: 0; at its first and its last, and at the first past the map: 5.
    ∷ on_blank 740 (PowerUp ∷ Read 0x56F ∷ Read 0x570 ∷ Read 0x5C7 ∷ Read 0x5C8 ∷ []) ((0x00, 0) ∷ (0x00, 0) ∷ (0x05, 0) ∷ (0x05, 0) ∷ (0x05, 0) ∷ [])
    -- 3. Write at 3 acts at 0.
    ∷ on_blank 740 (PowerUp ∷ Write 3 0x55 ∷ Read 0 ∷ []) ((0x00, 0) ∷ (0x00, 0) ∷ (0x00, 0x55) ∷ [])
    -- 4. At 0: 0x0F, then 0xF0 gives 4; then 0xFF gives 4.
    ∷ on_blank 740 (PowerUp ∷ Write 0 0x0F ∷ Write 0 0xF0 ∷ Write 0 0xFF ∷ []) ((0x00, 0) ∷ (0x00, 0) ∷ (0x04, 0) ∷ (0x04, 0) ∷ [])
    -- 5. Write at the digests of HW_CFG0 and HW_CFG1: 5.
    ∷ on_blank 740 (PowerUp ∷ Write 0x480 1 ∷ Write 0x490 1 ∷ []) ((0x00, 0) ∷ (0x05, 0) ∷ (0x05, 0) ∷ [])
    -- 6. Digest at a partition with a software digest, AUTH_STATE among them, or at no start: 5.
    ∷ on_blank 740 (PowerUp ∷ Digest 0x000 ∷ Digest 0x418 ∷ Digest 0x444 ∷ []) ((0x00, 0) ∷ (0x05, 0) ∷ (0x05, 0) ∷ (0x05, 0) ∷ [])
    -- 7. Write 1 at 0x038, one 64-bit write, then at 0x004: 0. After power-up 0x004: 5.
    ∷ on_blank 740 (PowerUp ∷ Write 0x038 1 ∷ Read 0x03C ∷ Write 0x004 1 ∷ PowerUp ∷ Write 0x004 3 ∷ [])
    ((0x00, 0) ∷ (0x00, 0) ∷ (0x00, 1) ∷ (0x00, 0) ∷ (0x00, 0) ∷ (0x05, 0) ∷ [])
    -- 8. Partition 0 read-locked: read 0x000 is 5, 0x038 is 0.
    ∷ on_blank 740 (PowerUp ∷ ReadLock 0 ∷ Read 0x000 ∷ Read 0x038 ∷ []) ((0x00, 0) ∷ (0x00, 0) ∷ (0x05, 0) ∷ (0x00, 0) ∷ [])
    -- 9. RAW to state 1, right token: 0; any next command but power-up: 7; power-up: 257.
    ∷ on_blank 740 (PowerUp ∷ Transition 1 7 ∷ Read 0 ∷ Write 0 0 ∷ FrontRead 0x440 ∷ Digest 0x440 ∷ ReadLock 0 ∷ Transition 1 7 ∷ PowerUp ∷ [])
    ((0x00, 0) ∷ (0x00, 0) ∷ (0x07, 0) ∷ (0x07, 0) ∷ (0x07, 0) ∷ (0x07, 0) ∷ (0x07, 0) ∷ (0x07, 0) ∷ (0x00, 257) ∷ [])
    -- 10. Wrong token: 0x23; power-up 256.
    ∷ record {
      cells = blank_array 740;
      commands = PowerUp ∷ Transition 1 7 ∷ PowerUp ∷ [];
      expected = (0x00, 0) ∷ (0x23, 0) ∷ (0x00, 256) ∷ [];
      left = None;
      stored = lowest_bit_changed;
    }
    -- 11. RAW to DEV: 0x21; power-up 256.
    ∷ on_blank 740 (PowerUp ∷ Transition 16 7 ∷ PowerUp ∷ []) ((0x00, 0) ∷ (0x21, 0) ∷ (0x00, 256) ∷ [])
    -- 12. Count 24, target SCRAP: 0x20, cells unchanged.
    ∷ record {
      cells = spent_of_map2;
      commands = PowerUp ∷ Transition 20 0 ∷ [];
      expected = (0x00, 6144) ∷ (0x20, 0) ∷ [];
      left = Some spent_of_map2;
      stored = as_is;
    }
    -- 13. TEST_LOCKED0 to TEST_UNLOCKED1, SECRET0 open: 0x22; the stroke is spent, and a power-up answers 770.
    ∷ on_blank 740 (PowerUp ∷ Transition 1 7 ∷ PowerUp ∷ Transition 2 0 ∷ PowerUp ∷ Transition 3 0 ∷ PowerUp ∷ [])
    ((0x00, 0) ∷ (0x00, 0) ∷ (0x00, 257) ∷ (0x00, 0) ∷ (0x00, 514) ∷ (0x22, 0) ∷ (0x00, 770) ∷ [])
    -- 14. DEVICE_ID written: front read old, read new; after power-up both new.
    ∷ on_blank 740 (PowerUp ∷ Write 0x440 0x99 ∷ FrontRead 0x440 ∷ Read 0x440 ∷ PowerUp ∷ FrontRead 0x440 ∷ Read 0x440 ∷ [])
    ((0x00, 0) ∷ (0x00, 0) ∷ (0x00, 0) ∷ (0x00, 0x99) ∷ (0x00, 0) ∷ (0x00, 0x99) ∷ (0x00, 0x99) ∷ [])
    ∷ []

-- "AUTH_STATE data, like LIFE_CYCLE, keeps the old rule under Three and Five."
abbrev pub auth_state_rows : List Case
auth_state_rows =
    -- Bits are added, by any address of the granule, and after a power-up too; a value that lacks one is refused, and leaves the words.
    record {
      cells = blank_array 740;
      commands =
          PowerUp ∷ Write 0x418 0x0F ∷ Write 0x41B 0xF0 ∷ Write 0x418 0x1F ∷ Write 0x418 0x1F ∷ PowerUp ∷ Write 0x41A 0xFF ∷ Write 0x418 0 ∷ Read 0x419 ∷ [];
      expected = (0x00, 0) ∷ (0x00, 0) ∷ (0x04, 0x20C) ∷ (0x00, 0) ∷ (0x00, 0) ∷ (0x00, 0) ∷ (0x00, 0) ∷ (0x04, 0x20C) ∷ (0x00, 0xFF) ∷ [];
      left = Some (array_with 740 0x20C (0xFF ∷ []));
      stored = as_is;
    }
    -- The lowest word whose bit would be cleared is named: the second, where the first only gains; the first, where both lose. The last granule of the data.
    ∷ on_blank 740 (PowerUp ∷ Write 0x434 0x10001 ∷ Write 0x434 0x00003 ∷ Write 0x437 0 ∷ Write 0x434 0x30003 ∷ Read 0x434 ∷ [])
    ((0x00, 0) ∷ (0x00, 0) ∷ (0x04, 0x21B) ∷ (0x04, 0x21A) ∷ (0x00, 0) ∷ (0x00, 0x30003) ∷ [])
    -- The digest behind them is written once, in one piece, and locks from the next power-up on.
    ∷ on_blank 740
    (PowerUp ∷ Write 0x438 1 ∷ Write 0x43C 3 ∷ Write 0x418 1 ∷ Write 0x418 3 ∷ PowerUp ∷ Write 0x418 7 ∷ Write 0x43F 3 ∷ Read 0x418 ∷ Read 0x43C ∷ [])
    ((0x00, 0) ∷ (0x00, 0) ∷ (0x04, 0x21C) ∷ (0x00, 0) ∷ (0x00, 0) ∷ (0x00, 0) ∷ (0x05, 0) ∷ (0x05, 0) ∷ (0x00, 3) ∷ (0x00, 1) ∷ [])
    -- The digest before them, CODESIGN's, is written once.
    ∷ on_blank 740 (PowerUp ∷ Write 0x417 1 ∷ Write 0x410 3 ∷ []) ((0x00, 0) ∷ (0x00, 0) ∷ (0x04, 0x208) ∷ [])
    ∷ []

-- "The first five are unbuffered and read-lockable": 0 to 4 take a read lock, and no other number.
abbrev pub read_lock_rows : List Case
read_lock_rows =
    on_blank 740
    (PowerUp ∷ ReadLock 1 ∷ ReadLock 2 ∷ ReadLock 3 ∷ ReadLock 5 ∷ ReadLock 6 ∷ ReadLock 7 ∷ ReadLock 8 ∷ ReadLock 9 ∷ ReadLock 10 ∷ ReadLock 11 ∷ ReadLock 255
    ∷ [])
    ((0x00, 0) ∷ (0x00, 0) ∷ (0x00, 0) ∷ (0x00, 0) ∷ (0x05, 0) ∷ (0x05, 0) ∷ (0x05, 0) ∷ (0x05, 0) ∷ (0x05, 0) ∷ (0x05, 0) ∷ (0x05, 0) ∷ (0x05, 0) ∷ [])
    -- Lock 4 stops reads of AUTH_STATE data, not of its digest or its neighbours, and no write; a power-up clears it.
    ∷ on_blank 740 (PowerUp ∷ ReadLock 4 ∷ Read 0x418 ∷ Read 0x437 ∷ Read 0x438 ∷ Read 0x417 ∷ Read 0x440 ∷ Write 0x418 1 ∷ PowerUp ∷ Read 0x418 ∷ [])
    ((0x00, 0) ∷ (0x00, 0) ∷ (0x05, 0) ∷ (0x05, 0) ∷ (0x00, 0) ∷ (0x00, 0) ∷ (0x00, 0) ∷ (0x00, 0) ∷ (0x00, 0) ∷ (0x00, 1) ∷ [])
    ∷ []

-- "A front read reaches both HW_CFG parts": their data, first and last bytes; not their digests, nor the partitions beside them. HW_CFG1 has 8 bytes of data.
abbrev pub front_read_rows : List Case
front_read_rows =
    on_blank 740
    (PowerUp ∷ Write 0x47C 0x99 ∷ Write 0x488 0x11 ∷ Write 0x48F 0x22 ∷ FrontRead 0x488 ∷ PowerUp ∷ FrontRead 0x440 ∷ FrontRead 0x47F ∷ FrontRead 0x488
    ∷ FrontRead 0x48F ∷ [])
    ((0x00, 0) ∷ (0x00, 0) ∷ (0x00, 0) ∷ (0x00, 0) ∷ (0x00, 0) ∷ (0x00, 0) ∷ (0x00, 0) ∷ (0x00, 0x99) ∷ (0x00, 0x11) ∷ (0x00, 0x22) ∷ [])
    ∷ on_blank 740 (PowerUp ∷ FrontRead 0x43F ∷ FrontRead 0x480 ∷ FrontRead 0x487 ∷ FrontRead 0x490 ∷ FrontRead 0x498 ∷ FrontRead 0x570 ∷ FrontRead 0x5C8 ∷ [])
    ((0x00, 0) ∷ (0x05, 0) ∷ (0x05, 0) ∷ (0x05, 0) ∷ (0x05, 0) ∷ (0x05, 0) ∷ (0x05, 0) ∷ (0x05, 0) ∷ [])
    ∷ []

-- Where the data and the digests of VENDOR_TEST, OWNER_SW_CFG and CODESIGN end: the last data write has 4 bytes, a digest write 8.
abbrev pub edge_rows : List Case
edge_rows =
    record {
      cells = blank_array 740;
      commands = PowerUp ∷ Write 0x037 number ∷ Write 0x03F number ∷ Write 0x040 number ∷ [];
      expected = (0x00, 0) ∷ (0x00, 0) ∷ (0x00, 0) ∷ (0x00, 0) ∷ [];
      left = Some (array_with 740 0x01A ((0x7788 ∷ 0x5566 ∷ []) ++ words ++ (0x7788 ∷ 0x5566 ∷ [])));
      stored = as_is;
    }
    ∷ record {
      cells = blank_array 740;
      commands = PowerUp ∷ Write 0x23F number ∷ Write 0x240 number ∷ [];
      expected = (0x00, 0) ∷ (0x00, 0) ∷ (0x00, 0) ∷ [];
      left = Some (array_with 740 0x11C (words ++ (0x7788 ∷ 0x5566 ∷ [])));
      stored = as_is;
    }
    ∷ record {
      cells = blank_array 740;
      commands = PowerUp ∷ Write 0x40F number ∷ Write 0x417 number ∷ Write 0x418 number ∷ [];
      expected = (0x00, 0) ∷ (0x00, 0) ∷ (0x00, 0) ∷ (0x00, 0) ∷ [];
      left = Some (array_with 740 0x206 ((0x7788 ∷ 0x5566 ∷ []) ++ words ++ (0x7788 ∷ 0x5566 ∷ [])));
      stored = as_is;
    }
    ∷ []

-- HW_CFG1's digest, over 4 words: reads of 0x490 and 0x494 answer its 64 bits. That of the blank partition is given.
abbrev pub hw_cfg1_digest : ℕ → Case
hw_cfg1_digest digest =
    on_blank 740 (PowerUp ∷ Digest 0x488 ∷ Read 0x48F ∷ Read 0x490 ∷ Read 0x494 ∷ [])
    ((0x00, 0) ∷ (0x00, digest) ∷ (0x00, 0) ∷ (0x00, digest) ∷ (0x00, digest) ∷ [])

unfoldable pub table_of_map2 : ℕ → List Case
table_of_map2 digest =
    paper_on_map2 ++ auth_state_rows ++ read_lock_rows ++ front_read_rows ++ edge_rows ++ both_sides 740 0x140 ++ second_burn 740 0x440 ++ which_word 740 0x560
    ++ (hw_cfg1_digest digest ∷ off 740 ∷ [])

module _ (prims : Primitives) (keys : ℕ → ℕ) where
  abbrev pub HoldOnMap2 : List Case → Type 0
  HoldOnMap2 = HoldOn prims keys map2 740

  -- the digest of a blank HW_CFG1, 4 words
  abbrev pub blank_hw_cfg1_digest : ℕ
  blank_hw_cfg1_digest = prims.digest (digest_start (constants prims keys)) (digest_final (constants prims keys)) (replicate 4 0)
