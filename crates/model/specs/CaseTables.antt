-- What a case is, what it means that a table of cases holds, and the rows that are alike in both maps: for any keys, digest constants, cipher, digest and hash.
use Rattle.std.specs.Prelude.{ℕ, ◌+◌, ◌-◌, ◌/◌, ◌≡◌, List, [], ◌∷◌, ◌++◌, map, length, replicate, Option, None, Some}
use Rattle.std.specs.Int.Bits.{bit_xor}
use Rattle.basics.specs.Range.{listed}
use Rattle.words.specs.Words.{words_of}
use Rattle.partitions.specs.Map.{Map}
use Rattle.model.specs.declared.Command.{Command}
use Rattle.model.specs.declared.Command.TheVariants.{Read, Write, FrontRead, Digest, ReadLock, Transition, PowerUp}
use Rattle.model.specs.Answers.{Answer, code_of, value_of}
use Rattle.model.specs.Session.{fresh_session}
use Rattle.model.specs.Lent.{Machine, Primitives}
use Rattle.model.specs.Step.{after, answers}

-- a case: the cells at first, commands, the codes and values that they answer, where it is said, the cells afterwards, and what the RAW_UNLOCK words hold, of
-- the hash of the token 7
pub record Case : Type 0 where
  pub cells : List ℕ
  pub commands : List Command
  pub expected : List (ℕ × ℕ)
  pub left : Option (List ℕ)
  pub stored : ℕ → ℕ

-- the hash itself: the right token is 7
abbrev pub as_is : ℕ → ℕ
as_is hash = hash

-- the hash with its lowest bit changed: 7 is a wrong token
abbrev pub lowest_bit_changed : ℕ → ℕ
lowest_bit_changed hash = bit_xor hash 1

-- four words, the lowest first, and the number of 64 bits that they stand for
abbrev pub words : List ℕ
words = 0x7788 ∷ 0x5566 ∷ 0x3344 ∷ 0x1122 ∷ []

abbrev pub number : ℕ
number = 0x1122334455667788

-- in an array of so many words
module _ (size : ℕ) where
  abbrev pub blank_array : List ℕ
  blank_array = replicate size 0

  -- some words from a word on, blank elsewhere
  abbrev pub array_with : ℕ → List ℕ → List ℕ
  array_with at ws = replicate at 0 ++ ws ++ replicate (size - at - length ws) 0

  abbrev pub on_blank : List Command → List (ℕ × ℕ) → Case
  on_blank commands expected = record { cells = blank_array; commands = commands; expected = expected; left = None; stored = as_is }

  -- "A fresh record is Off": before a power-up every other command answers 7.
  abbrev pub off : Case
  off =
      on_blank (Read 0 ∷ Write 0 1 ∷ FrontRead 0 ∷ Digest 0 ∷ ReadLock 0 ∷ Transition 1 7 ∷ [])
      ((0x07, 0) ∷ (0x07, 0) ∷ (0x07, 0) ∷ (0x07, 0) ∷ (0x07, 0) ∷ (0x07, 0) ∷ [])

  -- Request Two, both sides of 0x0F8 and 0x0FC, in the partition of 0x100 bytes that starts at s.
  module _ (s : ℕ) where
    -- a write of the number leaves these words from this address on, and no others
    abbrev pub burns : ℕ → ℕ → List ℕ → Case
    burns a first ws = record {
      cells = blank_array;
      commands = PowerUp ∷ Write (s + a) number ∷ [];
      expected = (0x00, 0) ∷ (0x00, 0) ∷ [];
      left = Some (array_with ((s + first) / 2) ws);
      stored = as_is;
    }

    abbrev pub both_sides : List Case
    both_sides =
        -- A write at 0x0F7 is 4 bytes of data; 0x0F8 to 0x0FF are one granule of 8.
        burns 0xF7 0xF4 (0x7788 ∷ 0x5566 ∷ [])
        ∷ burns 0xF8 0xF8 words
        ∷ burns 0xFB 0xF8 words
        ∷ burns 0xFC 0xF8 words
        ∷ burns 0xFF 0xF8 words
        -- So it is read.
        ∷ record {
          cells = array_with ((s + 0xF8) / 2) words;
          commands = PowerUp ∷ Read (s + 0xF7) ∷ Read (s + 0xF8) ∷ Read (s + 0xFB) ∷ Read (s + 0xFC) ∷ Read (s + 0xFF) ∷ Read (s + 0x100) ∷ [];
          expected = (0x00, 0) ∷ (0x00, 0) ∷ (0x00, number) ∷ (0x00, number) ∷ (0x00, number) ∷ (0x00, number) ∷ (0x00, 0) ∷ [];
          left = None;
          stored = as_is;
        }
        -- One half is not written after the other, nor both (request Three); the word named is the first of the digest (request Five).
        ∷ on_blank (PowerUp ∷ Write (s + 0xF8) 1 ∷ Write (s + 0xFC) 0x100000000 ∷ Write (s + 0xF8) 0x100000001 ∷ [])
        ((0x00, 0) ∷ (0x00, 0) ∷ (0x04, (s + 0xF8) / 2) ∷ (0x04, (s + 0xF8) / 2) ∷ [])
        -- A digest whose low half is zero locks like any other.
        ∷ on_blank (PowerUp ∷ Write (s + 0xF8) 0x100000000 ∷ PowerUp ∷ Write (s + 0xF7) 1 ∷ Write (s + 0xF8) 0x100000001 ∷ [])
        ((0x00, 0) ∷ (0x00, 0) ∷ (0x00, 0) ∷ (0x05, 0) ∷ (0x05, 0) ∷ [])
        ∷ []

  -- Request Three, no second burn, in the granule of 4 bytes at s.
  module _ (s : ℕ) where
    abbrev pub second_burn : List Case
    second_burn =
        -- The same value again, one that clears no bit, and zero: 4, and no cell changes; nor after a power-up.
        record {
          cells = blank_array;
          commands = PowerUp ∷ Write s 0x0F ∷ Write s 0x0F ∷ Write s 0xFF ∷ Write s 0 ∷ PowerUp ∷ Write s 0xFF ∷ [];
          expected = (0x00, 0) ∷ (0x00, 0) ∷ (0x04, s / 2) ∷ (0x04, s / 2) ∷ (0x04, s / 2) ∷ (0x00, 0) ∷ (0x04, s / 2) ∷ [];
          left = Some (array_with (s / 2) (0x0F ∷ []));
          stored = as_is;
        }
        -- The first word is blank, and does not take a value either; the second is named (request Five). The next granule takes one.
        ∷ on_blank (PowerUp ∷ Write s 0x10000 ∷ Write s 0x10001 ∷ Write (s + 4) 1 ∷ []) ((0x00, 0) ∷ (0x00, 0) ∷ (0x04, s / 2 + 1) ∷ (0x00, 0) ∷ [])
        -- A zero in a blank granule answers 0 and changes nothing, so that a value can follow.
        ∷ record {
          cells = blank_array;
          commands = PowerUp ∷ Write s 0 ∷ Write s 0 ∷ [];
          expected = (0x00, 0) ∷ (0x00, 0) ∷ (0x00, 0) ∷ [];
          left = Some blank_array;
          stored = as_is;
        }
        ∷ on_blank (PowerUp ∷ Write s 0 ∷ Write s 5 ∷ Read s ∷ []) ((0x00, 0) ∷ (0x00, 0) ∷ (0x00, 0) ∷ (0x00, 5) ∷ [])
        ∷ []

  -- Request Five, which word, in the granule of 8 bytes at s.
  module _ (s : ℕ) where
    -- with these words stored there, writes are refused at the i-th, counted over the whole array, and no cell changes
    abbrev pub names : List ℕ → ℕ → Case
    names ws i = record {
      cells = array_with (s / 2) ws;
      commands = PowerUp ∷ Write s number ∷ Write (s + 7) 0 ∷ [];
      expected = (0x00, 0) ∷ (0x04, s / 2 + i) ∷ (0x04, s / 2 + i) ∷ [];
      left = Some (array_with (s / 2) ws);
      stored = as_is;
    }

    abbrev pub which_word : List Case
    which_word = names (5 ∷ 0 ∷ 0 ∷ 7 ∷ []) 0 ∷ names (0 ∷ 5 ∷ 0 ∷ 7 ∷ []) 1 ∷ names (0 ∷ 0 ∷ 5 ∷ 7 ∷ []) 2 ∷ names (0 ∷ 0 ∷ 0 ∷ 7 ∷ []) 3 ∷ []

module _ (prims : Primitives) (keys : ℕ → ℕ) where
  -- any keys and digest constants; each C and A is 1, each D and B 3; then the RAW_UNLOCK words
  abbrev pub constants_with : (ℕ → ℕ) → List ℕ
  constants_with stored = listed keys 0 36 ++ replicate 24 1 ++ replicate 24 3 ++ replicate 20 1 ++ replicate 20 3 ++ words_of 8 (stored (prims.hash 7))

  abbrev pub constants : List ℕ
  constants = constants_with as_is

  abbrev pub said : Answer → ℕ × ℕ
  said answer = (code_of answer, value_of answer)

  abbrev pub leaves : Option (List ℕ) → List ℕ → Type 0
  leaves None cells = Unit {0}
  leaves (Some left) cells = cells ≡ left

  -- a chip of so many words with these cells, switched off
  abbrev pub chip_with : (ℕ → ℕ) → ℕ → List ℕ → Machine
  chip_with stored size cells = record { lent = record { cells = cells; copy = replicate size 0; constants = constants_with stored }; session = fresh_session }

  abbrev pub off_chip : ℕ → List ℕ → Machine
  off_chip = chip_with as_is

  -- every case of a table holds on a chip with this map
  abbrev pub HoldOn : Map → ℕ → List Case → Type 0
  HoldOn partitions size [] = Unit {0}
  HoldOn partitions size (c ∷ cs) =
      ((map said (answers prims partitions c.commands (chip_with c.stored size c.cells)) ≡ c.expected)
      × leaves c.left (after prims partitions c.commands (chip_with c.stored size c.cells)).lent.cells)
      × HoldOn partitions size cs
