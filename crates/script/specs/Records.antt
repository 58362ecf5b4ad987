-- Script records (document 01): "A record is one byte of kind, then a body whose length the kind fixes".
use Rattle.std.specs.Prelude.{ℕ, ◌+◌, Bool, ◌||◌, List, eqb, leb, ltb, length, get_or}
use Rattle.basics.specs.Choice.{when◌then◌else◌}
use Rattle.basics.specs.Digits.{number}
use Rattle.model.specs.declared.Command.{Command}
use Rattle.model.specs.declared.Command.TheVariants.{Read, Write, FrontRead, Digest, ReadLock, Transition, PowerUp}
use Rattle.script.specs.declared.Refusal.{Refusal}
use Rattle.script.specs.declared.Refusal.TheVariants.{UnknownKind, CutShort, TooLong}
use Rattle.script.specs.declared.Reading.{Reading}
use Rattle.script.specs.declared.Reading.TheVariants.{Record, End, Refused}

-- "1 read 4; 2 write 4+8; 3 front read 4; 4 digest 4; 5 read lock 1; 6 transition 1+16; 7 power-up 0": each command's kind, and below the
-- length of its body
abbrev pub kind_of : Command → ℕ
kind_of (Read address) = 1
kind_of (Write address value) = 2
kind_of (FrontRead address) = 3
kind_of (Digest address) = 4
kind_of (ReadLock partition) = 5
kind_of (Transition target token) = 6
kind_of PowerUp = 7

-- any other kind
unfoldable pub unknown : ℕ → Bool
unknown kind = eqb kind 0 || ltb 7 kind

-- 7 has no body, and neither has an unknown kind
unfoldable pub body_length : ℕ → ℕ
body_length kind =
    when eqb kind 1 then 4
    else when eqb kind 2 then 4 + 8
    else when eqb kind 3 then 4
    else when eqb kind 4 then 4
    else when eqb kind 5 then 1
    else when eqb kind 6 then 1 + 16
    else 0

-- a byte of the script
abbrev pub byte_at : List ℕ → ℕ → ℕ
byte_at script at = get_or script at 0

-- "All numbers are little-endian": the number of the n bytes from `at` on, the lowest first
unfoldable pub little_endian_at : List ℕ → ℕ → ℕ → ℕ
little_endian_at script at n = number 256 n (λ i. byte_at script (at + i))

-- the command of a known kind (7 where it is none of 1 to 6) whose body stands at `at`
unfoldable pub command_at : List ℕ → ℕ → ℕ → Command
command_at script kind at =
    when eqb kind 1 then Read (little_endian_at script at 4)
    else when eqb kind 2 then Write (little_endian_at script at 4) (little_endian_at script (at + 4) 8)
    else when eqb kind 3 then FrontRead (little_endian_at script at 4)
    else when eqb kind 4 then Digest (little_endian_at script at 4)
    else when eqb kind 5 then ReadLock (byte_at script at)
    else when eqb kind 6 then Transition (byte_at script at) (little_endian_at script (at + 1) 16)
    else PowerUp

-- "0x11 unknown kind", "0x13 script record cut short", "0x14 script longer than 65,536 bytes"
abbrev pub refusal_code : Refusal → ℕ
refusal_code UnknownKind = 0x11
refusal_code CutShort = 0x13
refusal_code TooLong = 0x14

-- "it answers the next record or a refusal with its place. 0x14 comes first, with place 0; a place at or past the end answers the end"
unfoldable pub next_at : List ℕ → ℕ → Reading
next_at script place =
    let kind = byte_at script place in
    let next = place + 1 + body_length kind in
    when ltb 65536 (length script) then Refused TooLong 0
    else when leb (length script) place then End
    else when unknown kind then Refused UnknownKind place
    else when ltb (length script) next then Refused CutShort place
    else Record (command_at script kind (place + 1)) next

-- "a refusal doesn't move the place", and the end doesn't
abbrev pub place_after : Reading → ℕ → ℕ
place_after (Record command next) place = next
place_after End place = place
place_after (Refused refusal at) place = place
