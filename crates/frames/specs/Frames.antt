-- A frame of 5,120 bytes: going in, a machine and a record of a script; coming back, the machine after its command, with the answer in place of the
-- record. Numbers are little-endian.
--
--   0               map: 2 is Map 2, anything else Map 1
--   1, 2, 3         phase (0 Off, 1 Ready, 2 Inert; 4, 6, 7 Dead with that reason; anything else counts as Off), state, count
--   4 to 7          zero
--   8 to 87         ten sensed digests of 8 bytes
--   88 to 97        ten read locks, nonzero for locked
--   98 to 103       zero
--   104, 106, 110   how many cells, copy words and constant words are lent, 2 bytes each; more than the area has counts as all of it
--   112 to 143      in: a record; out: code, 7 zeros, value of 8 bytes, 16 zeros
--   144 to 2203     cells, at most 1,030 words
--   2204 to 4263    copy, at most 1,030 words
--   4524 to 4883    constants, at most 180 words
--   4884 to 5119    zero
--
-- Every other byte comes back as it was: the map and the lengths, bytes 108 and 109, 4264 to 4523, the constants, and what an area has past what is lent.
use Rattle.std.specs.Prelude.{ℕ, ◌+◌, Bool, not, List, [], ◌∷◌, eqb, ltb, take, drop}
use Rattle.basics.specs.Choice.{when◌then◌else◌}
use Rattle.basics.specs.Range.{listed}
use Rattle.partitions.specs.declared.MapName.{MapName}
use Rattle.partitions.specs.declared.MapName.TheVariants.{Map1, Map2}
use Rattle.partitions.specs.Map.{Map}
use Rattle.partitions.specs.Maps.{map_of}
use Rattle.model.specs.declared.Reason.TheVariants.{BitCleared, DigestFailed, LifeCycleFailed}
use Rattle.model.specs.declared.Phase.{Phase}
use Rattle.model.specs.declared.Phase.TheVariants.{Off, Ready, Inert, Dead}
use Rattle.model.specs.declared.Session.{Session}
use Rattle.model.specs.Session.{entries, reason_code}
use Rattle.model.specs.Answers.{code_of, value_of}
use Rattle.model.specs.Lent.{Lent, Machine}
use Rattle.chip.specs.Chip.{lent_of, machine_of, result_for}
use Rattle.script.specs.declared.Reading.{Reading}
use Rattle.script.specs.declared.Reading.TheVariants.{Record, End, Refused}
use Rattle.script.specs.Records.{byte_at, little_endian_at, refusal_code, next_at}
use Rattle.frames.specs.declared.Stepped.{Stepped}
use Rattle.frames.specs.Bytes.{numbers_at, bytes_of, all_bytes, zeros, ◌from◌put◌}

-- ---- what goes in

unfoldable pub map_in : List ℕ → MapName
map_in frame = when eqb (byte_at frame 0) 2 then Map2 else Map1

unfoldable pub phase_of : ℕ → Phase
phase_of number =
    when eqb number 1 then Ready
    else when eqb number 2 then Inert
    else when eqb number 4 then Dead BitCleared
    else when eqb number 6 then Dead DigestFailed
    else when eqb number 7 then Dead LifeCycleFailed
    else Off

-- the entry i of the read locks
unfoldable pub lock_in : List ℕ → ℕ → Bool
lock_in frame i = not (eqb (byte_at frame (88 + i)) 0)

unfoldable pub session_in : List ℕ → Session
session_in frame =
    record {
      phase = phase_of (byte_at frame 1);
      sensed = numbers_at frame 8 8 entries;
      locks = listed (lock_in frame) 0 entries;
      state = byte_at frame 2;
      count = byte_at frame 3;
    }

-- how many words are lent, by the number at a place, of an area that has `most`
unfoldable pub lent_in : List ℕ → ℕ → ℕ → ℕ
lent_in frame at most = when ltb most (little_endian_at frame at 2) then most else little_endian_at frame at 2

abbrev pub cells_in : List ℕ → List ℕ
cells_in frame = numbers_at frame 144 2 (lent_in frame 104 1030)

abbrev pub copy_in : List ℕ → List ℕ
copy_in frame = numbers_at frame 2204 2 (lent_in frame 106 1030)

abbrev pub constants_in : List ℕ → List ℕ
constants_in frame = numbers_at frame 4524 2 (lent_in frame 110 180)

abbrev pub record_in : List ℕ → List ℕ
record_in frame = take 32 (drop 112 frame)

-- ---- the command, or what the reader says of a record

pub record FrameStep : Type 0 where
  pub machine : Machine
  pub code : ℕ
  pub value : ℕ

-- a refusal leaves the machine as it was; its value is the place, which is 0. Place 0 of 32 bytes is never their end: its clause is never asked.
unfoldable pub step_by : Map → Reading → Machine → FrameStep
step_by map (Record command next) m =
    let r = result_for map command m in
    record { machine = r.machine; code = code_of r.answer; value = value_of r.answer }
step_by map (Refused refusal at) m = record { machine = m; code = refusal_code refusal; value = at }
step_by map End m = record { machine = m; code = 0; value = 0 }

unfoldable pub step_of : Map → List ℕ → Machine → FrameStep
step_of map script m = step_by map (next_at script 0) m

-- what is lent after a step, with what it gave back
abbrev pub step_with : Lent → Stepped → FrameStep
step_with l s = record { machine = machine_of l s.session; code = s.code; value = s.value }

-- ---- what comes back

unfoldable pub phase_number : Phase → ℕ
phase_number Off = 0
phase_number Ready = 1
phase_number Inert = 2
phase_number (Dead reason) = reason_code reason

unfoldable pub lock_byte : Bool → ℕ
lock_byte locked = when locked then 1 else 0

unfoldable pub lock_bytes : List Bool → List ℕ
lock_bytes [] = []
lock_bytes (locked ∷ locks) = lock_byte locked ∷ lock_bytes locks

unfoldable pub with_session : Session → List ℕ → List ℕ
with_session s frame =
    frame
    from 1 put (phase_number s.phase ∷ s.state ∷ s.count ∷ [])
    from 4 put zeros 4
    from 8 put all_bytes 8 s.sensed
    from 88 put lock_bytes s.locks
    from 98 put zeros 6

unfoldable pub with_answer : ℕ → ℕ → List ℕ → List ℕ
with_answer code value frame =
    frame
    from 112 put (code ∷ [])
    from 113 put zeros 7
    from 120 put bytes_of 8 value
    from 128 put zeros 16

unfoldable pub with_memory : List ℕ → List ℕ → List ℕ → List ℕ
with_memory cells copy frame =
    frame
    from 144 put all_bytes 2 cells
    from 2204 put all_bytes 2 copy
    from 4884 put zeros 236

abbrev pub frame_with : FrameStep → List ℕ → List ℕ
frame_with s frame = with_memory s.machine.lent.cells s.machine.lent.copy (with_answer s.code s.value (with_session s.machine.session frame))

-- the frame out, for what is lent beside it
abbrev pub frame_on : Lent → List ℕ → List ℕ
frame_on l frame = frame_with (step_of (map_of (map_in frame)) (record_in frame) (machine_of l (session_in frame))) frame

-- and for what it lends itself: the frame out as a function of the frame in
unfoldable pub frame_after : List ℕ → List ℕ
frame_after frame = frame_on (lent_of (cells_in frame) (copy_in frame) (constants_in frame)) frame
