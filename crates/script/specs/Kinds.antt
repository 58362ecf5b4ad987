-- The kinds of records by their numbers: "1 read 4; 2 write 4+8; 3 front read 4; 4 digest 4; 5 read lock 1; 6 transition 1+16; 7 power-up 0".
use Rattle.std.specs.Prelude.{ℕ, ◌≡◌, true, Result, MatchResult}
use Rattle.script.specs.declared.RecordKind.{RecordKind}
use Rattle.script.specs.declared.RecordKind.TheVariants.{Read, Write, FrontRead, Digest, ReadLock, Transition, PowerUp}
use Rattle.script.specs.declared.Refusal.{Refusal}
use Rattle.script.specs.declared.Refusal.TheVariants.{UnknownKind}
use Rattle.script.specs.Records.{unknown}

-- the byte that a record of the kind begins with
abbrev pub number_of_kind : RecordKind → ℕ
number_of_kind Read = 1
number_of_kind Write = 2
number_of_kind FrontRead = 3
number_of_kind Digest = 4
number_of_kind ReadLock = 5
number_of_kind Transition = 6
number_of_kind PowerUp = 7

-- a byte gives the kind with its number, and is refused where no kind has it
abbrev pub GivesKind : ℕ → Result RecordKind Refusal → Type 0
GivesKind byte result = MatchResult result (λ kind. number_of_kind kind ≡ byte) (λ refusal. (refusal ≡ UnknownKind) × (unknown byte ≡ true))
