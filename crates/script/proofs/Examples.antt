-- Computed examples beside the laws: the premises are met, and the definitions give the paper's own script and lines.
use mathlib.Core.Path.{◌≡◌, refl}
use mathlib.Core.List.{List, [], ◌∷◌, ◌++◌}
use Prim.Native.Nat.{ℕ, suc, ◌≤◌, ◌<◌}
use native.Mathlib.Omega.{arith}
use lib.ListN.{length, replicate, length-replicate}
use Rattle.basics.specs.Choice.{when◌then◌else◌}
use Rattle.basics.specs.Range.{sum}
use Rattle.model.specs.declared.Command.TheVariants.{Read, Write, Transition, PowerUp}
use Rattle.script.specs.declared.Refusal.TheVariants.{UnknownKind, CutShort, TooLong}
use Rattle.script.specs.declared.Reading.TheVariants.{Record, End, Refused}
use Rattle.script.specs.Records.{unknown, body_length, little_endian_at, command_at, next_at}
use Rattle.script.specs.Lines.{digit_byte, digits, line_of, decimal, end_line}
use Rattle.script.proofs.Records.{IsRead, is_read, too_long, whole-record}

-- "a power-up, a write of 0x12345678 at 0, reads at 0 and 0x328"
abbrev script : List ℕ
script =
    (7 ∷ [])
    ++ (2 ∷ 0 ∷ 0 ∷ 0 ∷ 0 ∷ 0x78 ∷ 0x56 ∷ 0x34 ∷ 0x12 ∷ 0 ∷ 0 ∷ 0 ∷ 0 ∷ [])
    ++ (1 ∷ 0 ∷ 0 ∷ 0 ∷ 0 ∷ [])
    ++ (1 ∷ 0x28 ∷ 0x03 ∷ 0 ∷ 0 ∷ [])

power-up : next_at script 0 ≡ Record PowerUp 1
unfolding next_at unknown body_length command_at little_endian_at sum when◌then◌else◌
power-up = refl

write : next_at script 1 ≡ Record (Write 0 0x12345678) 14
unfolding next_at unknown body_length command_at little_endian_at sum when◌then◌else◌
write = refl

read : next_at script 19 ≡ Record (Read 0x328) 24
unfolding next_at unknown body_length command_at little_endian_at sum when◌then◌else◌
read = refl

-- the last record ends with the script
last : IsRead script 19 (Read 0x328) 24
last = is_read script 19 read

end : next_at script 24 ≡ End
unfolding next_at unknown body_length command_at little_endian_at sum when◌then◌else◌
end = refl

-- a transition to DEV: the lowest byte of the token comes first
transition : next_at (6 ∷ 16 ∷ 1 ∷ 2 ∷ 3 ∷ 4 ∷ 5 ∷ 6 ∷ 7 ∷ 8 ∷ 9 ∷ 10 ∷ 11 ∷ 12 ∷ 13 ∷ 14 ∷ 15 ∷ 16 ∷ []) 0
    ≡ Record (Transition 16 0x100F0E0D0C0B0A090807060504030201) 18
unfolding next_at unknown body_length command_at little_endian_at sum when◌then◌else◌
transition = refl

unknown-kind : next_at (7 ∷ 8 ∷ []) 1 ≡ Refused UnknownKind 1
unfolding next_at unknown body_length command_at little_endian_at sum when◌then◌else◌
unknown-kind = refl

-- one byte of its body is missing
cut : next_at (7 ∷ 5 ∷ []) 1 ≡ Refused CutShort 1
unfolding next_at unknown body_length command_at little_endian_at sum when◌then◌else◌
cut = refl

-- a script of n power-ups, on either side of the limit
abbrev power_ups : ℕ → List ℕ
power_ups n = replicate n 7

longest : (n : ℕ) → suc n ≤ 65536 → next_at (power_ups (suc n)) 0 ≡ Record PowerUp 1
unfolding unknown body_length command_at when◌then◌else◌
longest n h =
    let l : length (power_ups (suc n)) ≡ suc n = length-replicate {A = ℕ} (suc n) 7 in
    whole-record (power_ups (suc n)) 0 (omega arith) (omega arith) refl (omega arith)

longer : (n p : ℕ) → 65536 < n → next_at (power_ups n) p ≡ Refused TooLong 0
longer n p h = too_long (power_ups n) p (omega (arith, length-replicate {A = ℕ} n 7))

-- `01 00 0000000012345678` and `fe 14 00000000000089ab`
line : line_of 0x01 0x00 0x12345678
    ≡ (48 ∷ 49 ∷ 32 ∷ 48 ∷ 48 ∷ 32 ∷ 48 ∷ 48 ∷ 48 ∷ 48 ∷ 48 ∷ 48 ∷ 48 ∷ 48 ∷ 49 ∷ 50 ∷ 51 ∷ 52 ∷ 53 ∷ 54 ∷ 55 ∷ 56 ∷ 10 ∷ [])
unfolding line_of digits digit_byte when◌then◌else◌
line = refl

line-letters : line_of 0xfe 0x14 0x89ab
    ≡ (102 ∷ 101 ∷ 32 ∷ 49 ∷ 52 ∷ 32 ∷ 48 ∷ 48 ∷ 48 ∷ 48 ∷ 48 ∷ 48 ∷ 48 ∷ 48 ∷ 48 ∷ 48 ∷ 48 ∷ 48 ∷ 56 ∷ 57 ∷ 97 ∷ 98 ∷ 10 ∷ [])
unfolding line_of digits digit_byte when◌then◌else◌
line-letters = refl

-- `end 4`, `end 0` and `end 65537`
end-line : end_line 4 ≡ 101 ∷ 110 ∷ 100 ∷ 32 ∷ 52 ∷ 10 ∷ []
unfolding end_line decimal digit_byte when◌then◌else◌
end-line = refl

end_none : end_line 0 ≡ 101 ∷ 110 ∷ 100 ∷ 32 ∷ 48 ∷ 10 ∷ []
unfolding end_line decimal digit_byte when◌then◌else◌
end_none = refl

end-many : end_line 65537 ≡ 101 ∷ 110 ∷ 100 ∷ 32 ∷ 54 ∷ 53 ∷ 53 ∷ 51 ∷ 55 ∷ 10 ∷ []
unfolding end_line decimal digit_byte when◌then◌else◌
end-many = refl
