-- "An answer is a code and a 64-bit value. The value is 0 unless stated."
use Rattle.std.specs.Prelude.{ℕ, Result, Ok, Err}
use Rattle.model.specs.declared.Failure.{Failure}
use Rattle.model.specs.declared.Failure.TheVariants.{NotBlank, Denied, DigestFailed, NotReady, LifeCycleFailed, WrongLength, UnknownTarget}
use Rattle.model.specs.declared.Failure.TheVariants.{InvalidConstants, StrokesUsed, NotInTable, TokenNotLocked, TokenDiffers}

-- a command is done with a value, or it fails
abbrev pub Answer : Type 0
Answer = Result ℕ Failure

-- the table of codes; 7 is given for two reasons, `NotReady` and `LifeCycleFailed`. `NotBlank`, "a programmed bit would be cleared": or would be burnt a
-- second time (request Three).
abbrev pub code_of : Answer → ℕ
code_of (Ok value) = 0x00
code_of (Err (NotBlank cell)) = 0x04
code_of (Err Denied) = 0x05
code_of (Err (DigestFailed partition)) = 0x06
code_of (Err NotReady) = 0x07
code_of (Err (LifeCycleFailed value)) = 0x07
code_of (Err WrongLength) = 0x10
code_of (Err UnknownTarget) = 0x11
code_of (Err InvalidConstants) = 0x12
code_of (Err StrokesUsed) = 0x20
code_of (Err NotInTable) = 0x21
code_of (Err TokenNotLocked) = 0x22
code_of (Err TokenDiffers) = 0x23

-- stated: what is done, the word index at which programming was refused ("each command that answers 4 carries it as the value", request Five),
-- "value: partition" of a 6, and the value of a power-up that found no usable life cycle
abbrev pub value_of : Answer → ℕ
value_of (Ok value) = value
value_of (Err (NotBlank cell)) = cell
value_of (Err Denied) = 0
value_of (Err (DigestFailed partition)) = partition
value_of (Err NotReady) = 0
value_of (Err (LifeCycleFailed value)) = value
value_of (Err WrongLength) = 0
value_of (Err UnknownTarget) = 0
value_of (Err InvalidConstants) = 0
value_of (Err StrokesUsed) = 0
value_of (Err NotInTable) = 0
value_of (Err TokenNotLocked) = 0
value_of (Err TokenDiffers) = 0
