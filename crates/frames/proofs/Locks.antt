-- Laws of the bytes of read locks.
use Prim.Native.Nat.{ℕ, suc, ◌<◌}
use mathlib.Core.Path.{◌≡◌, refl, ap, ap₂, ◌∙◌}
use mathlib.Core.Bool.{Bool, true, false}
use mathlib.Core.List.{List, [], ◌∷◌}
use native.Mathlib.Omega.{arith}
use lib.ListN.{length, get_or}
use Rattle.std.specs.Int.{from_bool}
use Rattle.basics.specs.Choice.{when◌then◌else◌}
use Rattle.frames.specs.Frames.{lock_byte, lock_bytes}

pub locks-length : (locks : List Bool) → length (lock_bytes locks) ≡ length locks
unfolding lock_bytes
locks-length [] = refl
locks-length (locked ∷ locks) = ap suc (locks-length locks)

-- the library's number of a bool is the byte
library_byte : (locked : Bool) → from_bool locked ≡ lock_byte locked
unfolding lock_byte when◌then◌else◌
library_byte true = refl
library_byte false = refl

pub is_lock-bytes : (locks : List Bool) (bytes : List ℕ) → length bytes ≡ length locks
    → ((i : ℕ) → i < length locks → get_or bytes i 0 ≡ from_bool (get_or locks i false)) → bytes ≡ lock_bytes locks
unfolding lock_bytes
is_lock-bytes [] [] e h = refl
is_lock-bytes [] (byte ∷ bytes) e h = absurd (omega arith)
is_lock-bytes (locked ∷ locks) [] e h = absurd (omega arith)
is_lock-bytes (locked ∷ locks) (byte ∷ bytes) e h =
    ap₂ (λ (b : ℕ) (l : List ℕ). b ∷ l) (h 0 (omega arith) ∙ library_byte locked) (is_lock-bytes locks bytes (omega arith) (λ i l. h (suc i) (omega arith)))
