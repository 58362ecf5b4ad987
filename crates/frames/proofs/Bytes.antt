-- Laws of numbers in bytes. The idea: what the library says of its bytes of a number is said byte by byte, as the definitions say it.
use Prim.Native.Nat.{ℕ, zero, suc, ◌+◌, ◌*◌, ◌<◌}
use mathlib.Core.Path.{◌≡◌, refl, ap, ap₂, sym, ◌∙◌}
use mathlib.Core.List.{List, [], ◌∷◌, ◌++◌, append_assoc, append-nil}
use native.Mathlib.Nat.{mul-suc}
use native.Mathlib.Numerals.{add-one}
use native.Mathlib.Omega.{arith}
use lib.ListN.{length, get_or, take, drop, length-append}
use lib.Seq.{take-suc, take_at, drop_at, drop-drop, length-take-le}
use Rattle.std.specs.Int.{Width, to_le_bytes, byte_len, bytes_low_first}
use Rattle.std.specs.Int.{byte_at as low_byte_at}
use Rattle.std.specs.List.{flat_map}
use Rattle.basics.specs.Range.{listed}
use Rattle.basics.specs.Digits.{digit}
use Rattle.basics.proofs.Range.{length-listed}
use Rattle.frames.specs.Bytes.{bytes_of, all_bytes}

-- ---- the bytes of a number

low_byte : (i x : ℕ) → low_byte_at i x ≡ digit 256 x i
low_byte zero x = omega arith
low_byte (suc i) x = refl

low-first : (x i k : ℕ) → bytes_low_first i k x ≡ listed (digit 256 x) i k
unfolding listed
low-first x i zero = refl
low-first x i (suc k) = ap₂ (λ (b : ℕ) (l : List ℕ). b ∷ l) (low_byte i x) (low-first x (suc i) k)

pub written : (w : Width) (x : ℕ) → to_le_bytes w x ≡ bytes_of (byte_len w) x
unfolding bytes_of
written w x = low-first x 0 (byte_len w)

pub bytes-length : (width x : ℕ) → length (bytes_of width x) ≡ width
unfolding bytes_of
bytes-length width x = length-listed (digit 256 x) 0 width

-- ---- those of numbers

pub all-length : (width : ℕ) (xs : List ℕ) → length (all_bytes width xs) ≡ width * length xs
unfolding all_bytes
all-length width [] = omega arith
all-length width (x ∷ xs) =
    omega (arith, length-append (bytes_of width x) (all_bytes width xs), bytes-length width x, all-length width xs, mul-suc width (length xs))

all_append : (width : ℕ) (xs ys : List ℕ) → all_bytes width (xs ++ ys) ≡ all_bytes width xs ++ all_bytes width ys
unfolding all_bytes
all_append width [] ys = refl
all_append width (x ∷ xs) ys =
    ap (λ (l : List ℕ). bytes_of width x ++ l) (all_append width xs ys) ∙ sym (append_assoc (bytes_of width x) (all_bytes width xs) (all_bytes width ys))

-- a list of the bytes of each number, in one piece
pub flattened : (xs : List ℕ) (ys : List (List ℕ)) → length ys ≡ length xs → ((i : ℕ) → i < length xs → get_or ys i [] ≡ bytes_of 8 (get_or xs i 0))
    → flat_map (λ x. x) ys ≡ all_bytes 8 xs
unfolding all_bytes
flattened [] [] e h = refl
flattened [] (y ∷ ys) e h = absurd (omega arith)
flattened (x ∷ xs) [] e h = absurd (omega arith)
flattened (x ∷ xs) (y ∷ ys) e h = ap₂ (λ (a b : List ℕ). a ++ b) (h 0 (omega arith)) (flattened xs ys (omega arith) (λ i l. h (suc i) (omega arith)))

-- a loop stores the two bytes of a word after those of the words before it
module _ (old words : List ℕ) (i : ℕ) (size : length old ≡ 2 * length words) where
  abbrev Stored : ℕ → List ℕ
  Stored n = all_bytes 2 (take n words) ++ drop (2 * n) old

  pub stored-more : i < length words → (part : List ℕ) → part ≡ bytes_of 2 (get_or words i 0)
      → take (2 * i) (Stored i) ++ (part ++ drop 2 (drop (2 * i) (Stored i))) ≡ Stored (i + 1)
  unfolding all_bytes
  stored-more h part e =
      let a = all_bytes 2 (take i words) in
      let b = bytes_of 2 (get_or words i 0) in
      let f : length a ≡ 2 * i = omega (arith, all-length 2 (take i words), length-take-le i words (omega arith)) in
      let n : 2 * (i + 1) ≡ 2 * i + 2 = omega arith in
      let one : all_bytes 2 (take (i + 1) words) ≡ a ++ b =
      rw (add-one i, take-suc words i 0 h, all_append 2 (take i words) (get_or words i 0 ∷ []), append-nil b) refl in
      rw (take_at a (drop (2 * i) old) (2 * i) f, drop_at a (drop (2 * i) old) (2 * i) f, drop-drop 2 (2 * i) old, e, one, n)
      (sym (append_assoc a b (drop (2 * i + 2) old)))
