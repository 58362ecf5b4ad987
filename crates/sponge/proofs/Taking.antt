-- Bytes taken one after another. The idea: induction over the bytes taken first.
use mathlib.Core.Path.{◌≡◌, refl}
use mathlib.Core.List.{List, [], ◌∷◌, ◌++◌}
use Prim.Native.Nat.{ℕ, ◌+◌, ◌≤◌, ◌<◌}
use native.Mathlib.Numerals.{add-one}
use lib.ListN.{length, get_or, drop, drop_of_length-le}
use lib.Seq.{drop-cons}
use Rattle.sponge.specs.declared.Sponge.{Sponge}
use Rattle.sponge.specs.Streaming.{taken, taken_all}

-- byte i, and then those after it
pub take_next : (s : Sponge) (bytes : List ℕ) (i : ℕ) {t : Sponge} → i < length bytes → t ≡ taken s (get_or bytes i 0)
    → taken_all s (drop i bytes) ≡ taken_all t (drop (i + 1) bytes)
unfolding taken_all
take_next s bytes i {t} h e = rw (add-one i, drop-cons bytes i 0 h, e)

pub take_none : (s : Sponge) (bytes : List ℕ) (i : ℕ) → length bytes ≤ i → taken_all s (drop i bytes) ≡ s
unfolding taken_all
take_none s bytes i h = rw (drop_of_length-le bytes {i = i} h)

pub taken_all-append : (s : Sponge) (xs ys : List ℕ) → taken_all s (xs ++ ys) ≡ taken_all (taken_all s xs) ys
unfolding taken_all
taken_all-append s [] ys = refl
taken_all-append s (x ∷ xs) ys = taken_all-append (taken s x) xs ys
