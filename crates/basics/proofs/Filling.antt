-- A list that a loop fills from the front with the entries of another. The idea: its first i entries are the other's, the rest are still its own.
use mathlib.Core.Path.{◌≡◌, ap}
use mathlib.Core.List.{List, ◌++◌}
use Prim.Native.Nat.{ℕ, suc, ◌+◌, ◌≤◌, ◌<◌}
use native.Mathlib.Numerals.{add-one}
use native.Mathlib.Omega.{arith}
use lib.ListN.{length, get_or, set, take, drop}
use lib.Seq.{take-suc, take_all, drop-cons, append_snoc, set_at, length-take-le}

module _ (old new : List ℕ) (i : ℕ) where
  pub filled_more : i < length old → i < length new → set (take i new ++ drop i old) i (get_or new i 0) ≡ take (i + 1) new ++ drop (i + 1) old
  filled_more h k =
      rw (add-one i, take-suc new i 0 k, append_snoc, drop-cons old i 0 h)
      (set_at (take i new) (get_or old i 0) (drop (suc i) old) (get_or new i 0) i (length-take-le i new (omega arith)))

  pub filled-whole : length new ≤ i → take i new ++ drop i old ≡ new ++ drop i old
  filled-whole h = ap (λ (xs : List ℕ). xs ++ drop i old) (take_all i new h)
