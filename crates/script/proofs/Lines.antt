-- Laws of lines. The idea: with the digits known, a line computes.
use mathlib.Core.Path.{◌≡◌, refl, sym, ap, ◌∙◌}
use mathlib.Core.List.{List, [], ◌∷◌, ◌++◌}
use Prim.Native.Nat.{ℕ, suc, ◌+◌, ◌-◌, ◌^◌, ◌≤◌, ◌<◌}
use native.Mathlib.Omega.{arith}
use lib.ListN.{length, set, take, drop, replicate, length-append, length-replicate, replicate-append-replicate}
use lib.Seq.{take_at, drop_at, set_at, append_snoc, length-take-le}
use borrow.Rule.Slice.PartMut.{put_mid}
use Rattle.script.specs.Lines.{digits, decimal, end_line}
use Rattle.script.proofs.Decimal.{decimal-short, decimal-digits}

pub end-length : (x : ℕ) → length (end_line x) ≡ 5 + length (decimal 20 x)
unfolding end_line
end-length x = rw length-append (omega arith)

abbrev pub zeros : ℕ → List ℕ
zeros n = replicate n 0

zeros-left : (n k : ℕ) → drop n (zeros (n + k)) ≡ zeros k
zeros-left n k = rw (← replicate-append-replicate {A = ℕ} n k 0) (drop_at (zeros n) (zeros k) n (length-replicate n 0))

-- the end line in 25 bytes, zeros behind it
abbrev pub padded : ℕ → List ℕ
padded x = end_line x ++ zeros (25 - length (end_line x))

-- what the code makes of a buffer of zeros: `end ` is copied to its start, the digits over the part behind that, and the newline is stored behind the digits
pub end-written : (n x : ℕ) (copied part : List ℕ) → x < 10 ^ 20 → n ≡ length (decimal 20 x) → copied ≡ 101 ∷ 110 ∷ 100 ∷ 32 ∷ []
    → part ≡ digits 10 (length (take (4 + n - 4) (drop 4 (copied ++ zeros 21)))) x
    → set (put_mid 4 (4 + n - 4) (copied ++ zeros 21) part) (4 + n) 10 ≡ padded x
unfolding end_line
end-written n x copied part l e c p =
    let h : n ≤ 20 = rw e (decimal-short 20 x) in
    let q : 4 + n - 4 ≡ n = omega arith in
    let w : length (take n (zeros 21)) ≡ n = length-take-le n (zeros 21) (omega arith) in
    let k : 21 ≡ n + suc (20 - n) = omega arith in
    let m : 25 - length (end_line x) ≡ 20 - n = omega (arith, end-length x) in
    let d : digits 10 n x ≡ decimal 20 x = rw e (sym (decimal-digits 20 x l)) in
    let z : drop n (zeros 21) ≡ zeros (suc (20 - n)) = ap (λ (j : ℕ). drop n (zeros j)) k ∙ zeros-left n (suc (20 - n)) in
    let start : List ℕ = 101 ∷ 110 ∷ 100 ∷ 32 ∷ decimal 20 x in
    let at : length start ≡ 4 + n = omega arith in
    let rest = zeros (20 - n) in
    rw (p, c, q, w, d, z, m)
    (set_at start 0 rest 10 (4 + n) at ∙ ap (λ (ys : List ℕ). 101 ∷ 110 ∷ 100 ∷ 32 ∷ ys) (sym (append_snoc (decimal 20 x) 10 rest)))

-- the front of these bytes is the end line, and they are the front and zeros
module _ (m x : ℕ) (bytes : List ℕ) (e : m ≡ length (end_line x)) (w : bytes ≡ padded x) where
  pub end-front : take m bytes ≡ end_line x
  end-front = rw (w, e) (take_at (end_line x) (zeros (25 - length (end_line x))) (length (end_line x)) refl)

  pub end-whole : (m ≤ 25) × (length bytes ≡ 25) × (take m bytes ++ zeros (25 - m) ≡ bytes)
  end-whole =
      let long : length (end_line x) ≤ 25 = omega (arith, end-length x, decimal-short 20 x) in
      let all : length (padded x) ≡ 25 = rw (length-append, length-replicate) (omega arith) in
      (omega arith, ap length w ∙ all, rw end-front (rw (e, w)))
