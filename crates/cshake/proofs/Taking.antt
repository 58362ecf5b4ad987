-- What the sponge takes in pieces it takes whole. The idea: the pieces of an encoding, put together, are the encoding.
use mathlib.Core.Path.{◌≡◌, sym, ap, ◌∙◌}
use mathlib.Core.List.{List, [], ◌∷◌, ◌++◌, append_assoc}
use Prim.Native.Nat.{ℕ, ◌+◌, ◌*◌, ◌-◌, ◌/◌, ◌%◌, ◌^◌, ◌≤◌, ◌<◌}
use native.Mathlib.Numerals.{add-one}
use native.Mathlib.Omega.{arith}
use lib.Count.{count_leading_zeros}
use lib.Dec.{eqb}
use lib.ListN.{length, take, drop}
use borrow.Author.Tests.{eqb-true, eqb-false}
use Rattle.std.specs.Int.{w64, to_be_bytes}
use Rattle.std.specs.Int.Count.{leading_of_zero}
use Rattle.std.proofs.lemmas.Nat.{leading_le}
use Rattle.basics.proofs.Choice.{by_cases}
use Rattle.basics.specs.Range.{listed}
use Rattle.sponge.specs.declared.Sponge.{Sponge}
use Rattle.sponge.specs.Streaming.{fresh, taken, taken_all, filled}
use Rattle.sponge.proofs.Streams.{taken_all-append, filled_is}
use Rattle.cshake.specs.Encoding.{byte_count, left_encode, encode_string, bytepad}
use Rattle.cshake.proofs.Encoding.{bytes_down, count-zeros, bytes-behind, encode-small, encode-more}

-- ---- pieces that are taken one after another

nothing : {r : Sponge} → r ≡ fresh → r ≡ taken_all fresh []
unfolding taken_all
nothing e = e

one : (s : Sponge) (b : ℕ) {r : Sponge} → r ≡ taken s b → r ≡ taken_all s (b ∷ [])
unfolding taken_all
one s b e = e

pub then-all : (s : Sponge) (xs ys : List ℕ) {t r : Sponge} → t ≡ taken_all s xs → r ≡ taken_all t ys → r ≡ taken_all s (xs ++ ys)
then-all s xs ys e f = f ∙ ap (λ (t : Sponge). taken_all t ys) e ∙ sym (taken_all-append s xs ys)

then_one : (s : Sponge) (xs : List ℕ) (b : ℕ) {t r : Sponge} → t ≡ taken_all s xs → r ≡ taken t b → r ≡ taken_all s (xs ++ (b ∷ []))
then_one s xs b {t = t} e f = then-all s xs (b ∷ []) e (one t b f)

pub all-taken : (xs : List ℕ) {t r : Sponge} → t ≡ fresh → r ≡ taken_all t xs → r ≡ taken_all fresh xs
all-taken xs e = then-all fresh [] xs (nothing e)

-- left_encode of a byte, and of more
module _ (s : Sponge) (high low : ℕ) (fits : low < 256) where
  number_small : high ≡ 0 → {t r : Sponge} → t ≡ taken s 1 → r ≡ taken t low → r ≡ taken_all s (left_encode (256 * high + low))
  number_small h count byte =
      let e : low ≡ 256 * high + low = omega arith in
      then_one s _ low (one s 1 count) byte ∙ sym (ap (taken_all s) (encode-small low fits)) ∙ ap (λ (x : ℕ). taken_all s (left_encode x)) e

  number_more : (n : ℕ) → 0 < high → n ≡ byte_count high
      → {t u r : Sponge} → t ≡ taken s (n + 1) → u ≡ taken_all t (bytes_down high n) → r ≡ taken u low → r ≡ taken_all s (left_encode (256 * high + low))
  number_more n h e count bytes byte =
      then_one s _ low (then-all s _ (bytes_down high n) (one s (n + 1) count) bytes) byte
      ∙ rw (add-one n, e) (sym (ap (taken_all s) (encode-more high low h fits)))

  -- the bytes of the high part without the zeros in front, and the low byte
  pub number-taken : high < 2 ^ 64 → {bytes : List ℕ} → bytes ≡ to_be_bytes w64 high → {t u r : Sponge}
      → t ≡ taken s (9 - count_leading_zeros 64 high / 8)
      → u ≡ taken_all t (take (8 - count_leading_zeros 64 high / 8) (drop (count_leading_zeros 64 high / 8) bytes))
      → r ≡ taken u low → r ≡ taken_all s (left_encode (256 * high + low))
  unfolding taken_all listed
  number-taken h {bytes} e {t} {u} {r} count high-bytes byte =
      by_cases (eqb high 0) (λ z. none (eqb-true _ _ z))
      (λ z. number_more n (omega (arith, eqb-false high 0 z)) (some (omega (arith, eqb-false high 0 z))) first rest byte)
    where
      zeros : ℕ
      zeros = count_leading_zeros 64 high / 8

      n : ℕ
      n = 8 - zeros

      within : zeros ≤ 8
      within = omega (arith, leading_le 64 high)

      some : 0 < high → n ≡ byte_count high
      some l = count-zeros high l h

      first : t ≡ taken s (n + 1)
      first = let more : 9 - zeros ≡ n + 1 = omega (arith, within) in count ∙ ap (taken s) more

      rest : u ≡ taken_all t (bytes_down high n)
      rest = high-bytes ∙ ap (λ (bs : List ℕ). taken_all t (take n (drop zeros bs))) e ∙ ap (taken_all t) (bytes-behind high zeros within)

      none : high ≡ 0 → r ≡ taken_all s (left_encode (256 * high + low))
      none z =
          let all : count_leading_zeros 64 high ≡ 64 = ap (count_leading_zeros 64) z ∙ leading_of_zero 64 in
          let no : n ≡ 0 = omega arith in
          number_small z (first ∙ ap (λ (k : ℕ). taken s (k + 1)) no)
          (byte ∙ ap (λ (v : Sponge). taken v low) (rest ∙ ap (λ (k : ℕ). taken_all t (bytes_down high k)) no))

-- encode_string
pub string-taken : (s : Sponge) (text : List ℕ) {t r : Sponge} → t ≡ taken_all s (left_encode (256 * (length text / 32) + length text % 32 * 8))
    → r ≡ taken_all t text → r ≡ taken_all s (encode_string text)
unfolding encode_string
string-taken s text size bytes =
    let bits : 256 * (length text / 32) + length text % 32 * 8 ≡ 8 * length text = omega arith in
    then-all s _ text size bytes ∙ ap (λ (x : ℕ). taken_all s (left_encode x ++ text)) bits

-- bytepad
encode-some : (x : ℕ) (ys : List ℕ) → 0 < length (left_encode x ++ ys)
unfolding left_encode
encode-some x ys = omega arith

pub prefix-taken : (xs ys : List ℕ) {t u v w r : Sponge} → t ≡ fresh → u ≡ taken_all t (left_encode 168) → v ≡ taken_all u xs → w ≡ taken_all v ys
    → r ≡ filled w → r ≡ taken_all fresh (bytepad (xs ++ ys) 168)
unfolding bytepad
prefix-taken xs ys start width first second full =
    let two = then-all fresh (left_encode 168) xs (all-taken (left_encode 168) start width) first in
    let whole = then-all fresh (left_encode 168 ++ xs) ys two second ∙ ap (taken_all fresh) (append_assoc (left_encode 168) xs ys) in
    full ∙ ap filled whole ∙ filled_is (left_encode 168 ++ (xs ++ ys)) (encode-some 168 (xs ++ ys))
