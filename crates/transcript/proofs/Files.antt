-- Laws of a file's words. The idea: word i is the number of the i-th two bytes, and a loop sets one word after the other.
use Prim.Native.Nat.{ℕ, zero, suc, ◌/◌, ◌%◌, ◌≤◌, ◌<◌}
use mathlib.Core.Path.{◌≡◌, refl, sym, ap, ◌∙◌}
use mathlib.Core.Bool.{true, false}
use mathlib.Core.List.{List, [], ◌∷◌, ◌++◌}
use native.Mathlib.Omega.{arith}
use lib.Dec.{eqb, leb}
use lib.ListN.{length, get_or, drop}
use Rattle.std.specs.Int.{w16, from_le_bytes}
use Rattle.std.specs.Simd.{first_chunks}
use borrow.Author.Tests.{le-leb, lt-leb}
use Rattle.basics.specs.Choice.{when◌then◌else◌}
use Rattle.basics.proofs.Choice.{by_cases, if-true, if-false, if-both}
use Rattle.transcript.specs.Files.{pairs, file_words, lent_words}

pub pairs-length : (bytes : List ℕ) → length (pairs bytes) ≡ length bytes / 2
unfolding pairs
pairs-length [] = refl
pairs-length (low ∷ []) = refl
pairs-length (low ∷ high ∷ bytes) = omega (arith, pairs-length bytes)

-- the file's i-th two bytes as a number are its i-th word
pub pair-chunk : (n : ℕ) (bytes : List ℕ) (i : ℕ) (d : List ℕ) → n ≡ length bytes / 2 → i < n
    → from_le_bytes w16 (get_or (first_chunks 2 n bytes) i d) ≡ get_or (pairs bytes) i 0
unfolding pairs
pair-chunk zero bytes i d e h = absurd (omega arith)
pair-chunk (suc n) [] i d e h = absurd (omega arith)
pair-chunk (suc n) (low ∷ []) i d e h = absurd (omega arith)
pair-chunk (suc n) (low ∷ high ∷ bytes) zero d e h = omega arith
pair-chunk (suc n) (low ∷ high ∷ bytes) (suc i) d e h = pair-chunk n bytes i d (omega arith) (omega arith)

-- ---- how many words a file has, and how large they are

abbrev words_in : ℕ → ℕ
words_in n = when eqb (n % 2) 0 then n / 2 else 0

words-length : (bytes : List ℕ) → length (file_words bytes) ≡ words_in (length bytes)
unfolding file_words
words-length bytes =
    by_cases (eqb (length bytes % 2) 0) (λ t. rw (if-true (pairs bytes) [] t, if-true (length bytes / 2) 0 t) (pairs-length bytes))
    (λ f. rw (if-false (pairs bytes) [] f, if-false (length bytes / 2) 0 f))

pub words-as-many : (bytes others : List ℕ) → length bytes ≡ length others → length (file_words bytes) ≡ length (file_words others)
words-as-many bytes others e = words-length bytes ∙ ap words_in e ∙ sym (words-length others)

pairs_small : (bytes : List ℕ) → ((i : ℕ) → get_or bytes i 0 < 256) → (i : ℕ) → get_or (pairs bytes) i 0 < 65536
unfolding pairs
pairs_small [] h i = omega arith
pairs_small (low ∷ []) h i = omega arith
pairs_small (low ∷ high ∷ bytes) h zero = omega (arith, h 0, h 1)
pairs_small (low ∷ high ∷ bytes) h (suc i) = pairs_small bytes (λ j. h (suc (suc j))) i

pub words_small : (bytes : List ℕ) → ((i : ℕ) → get_or bytes i 0 < 256) → (i : ℕ) → get_or (file_words bytes) i 0 < 65536
unfolding file_words
words_small bytes h i = if-both (λ (ws : List ℕ). get_or ws i 0 < 65536) _ _ _ (λ _. pairs_small bytes h i) (λ _. omega arith)

-- ---- which words a file lends

module _ (space : ℕ) (bytes : List ℕ) where
  pub lent-odd : eqb (length bytes % 2) 0 ≡ false → lent_words space bytes ≡ []
  unfolding lent_words file_words
  lent-odd h = rw (if-false (pairs bytes) [] h) (if-both (λ (ws : List ℕ). ws ≡ []) (leb 0 space) [] [] (λ _. refl) (λ _. refl))

  module _ (even : eqb (length bytes % 2) 0 ≡ true) where
    file-even : file_words bytes ≡ pairs bytes
    unfolding file_words
    file-even = if-true _ _ even

    pub lent-long : space < length bytes / 2 → lent_words space bytes ≡ []
    unfolding lent_words
    lent-long h = rw file-even (if-false _ _ (lt-leb (length (pairs bytes)) space (omega (arith, pairs-length bytes))))

    pub lent_fits : length bytes / 2 ≤ space → lent_words space bytes ≡ pairs bytes
    unfolding lent_words
    lent_fits h = rw file-even (if-true _ _ (le-leb (length (pairs bytes)) space (omega (arith, pairs-length bytes))))

-- ---- what `file_words` ends with

-- the words after a file was lent
abbrev Lent : ℕ → List ℕ → ℕ → List ℕ → List ℕ → Type 0
Lent space bytes n old new = (n ≡ length (lent_words space bytes)) × (new ≡ lent_words space bytes ++ drop n old)

pub none_lent : (space : ℕ) (bytes words : List ℕ) → lent_words space bytes ≡ [] → Lent space bytes 0 words words
none_lent space bytes words e = rw e (refl, refl)
