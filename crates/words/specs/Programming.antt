-- Programming (document 01): "A multi-word value is refused with 4 if any stored bit is 1 where the value has 0. Otherwise the words become
-- the value. All words are tested before one changes." Request Three puts a second rule of refusal beside this one: "if any word .. is nonzero,
-- whatever the value". Request Five: "Programming now answers the lowest word index, counted over the whole array, at which it was refused".
use Rattle.std.specs.Prelude.{ℕ, suc, ◌+◌, ◌-◌, ◌≤◌, ◌<◌, ◌≡◌, Bool, true, false, not, ◌&&◌, List, [], ◌∷◌, eqb, length, get_or, Result, Ok, Err, ⊤}
use Rattle.std.proofs.lemmas.List.Edits.{sets}
use Rattle.basics.specs.Choice.{when◌then◌else◌}
use Rattle.basics.specs.Range.{any_below}
use Rattle.basics.specs.Digits.{bit}
use Rattle.words.specs.declared.Rule.{Rule}
use Rattle.words.specs.declared.Rule.TheVariants.{KeepBits, BlankOnly}

-- some bit of the 16 is 1 in a and 0 in b
unfoldable pub loses_bit : ℕ → ℕ → Bool
loses_bit a b = any_below 16 (λ i. eqb (bit a i) 1 && eqb (bit b i) 0)

-- the two rules of refusal, for one word: "any stored bit is 1 where the value has 0", and "nonzero, whatever the value"
unfoldable pub refuses : Rule → ℕ → ℕ → Bool
refuses KeepBits stored value = loses_bit stored value
refuses BlankOnly stored value = not (eqb stored 0)

-- all words of the value are tested, from the cell `at` on; the lowest that refuses is named
unfoldable pub program_answer : Rule → List ℕ → ℕ → List ℕ → Result ⊤ ℕ
program_answer rule cells at [] = Ok tt
program_answer rule cells at (v ∷ vs) = when refuses rule (get_or cells at 0) v then Err at else program_answer rule cells (suc at) vs

-- the words become the value, or none changes
unfoldable pub stored : Result ⊤ ℕ → List ℕ → ℕ → List ℕ → List ℕ
stored (Ok done) cells at value = sets cells at value
stored (Err i) cells at value = cells

unfoldable pub program_cells : Rule → List ℕ → ℕ → List ℕ → List ℕ
program_cells rule cells at value = stored (program_answer rule cells at value) cells at value

-- "the lowest word index": the word i is one of those that are to become the value, it refuses its word of the value, and every lower one does not
pub record Lowest (rule : Rule) (cells : List ℕ) (at : ℕ) (value : List ℕ) (i : ℕ) : Type 0 where
  pub from : at ≤ i
  pub to : i < at + length value
  pub refusing : refuses rule (get_or cells i 0) (get_or value (i - at) 0) ≡ true
  pub lower : (j : ℕ) → at ≤ j → j < i → refuses rule (get_or cells j 0) (get_or value (j - at) 0) ≡ false

-- every bit that is 1 in the cells c is 1 in the cells d
pub record Kept (c d : List ℕ) : Type 0 where
  pub bits : (j i : ℕ) → i < 16 → bit (get_or c j 0) i ≤ bit (get_or d j 0) i
