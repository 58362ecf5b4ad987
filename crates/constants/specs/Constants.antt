-- What the constants hold, word by word, and when they are valid: "Constants: exactly 132 words. 0 to 23 keys of SECRET0, 1, 2; 24 to 27 digest start value;
-- 28 to 35 digest final key; 36 to 59 C0..C23; 60 to 83 D0..D23; 84 to 103 A0..A19; 104 to 123 B0..B19; 124 to 131 hashed RAW_UNLOCK token."
use Rattle.std.specs.Prelude.{ℕ, ◌+◌, Bool, not, ◌&&◌, List, eqb, get_or}
use Rattle.basics.specs.Range.{all_below}
use Rattle.words.specs.Words.{number_of, part_at}
use Rattle.words.specs.Programming.{loses_bit}
use Rattle.partitions.specs.declared.Kind.{Kind}
use Rattle.partitions.specs.declared.Kind.TheVariants.{Software, AuthState, HwCfg, Secret0, Secret1, Secret2, LifeCycle}

abbrev pub constant_count : ℕ
constant_count = 132

-- only the secrets are scrambled: the key of another kind is never asked for
unfoldable pub key_of : List ℕ → Kind → ℕ
key_of constants Secret0 = number_of (part_at constants 0 8)
key_of constants Secret1 = number_of (part_at constants 8 8)
key_of constants Secret2 = number_of (part_at constants 16 8)
key_of constants Software = 0
key_of constants AuthState = 0
key_of constants HwCfg = 0
key_of constants LifeCycle = 0

unfoldable pub digest_start : List ℕ → ℕ
digest_start constants = number_of (part_at constants 24 4)

unfoldable pub digest_final : List ℕ → ℕ
digest_final constants = number_of (part_at constants 28 8)

abbrev pub const_c : List ℕ → ℕ → ℕ
const_c constants i = get_or constants (36 + i) 0

abbrev pub const_d : List ℕ → ℕ → ℕ
const_d constants i = get_or constants (60 + i) 0

abbrev pub const_a : List ℕ → ℕ → ℕ
const_a constants i = get_or constants (84 + i) 0

abbrev pub const_b : List ℕ → ℕ → ℕ
const_b constants i = get_or constants (104 + i) 0

unfoldable pub raw_unlock_hash : List ℕ → ℕ
raw_unlock_hash constants = number_of (part_at constants 124 8)

-- "Valid when each C is nonzero, differs from its D and has no bit that its D lacks; the same for A and B."
unfoldable pub pair_valid : ℕ → ℕ → Bool
pair_valid c d = not (eqb c 0) && not (eqb c d) && not (loses_bit c d)

unfoldable pub valid_constants : List ℕ → Bool
valid_constants constants =
    all_below 24 (λ i. pair_valid (const_c constants i) (const_d constants i)) && all_below 20 (λ i. pair_valid (const_a constants i) (const_b constants i))
