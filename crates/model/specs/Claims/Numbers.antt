-- Terms of the claims in the papers' own numbers: kinds by name, places among the constants, and what a granule shows.
use Rattle.std.specs.Prelude.{ℕ, ◌+◌, ◌*◌, ◌-◌, ◌/◌, ◌≤◌, ◌<◌, ◌≡◌, Bool, true, false, List, length, get_or}
use Rattle.basics.specs.Digits.{bit}
use Rattle.words.specs.Words.{number_of, part_at}
use Rattle.partitions.specs.declared.Kind.{Kind}
use Rattle.partitions.specs.Map.{Map, partition, partition_at}
use Rattle.model.specs.Lent.{Primitives}
use Rattle.partitions.specs.declared.Kind.TheVariants as kind

-- "0 to 23 keys of SECRET0, 1, 2": where the eight words of a secret's key begin
pub data KeyAt : Kind → ℕ → Type 0 where
  secret0 : KeyAt kind.Secret0 0
  secret1 : KeyAt kind.Secret1 8
  secret2 : KeyAt kind.Secret2 16

-- the kinds with direct access whose data are plain
pub data Plain : Kind → Type 0 where
  software : Plain kind.Software
  auth_state : Plain kind.AuthState
  hw_cfg : Plain kind.HwCfg

-- "2 to 5 are buffered with a hardware digest", HW_CFG and the secrets
pub data Hardware : Kind → Type 0 where
  hw_cfg : Hardware kind.HwCfg
  secret0 : Hardware kind.Secret0
  secret1 : Hardware kind.Secret1
  secret2 : Hardware kind.Secret2

-- the others with direct access have a read lock
pub data Lockable : Kind → Type 0 where
  software : Lockable kind.Software
  auth_state : Lockable kind.AuthState

-- of so many cells from a place on, i is the lowest that is not zero
pub record LowestBurnt (cells : List ℕ) (at count i : ℕ) : Type 0 where
  pub from : at ≤ i
  pub to : i < at + count
  pub burnt : get_or cells i 0 ≡ 0 → ⊥
  pub lower : (j : ℕ) → at ≤ j → j < i → get_or cells j 0 ≡ 0

-- some bit of the 16 is 1 in a and 0 in b
pub record Clears (a b : ℕ) : Type 0 where
  pub place : ℕ
  pub within : place < 16
  pub one : bit a place ≡ 1
  pub zero : bit b place ≡ 0

-- with these words for the cells from a place on, i is the lowest cell whose bit would be cleared
pub record LowestCleared (cells : List ℕ) (at : ℕ) (words : List ℕ) (i : ℕ) : Type 0 where
  pub from : at ≤ i
  pub to : i < at + length words
  pub clears : Clears (get_or cells i 0) (get_or words (i - at) 0)
  pub lower : (j : ℕ) → at ≤ j → j < i → Clears (get_or cells j 0) (get_or words (j - at) 0) → ⊥

-- whether two numbers are equal
abbrev pub Agrees : ℕ → ℕ → Bool → Type 0
Agrees x y true = x ≡ y
Agrees x y false = x ≡ y → ⊥

-- the number of 128 bits in eight words
abbrev pub eight_from : List ℕ → ℕ → ℕ
eight_from words first = number_of (part_at words first 8)

-- a stored digest: four words
abbrev pub digest_in : Map → ℕ → List ℕ → ℕ
digest_in map n cells = number_of (part_at cells ((partition map n).digest / 2) 4)

module _ (prims : Primitives) (map : Map) (constants : List ℕ) where
  -- "24 to 27 digest start value; 28 to 35 digest final key", "over the stored data words", from the partition's start up to its digest
  abbrev pub digest_of : ℕ → List ℕ → ℕ
  digest_of n cells =
      let p = partition map n in
      prims.digest (number_of (part_at constants 24 4)) (eight_from constants 28) (part_at cells (p.start / 2) (p.digest / 2 - p.start / 2))

  -- what a read of the address shows: a digest, plain; secret data unscrambled, in blocks of 8 bytes; other data in granules of 4 bytes
  pub data Shown (cells : List ℕ) (a : ℕ) : ℕ → Type 0 where
    digest : (partition_at map a).digest ≤ a → Shown cells a (number_of (part_at cells ((partition_at map a).digest / 2) 4))
    secret : {first : ℕ} → a < (partition_at map a).digest → KeyAt (partition_at map a).kind first
        → Shown cells a (prims.decrypt (eight_from constants first) (number_of (part_at cells (a / 8 * 4) 4)))
    plain : a < (partition_at map a).digest → Plain (partition_at map a).kind → Shown cells a (number_of (part_at cells (a / 4 * 2) 2))
