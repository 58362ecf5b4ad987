-- Tokens: the hash that was written, scrambled, and locked is what the hash of a given token is compared with.
use Rattle.std.specs.Prelude.{ℕ, ◌+◌, ◌*◌, ◌/◌, ◌^◌, ◌≤◌, ◌<◌, ◌≡◌, Bool, true, List, ◌∷◌, ◌++◌, ◌↔◌}
use Rattle.words.specs.Words.{words_of, part_at}
use Rattle.partitions.specs.declared.Kind.{Kind}
use Rattle.partitions.specs.Map.{Map, partition, number_of_kind}
use Rattle.life_cycle.specs.declared.Token.{Token}
use Rattle.life_cycle.specs.declared.Token.TheVariants.{TestUnlock, TestExit, Rma}
use Rattle.model.specs.declared.Command.{Command}
use Rattle.model.specs.declared.Command.TheVariants.{PowerUp}
use Rattle.model.specs.Session.{is_ready}
use Rattle.model.specs.Lent.{Machine, Primitives}
use Rattle.model.specs.Step.{after}
use Rattle.model.specs.Claims.Terms.{ValidInputs, NoPowerUp}
use Rattle.model.specs.Claims.Numbers.{Agrees, eight_from, digest_in}
use Rattle.model.specs.Claims.Transitions.{Compared}
use Rattle.partitions.specs.declared.Kind.TheVariants as kind

-- the secret that stores a token, where its key begins among the constants, and at which word of the partition the hash begins
pub data TokenAt : Token → Kind → ℕ → ℕ → Type 0 where
  test_unlock : TokenAt TestUnlock kind.Secret0 0 0
  test_exit : TokenAt TestExit kind.Secret0 0 8
  rma : TokenAt Rma kind.Secret2 16 0

module _ (prims : Primitives) (map : Map) where
  -- cells that hold a hash in two halves of 64 bits, as two writes store them, in a partition whose stored digest is not zero
  pub record HashStored (constants cells : List ℕ) (k : Kind) (first offset low high : ℕ) : Type 0 where
    pub digest : digest_in map (number_of_kind map k) cells ≡ 0 → ⊥
    pub low_half : part_at cells ((partition map (number_of_kind map k)).start / 2 + offset) 4 ≡ words_of 4 (prims.encrypt (eight_from constants first) low)
    pub high_half : part_at cells ((partition map (number_of_kind map k)).start / 2 + offset + 4) 4
        ≡ words_of 4 (prims.encrypt (eight_from constants first) high)

  pub record Tokens : Type 0 where
    -- on every fit map the sixteen bytes of a stored token are data of a partition of that kind
    pub places : {token : Token} {k : Kind} {first offset : ℕ} → TokenAt token k first offset
        → let p = partition map (number_of_kind map k) in
        (p.kind ≡ k) × (p.start / 2 + offset + 8 ≤ p.digest / 2)
    -- "The stored token is that in the sensed copy"; "hashes it .. The hash is compared" (request Four): where a power-up found it so, every comparison until
    -- the next is with this hash of 128 bits
    pub compared : (m : Machine) → ValidInputs map m → (l₀ l₁ : List Command) → NoPowerUp l₁
        → let c₀ = (after prims map l₀ m).lent.cells in
        let m₁ = after prims map (l₀ ++ PowerUp ∷ l₁) m in
        is_ready m₁.session.phase ≡ true → (token : Token) (k : Kind) (first offset low high : ℕ) → TokenAt token k first offset → low < 2 ^ 64
        → high < 2 ^ 64
        → HashStored m.lent.constants c₀ k first offset low high
        → (given : ℕ) (same : Bool) → Compared prims map m₁ given same token ↔ Agrees (prims.hash given) (high * 2 ^ 64 + low) same
