-- Tokens, from the write of a hash to its comparison. The idea: the copy holds each block of the secret unscrambled, and unscrambling undoes the scrambling of
-- the write; so the eight words are the two halves.
use mathlib.Core.Path.{◌≡◌, refl, sym, ap, ap₂, subst, ◌∙◌}
use mathlib.Core.Bool.{Bool, true}
use mathlib.Core.List.{List, ◌∷◌, ◌++◌}
use mathlib.Core.Logic.{◌↔◌}
use Prim.Native.Nat.{ℕ, ◌+◌, ◌*◌, ◌/◌, ◌%◌, ◌^◌, ◌≤◌, ◌<◌}
use native.Mathlib.Omega.{arith}
use lib.ListN.{length, get_or}
use Rattle.basics.proofs.Range.{listed_at}
use Rattle.words.specs.Words.{number_of, words_of, part_at}
use Rattle.words.proofs.Words.{length-words, number-block}
use Rattle.words.proofs.Parts.{part-number-lt, part-at, number-halves}
use Rattle.partitions.specs.declared.Kind.{Kind}
use Rattle.partitions.specs.declared.Partition.{Partition}
use Rattle.partitions.specs.Fitness.{fit}
use Rattle.partitions.specs.Map.{Map, partition, limit, number_of_kind}
use Rattle.partitions.proofs.KindRights.{scrambled-direct}
use Rattle.partitions.proofs.Map.{only, partition-at, partition-fit, end-within}
use Rattle.partitions.proofs.Secrets.{secret0, secret2}
use Rattle.life_cycle.specs.declared.Token.{Token}
use Rattle.model.specs.declared.Command.TheVariants.{PowerUp}
use Rattle.model.specs.Session.{sensed_at}
use Rattle.model.specs.Lent.{Machine, Primitives, with_cells}
use Rattle.model.specs.Commands.{stored_digest}
use Rattle.model.specs.PowerUp.{copy_word}
use Rattle.model.specs.Step.{after}
use Rattle.model.specs.Claims.Terms.{Cipher, Digested}
use Rattle.model.specs.Claims.Numbers.{KeyAt, Agrees, eight_from}
use Rattle.model.specs.Claims.Sensing.{Since}
use Rattle.model.specs.Claims.Transitions.{Compared, Stored}
use Rattle.model.specs.Claims.Tokens.{TokenAt, test_unlock, test_exit, rma, HashStored, Tokens}
use Rattle.model.proofs.KindNames.{keyed-scrambled}
use Rattle.model.proofs.Steps.{after-constants}
use Rattle.model.proofs.Since.{since-held, since-sensed}
use Rattle.model.proofs.PowerUpCodes.{secret-copy}
use Rattle.partitions.specs.declared.Kind.TheVariants as kind

module _ (prims : Primitives) (C : Cipher prims) (map : Map) (F : fit map ≡ true) where
  module _ (c₀ : List ℕ) (m : Machine) (s : Since prims map c₀ m) (n first : ℕ) (known : n < length map) (key : KeyAt (partition map n).kind first) where
    abbrev p : Partition
    p = partition map n

    abbrev K : ℕ
    K = eight_from m.lent.constants first

    -- four words of secret data, as a write scrambled them, stand unscrambled in the copy
    half : (at value : ℕ) → p.start / 2 ≤ at → at + 4 ≤ p.digest / 2 → at % 4 ≡ 0 → value < 2 ^ 64 → part_at c₀ at 4 ≡ words_of 4 (prims.encrypt K value)
        → number_of (part_at m.lent.copy at 4) ≡ value
    half at value lo hi aligned v e = ap number_of words ∙ number-block value v
      where
        fits : K < 2 ^ 128
        fits = part-number-lt {c = m.lent.constants} (record { small = s.right.words }) first 8

        block : prims.decrypt K (number_of (part_at c₀ at 4)) ≡ value
        block =
            ap (λ (ws : List ℕ). prims.decrypt K (number_of ws)) e ∙ ap (prims.decrypt K) (number-block (prims.encrypt K value) (C.fits K value fits v))
            ∙ C.back K value fits v

        word : (i : ℕ) → i < 4 → get_or m.lent.copy (at + i) 0 ≡ get_or (words_of 4 value) i 0
        word i l =
            let f = partition-fit map F known in
            let low : at + i < limit map / 2 = omega (arith, f.digest-last, end-within map F known, f.end-aligned) in
            let there = partition-at map (2 * (at + i))
            (only map F known (omega (arith, f.start-aligned)) (omega (arith, f.digest-last, f.digest-aligned))) in
            let first-word : (at + i) / 4 * 4 ≡ at = omega arith in
            let place : (at + i) % 4 ≡ i = omega arith in
            ap (λ (ws : List ℕ). get_or ws (at + i) 0) s.copy ∙ listed_at (copy_word prims map m.lent.constants c₀) 0 (limit map / 2) (at + i) low
            ∙ secret-copy prims map F (with_cells c₀ m.lent) (at + i) low {first = first} (rw there key) (rw there (omega (arith, f.digest-aligned)))
            ∙ rw (first-word, place, block) refl

        words : part_at m.lent.copy at 4 ≡ words_of 4 value
        words = part-at m.lent.copy (words_of 4 value) at 4 (length-words 4 value) word

  -- sixteen bytes of a secret's data
  data-space : {first : ℕ} (k : Kind) (offset size : ℕ) → number_of_kind map k < length map → (partition map (number_of_kind map k)).kind ≡ k
      → (partition map (number_of_kind map k)).start + size ≡ (partition map (number_of_kind map k)).end → KeyAt k first → offset + offset + 24 ≤ size
      → (partition map (number_of_kind map k)).start / 2 + offset + 8 ≤ (partition map (number_of_kind map k)).digest / 2
  data-space k offset size known is_kind sized key small =
      let f = partition-fit map F known in
      omega (arith, sized, f.tail (rw is_kind (scrambled-direct k (keyed-scrambled key))), f.start-aligned, f.digest-aligned)

  -- ---- the partition of a token

  module _ (c₀ : List ℕ) (m : Machine) (s : Since prims map c₀ m) (k : Kind) (first offset low high : ℕ) (known : number_of_kind map k < length map)
      (is_kind : (partition map (number_of_kind map k)).kind ≡ k) (key : KeyAt k first) (small : low < 2 ^ 64) (big : high < 2 ^ 64)
      (inside : (partition map (number_of_kind map k)).start / 2 + offset + 8 ≤ (partition map (number_of_kind map k)).digest / 2) (aligned : offset % 4 ≡ 0)
      (h : HashStored prims map m.lent.constants c₀ k first offset low high) where
    abbrev at : ℕ
    at = (partition map (number_of_kind map k)).start / 2 + offset

    stored-hash : eight_from m.lent.copy at ≡ high * 2 ^ 64 + low
    stored-hash =
        let f = partition-fit map F known in
        let there : KeyAt (partition map (number_of_kind map k)).kind first = rw is_kind key in
        sym (number-halves m.lent.copy at)
        ∙ ap₂ (λ (x y : ℕ). x * 2 ^ 64 + y)
        (half c₀ m s (number_of_kind map k) first known there (at + 4) high (omega arith) (omega arith) (omega (arith, f.start-aligned)) big h.high_half)
        (half c₀ m s (number_of_kind map k) first known there at low (omega arith) (omega arith) (omega (arith, f.start-aligned)) small h.low_half)

    locked : sensed_at m.session (number_of_kind map k) ≡ 0 → ⊥
    unfolding stored_digest
    locked z =
        let D : Digested map (number_of_kind map k) = record { known = known; direct = rw is_kind (scrambled-direct k (keyed-scrambled key)) } in
        h.digest (sym (since-sensed prims map F c₀ m s (number_of_kind map k) D) ∙ z)

    stored-compared : (given : ℕ) (same : Bool) → Stored prims map m given same k offset ↔ Agrees (prims.hash given) (high * 2 ^ 64 + low) same
    stored-compared given same = (
      (λ q. subst (λ (x : ℕ). Agrees (prims.hash given) x same) stored-hash q.1),
      λ q. (locked, subst (λ (x : ℕ). Agrees (prims.hash given) x same) (sym stored-hash) q),
    )

  token-place : {token : Token} {k : Kind} {first offset : ℕ} → TokenAt token k first offset
      → let p = partition map (number_of_kind map k) in
      (p.kind ≡ k) × (p.start / 2 + offset + 8 ≤ p.digest / 2)
  token-place test_unlock = let q = secret0 map F in (q.is_kind, data-space kind.Secret0 0 40 q.known q.is_kind q.sized KeyAt.secret0 (omega arith))
  token-place test_exit = let q = secret0 map F in (q.is_kind, data-space kind.Secret0 8 40 q.known q.is_kind q.sized KeyAt.secret0 (omega arith))
  token-place rma = let q = secret2 map F in (q.is_kind, data-space kind.Secret2 0 88 q.known q.is_kind q.sized KeyAt.secret2 (omega arith))

  token-compared : (c₀ : List ℕ) (m : Machine) → Since prims map c₀ m → (token : Token) (k : Kind) (first offset low high : ℕ) → TokenAt token k first offset
      → low < 2 ^ 64 → high < 2 ^ 64 → HashStored prims map m.lent.constants c₀ k first offset low high
      → (given : ℕ) (same : Bool) → Compared prims map m given same token ↔ Agrees (prims.hash given) (high * 2 ^ 64 + low) same
  token-compared c₀ m s token k first offset low high test_unlock a b h =
      let q = secret0 map F in
      stored-compared c₀ m s kind.Secret0 0 0 low high q.known q.is_kind KeyAt.secret0 a b (token-place test_unlock).1 (omega arith) h
  token-compared c₀ m s token k first offset low high test_exit a b h =
      let q = secret0 map F in
      stored-compared c₀ m s kind.Secret0 0 8 low high q.known q.is_kind KeyAt.secret0 a b (token-place test_exit).1 (omega arith) h
  token-compared c₀ m s token k first offset low high rma a b h =
      let q = secret2 map F in
      stored-compared c₀ m s kind.Secret2 16 0 low high q.known q.is_kind KeyAt.secret2 a b (token-place rma).1 (omega arith) h

  pub tokens : Tokens prims map
  tokens = record {
    places = token-place;
    compared = λ m r l₀ l₁ u ready token k first offset low high at a b h.
        (let s = (since-held prims map F m r l₀ l₁ u).holds ready in
        let same : (after prims map (l₀ ++ PowerUp ∷ l₁) m).lent.constants ≡ m.lent.constants = after-constants prims map (l₀ ++ PowerUp ∷ l₁) m in
        token-compared (after prims map l₀ m).lent.cells (after prims map (l₀ ++ PowerUp ∷ l₁) m) s token k first offset low high at a b
        (subst (λ (x : List ℕ). HashStored prims map x (after prims map l₀ m).lent.cells k first offset low high) (sym same) h));
  }
