-- What it means that a command on an address is denied or not. The idea: a denial is a choice of reasons, so that where it fails every reason fails.
use mathlib.Core.Path.{◌≡◌, ap}
use mathlib.Core.Bool.{Bool, true, false, not, ◌&&◌, ◌||◌}
use Prim.Native.Nat.{ℕ, ◌<◌}
use lib.Dec.{eqb, leb}
use borrow.Author.Tests.{eqb-true, leb-false, lt-leb, not-false, eq-eqb}
use Rattle.basics.proofs.Choice.{or-none, or-none-left, or-none-right, or_right, by_cases}
use Rattle.partitions.specs.declared.Partition.{Partition}
use Rattle.partitions.specs.Map.{Map, rights_of, limit, in_digest}
use Rattle.model.specs.declared.Session.{Session}
use Rattle.model.specs.Session.{sensed_at, sensed_locked}
use Rattle.model.specs.Commands.{write_denied, digest_denied, read_denied, front_read_denied}

-- not past the map, and not denied there
pub allowed-below : (map : Map) (a : ℕ) (denied : Bool) → (leb (limit map) a || denied) ≡ false → a < limit map
allowed-below map a denied e = leb-false _ _ (or-none-left (leb (limit map) a) denied e)

pub allowed-there : (map : Map) (a : ℕ) (denied : Bool) → (leb (limit map) a || denied) ≡ false → denied ≡ false
allowed-there map a denied e = or-none-right (leb (limit map) a) denied e

pub allowed-both : (map : Map) (a : ℕ) (denied : Bool) → a < limit map → denied ≡ false → (leb (limit map) a || denied) ≡ false
allowed-both map a denied l e = or-none _ _ (lt-leb _ _ l) e

pub not-locked : (s : Session) (n : ℕ) → sensed_locked s n ≡ false → sensed_at s n ≡ 0
unfolding sensed_locked
not-locked s n e = eqb-true _ _ (not-false _ e)

module _ (p : Partition) (a : ℕ) where
  abbrev direct : Bool
  direct = (rights_of p.kind).direct

  abbrev sealed : Bool
  sealed = (rights_of p.kind).hardware && in_digest p a

  -- ---- a write

  pub record WriteGuards (locked : Bool) : Type 0 where
    pub direct : (rights_of p.kind).direct ≡ true
    pub not_digest : ((rights_of p.kind).hardware && in_digest p a) ≡ false
    pub unlocked : locked ≡ false

  pub write-guards : {locked : Bool} → write_denied locked p a ≡ false → WriteGuards locked
  unfolding write_denied
  write-guards {locked} e =
      let both = or-none-left (not direct || sealed) locked e in
      record {
        direct = not-false _ (or-none-left (not direct) sealed both);
        not_digest = or-none-right (not direct) sealed both;
        unlocked = or-none-right (not direct || sealed) locked e;
      }

  pub write-open : {locked : Bool} → WriteGuards locked → write_denied locked p a ≡ false
  unfolding write_denied
  write-open w = or-none _ _ (or-none _ _ (ap not w.direct) w.not_digest) w.unlocked

  pub write-locked : {locked : Bool} → locked ≡ true → write_denied locked p a ≡ true
  unfolding write_denied
  write-locked e = or_right (not direct || sealed) _ e

  -- ---- a read

  pub record ReadGuards (locked read_lock : Bool) : Type 0 where
    pub direct : (rights_of p.kind).direct ≡ true
    pub not_read_locked : in_digest p a ≡ false → ((rights_of p.kind).lockable && read_lock) ≡ false
    pub not_secret_locked : in_digest p a ≡ false → ((rights_of p.kind).scrambled && locked) ≡ false

  pub read-guards : {locked read_lock : Bool} → read_denied locked read_lock p a ≡ false → ReadGuards locked read_lock
  unfolding read_denied
  read-guards {locked} {read_lock} e =
      let lock = (rights_of p.kind).lockable && read_lock in
      let secret = (rights_of p.kind).scrambled && locked in
      let rest = or-none-right (not direct) (not (in_digest p a) && (lock || secret)) e in
      record {
        direct = not-false _ (or-none-left (not direct) (not (in_digest p a) && (lock || secret)) e);
        not_read_locked = λ t. or-none-left lock secret (rw t at rest);
        not_secret_locked = λ t. or-none-right lock secret (rw t at rest);
      }

  pub read-open : {locked read_lock : Bool} → ReadGuards locked read_lock → read_denied locked read_lock p a ≡ false
  unfolding read_denied
  read-open r =
      or-none _ _ (ap not r.direct)
      (by_cases (in_digest p a) (λ t. rw t) (λ t. rw t (or-none _ _ (r.not_read_locked t) (r.not_secret_locked t))))

  -- ---- a front read

  pub front-open : front_read_denied p a ≡ false → (rights_of p.kind).front ≡ true
  unfolding front_read_denied
  front-open e = not-false _ (or-none-left (not (rights_of p.kind).front) _ e)

  -- ---- a digest command

  pub record DigestGuards (locked : Bool) : Type 0 where
    pub hardware : (rights_of p.kind).hardware ≡ true
    pub start : a ≡ p.start
    pub unlocked : locked ≡ false

  pub digest-guards : {locked : Bool} → digest_denied locked p a ≡ false → DigestGuards locked
  unfolding digest_denied
  digest-guards {locked} e =
      let hardware = (rights_of p.kind).hardware in
      let both = or-none-left (not hardware || not (eqb a p.start)) locked e in
      record {
        hardware = not-false _ (or-none-left (not hardware) _ both);
        start = eqb-true _ _ (not-false _ (or-none-right (not hardware) _ both));
        unlocked = or-none-right (not hardware || not (eqb a p.start)) locked e;
      }

  pub digest-open : {locked : Bool} → DigestGuards locked → digest_denied locked p a ≡ false
  unfolding digest_denied
  digest-open g = or-none _ _ (or-none _ _ (ap not g.hardware) (ap not (eq-eqb _ _ g.start))) g.unlocked

  pub digest-locked : {locked : Bool} → locked ≡ true → digest_denied locked p a ≡ true
  unfolding digest_denied
  digest-locked e = or_right (not (rights_of p.kind).hardware || not (eqb a p.start)) _ e
