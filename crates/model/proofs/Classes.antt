-- Cases on commands: by class, and by what a command writes. The idea: the commands are listed here, and a law that needs no more asks for the class.
use mathlib.Core.Path.{◌≡◌, refl, sym, ◌∙◌}
use Prim.Native.Nat.{ℕ}
use Rattle.model.specs.declared.Command.{Command}
use Rattle.model.specs.declared.Command.TheVariants.{Read, Write, FrontRead, Digest, ReadLock, Transition, PowerUp}
use Rattle.model.specs.Answers.{Answer}
use Rattle.model.specs.Commands.{class_of, sensing, transiting, access}
use Rattle.model.specs.Claims.Terms.{not_power_up, quiet, stays_ready, Writing, writing_of, writes_at, digests_at, writes_nothing}
use Rattle.model.specs.Claims.Classes.{Classes}

pub by-class {ℓ} : (Q : Command → Type ℓ) → Q PowerUp → ((target given : ℕ) → Q (Transition target given))
    → ((x : Command) → class_of x ≡ access → Q x) → (x : Command) → Q x
by-class Q f g h (Read a) = h (Read a) refl
by-class Q f g h (Write a value) = h (Write a value) refl
by-class Q f g h (FrontRead a) = h (FrontRead a) refl
by-class Q f g h (Digest a) = h (Digest a) refl
by-class Q f g h (ReadLock number) = h (ReadLock number) refl
by-class Q f g h (Transition target given) = g target given
by-class Q f g h PowerUp = f

-- a write, a digest command, or a command that writes nothing by direct access
pub by-writing {ℓ} : (Q : Command → Type ℓ) → ((a value : ℕ) → Q (Write a value)) → ((a : ℕ) → Q (Digest a))
    → ((x : Command) → writing_of x ≡ writes_nothing → Q x) → (x : Command) → Q x
by-writing Q f g h (Read a) = h (Read a) refl
by-writing Q f g h (Write a value) = f a value
by-writing Q f g h (FrontRead a) = h (FrontRead a) refl
by-writing Q f g h (Digest a) = g a
by-writing Q f g h (ReadLock number) = h (ReadLock number) refl
by-writing Q f g h (Transition target given) = h (Transition target given) refl
by-writing Q f g h PowerUp = h PowerUp refl

-- ---- what the terms of the claims say of a class

pub access-quiet : (x : Command) → class_of x ≡ access → quiet x
access-quiet x e = rw (e, quiet) tt

pub quiet-access : (x : Command) → quiet x → class_of x ≡ access
quiet-access = by-class (λ (x : Command). quiet x → class_of x ≡ access) (λ q. absurd q) (λ target given q. absurd q) (λ x e q. e)

pub quiet-not-power-up : (x : Command) → quiet x → not_power_up x
quiet-not-power-up x q = rw (quiet-access x q, not_power_up) tt

pub no-power-up : (x : Command) → not_power_up x → x ≡ PowerUp → ⊥
no-power-up x u e = rw e at u

-- Ready lasts over no power-up
pub lasts_on : (x : Command) (answer : Answer) → stays_ready x answer → not_power_up x
lasts_on =
    by-class (λ (x : Command). (answer : Answer) → stays_ready x answer → not_power_up x) (λ answer h. h) (λ target given answer h. tt)
    (λ x e answer h. rw (e, not_power_up) tt)

pub access-not-transiting : (x : Command) → class_of x ≡ access → class_of x ≡ transiting → ⊥
access-not-transiting x e f = cc

-- ---- each class has its commands, and no others

sensing-not-transiting : sensing ≡ transiting → ⊥
sensing-not-transiting e = cc

access-not-sensing : access ≡ sensing → ⊥
access-not-sensing e = cc

only-power-up : (x : Command) → class_of x ≡ sensing → x ≡ PowerUp
only-power-up =
    by-class (λ (x : Command). class_of x ≡ sensing → x ≡ PowerUp) (λ e. refl) (λ target given e. absurd (sensing-not-transiting (sym e)))
    (λ x a e. absurd (access-not-sensing (sym a ∙ e)))

abbrev Transits : Command → Type 0
Transits x = (target : ℕ) × (given : ℕ) × (x ≡ Transition target given)

only-transitions : (x : Command) → class_of x ≡ transiting → Transits x
only-transitions =
    by-class (λ (x : Command). class_of x ≡ transiting → Transits x) (λ e. absurd (sensing-not-transiting e)) (λ target given e. (target, given, refl))
    (λ x a e. absurd (access-not-transiting x a e))

nothing_written : {w : Writing} {a value : ℕ} → w ≡ writes_nothing → w ≡ writes_at a value → ⊥
nothing_written n e = cc

nothing-digested : {w : Writing} {a : ℕ} → w ≡ writes_nothing → w ≡ digests_at a → ⊥
nothing-digested n e = cc

written-not-digested : {a b value : ℕ} → writes_at a value ≡ digests_at b → ⊥
written-not-digested e = cc

only-writes : (a value : ℕ) (x : Command) → writing_of x ≡ writes_at a value → x ≡ Write a value
only-writes a value =
    by-writing (λ (x : Command). writing_of x ≡ writes_at a value → x ≡ Write a value) same (λ b e. absurd (written-not-digested (sym e)))
    (λ x n e. absurd (nothing_written n e))
  where
    same : (b v : ℕ) → writes_at b v ≡ writes_at a value → Write b v ≡ Write a value
    same b v e =
        let p : b ≡ a = cc in
        let q : v ≡ value = cc in
        rw (p, q)

only-digests : (a : ℕ) (x : Command) → writing_of x ≡ digests_at a → x ≡ Digest a
only-digests a =
    by-writing (λ (x : Command). writing_of x ≡ digests_at a → x ≡ Digest a) (λ b v e. absurd (written-not-digested e)) same
    (λ x n e. absurd (nothing-digested n e))
  where
    same : (b : ℕ) → digests_at b ≡ digests_at a → Digest b ≡ Digest a
    same b e = let p : b ≡ a = cc in rw p

pub classes : Classes
classes = record {
  power_ups = λ x. (only-power-up x, λ e. rw e);
  transitions = λ x. (only-transitions x, λ t. rw t.2);
  writes = λ x a value. (only-writes a value x, λ e. rw e);
  digests = λ x a. (only-digests a x, λ e. rw e);
}
