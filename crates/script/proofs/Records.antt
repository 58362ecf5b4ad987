-- Laws of records. The idea: the tests of `next_at` are taken apart once, and every law reads what led to an answer.
use Prim.Native.Nat.{ℕ, ◌+◌, ◌≤◌, ◌<◌}
use mathlib.Core.Path.{◌≡◌, refl, sym, ap, ◌∙◌}
use mathlib.Core.Bool.{Bool, true, false, ◌||◌}
use mathlib.Core.List.{List}
use native.Mathlib.Omega.{arith}
use lib.Dec.{eqb}
use lib.ListN.{length}
use borrow.Author.Tests.{lt-ltb, le-ltb, le-leb, lt-leb, ltb-true, ltb-false, leb-true, leb-false, eqb-true}
use denote.Enum.Declared.{tag_of}
use Rattle.basics.specs.Choice.{when◌then◌else◌}
use Rattle.basics.specs.Range.{all_below}
use Rattle.basics.proofs.Choice.{if-true, if-false, if-both, or-none-right}
use Rattle.basics.proofs.Range.{all-at}
use Rattle.model.specs.declared.Command.{Command}
use Rattle.script.specs.declared.Refusal.TheVariants.{UnknownKind, CutShort, TooLong}
use Rattle.script.specs.declared.Reading.{Reading}
use Rattle.script.specs.declared.Reading.TheVariants.{Record, End, Refused}
use Rattle.script.specs.declared.RecordKind.{RecordKind}
use Rattle.script.specs.declared.RecordKind.TheVariants.{Read, Write, FrontRead, Digest, ReadLock, Transition, PowerUp}
use Rattle.script.specs.Kinds.{number_of_kind}
use Rattle.script.specs.Records.{kind_of, unknown, body_length, byte_at, command_at, next_at}
use Rattle.script.specs.contracts.Reading as N

-- ---- `next_at` test by test, as code goes through it

module _ (s : List ℕ) (p : ℕ) where
  abbrev kind : ℕ
  kind = byte_at s p

  abbrev next : ℕ
  next = p + 1 + body_length kind

  pub too_long : 65536 < length s → next_at s p ≡ Refused TooLong 0
  unfolding next_at
  too_long h = if-true _ _ (lt-ltb _ _ h)

  module _ (short : length s ≤ 65536) where
    pub at-end : length s ≤ p → next_at s p ≡ End
    unfolding next_at
    at-end h = if-false _ _ (le-ltb _ _ short) ∙ if-true _ _ (le-leb _ _ h)

    module _ (inside : p < length s) where
      pub unknown-kind : unknown kind ≡ true → next_at s p ≡ Refused UnknownKind p
      unfolding next_at
      unknown-kind h = if-false _ _ (le-ltb _ _ short) ∙ if-false _ _ (lt-leb _ _ inside) ∙ if-true _ _ h

      module _ (known : unknown kind ≡ false) where
        pub cut_short : length s < next → next_at s p ≡ Refused CutShort p
        unfolding next_at
        cut_short h = if-false _ _ (le-ltb _ _ short) ∙ if-false _ _ (lt-leb _ _ inside) ∙ if-false _ _ known ∙ if-true _ _ (lt-ltb _ _ h)

        pub whole-record : next ≤ length s → next_at s p ≡ Record (command_at s kind (p + 1)) next
        unfolding next_at
        whole-record h = if-false _ _ (le-ltb _ _ short) ∙ if-false _ _ (lt-leb _ _ inside) ∙ if-false _ _ known ∙ if-false _ _ (le-ltb _ _ h)

pub known-kind : (kind : RecordKind) → unknown (number_of_kind kind) ≡ false
unfolding unknown
known-kind Read = refl
known-kind Write = refl
known-kind FrontRead = refl
known-kind Digest = refl
known-kind ReadLock = refl
known-kind Transition = refl
known-kind PowerUp = refl

either : (b : Bool) {x y : ℕ} → x ≤ 17 → y ≤ 17 → (when b then x else y) ≤ 17
either b h k = if-both (λ (n : ℕ). n ≤ 17) b _ _ (λ e. h) (λ e. k)

-- no body is longer than a transition's
pub body-short : (kind : ℕ) → body_length kind ≤ 17
unfolding body_length
body-short kind =
    either (eqb kind 1) (omega arith)
    (either (eqb kind 2) (omega arith)
    (either (eqb kind 3) (omega arith)
    (either (eqb kind 4) (omega arith) (either (eqb kind 5) (omega arith) (either (eqb kind 6) (omega arith) (omega arith))))))

-- ---- what led to an answer

data Led (s : List ℕ) (p : ℕ) : Reading → Type 0 where
  long : 65536 < length s → Led s p (Refused TooLong 0)
  past : length s ≤ p → Led s p End
  strange : unknown (byte_at s p) ≡ true → Led s p (Refused UnknownKind p)
  cut : length s < p + 1 + body_length (byte_at s p) → Led s p (Refused CutShort p)
  whole : p < length s → unknown (byte_at s p) ≡ false → p + 1 + body_length (byte_at s p) ≤ length s
      → Led s p (Record (command_at s (byte_at s p) (p + 1)) (p + 1 + body_length (byte_at s p)))

led : (s : List ℕ) (p : ℕ) → Led s p (next_at s p)
unfolding next_at
led s p =
    if-both (Led s p) _ _ _ (λ e. long (ltb-true _ _ e))
    (λ _. if-both (Led s p) _ _ _ (λ e. past (leb-true _ _ e))
    (λ i. if-both (Led s p) _ _ _ strange
    (λ k. if-both (Led s p) _ _ _ (λ e. cut (ltb-true _ _ e)) (λ w. whole (leb-false _ _ i) k (ltb-false _ _ w)))))

-- a known kind is that of its command
kind-known : (s : List ℕ) (k at : ℕ) → unknown k ≡ false → kind_of (command_at s k at) ≡ k
unfolding all_below unknown command_at when◌then◌else◌
kind-known s k at known =
    let h : k ≤ 7 = ltb-false _ _ (or-none-right (eqb k 0) _ known) in
    eqb-true _ _ (rw known at (all-at 8 (λ i. unknown i || eqb (kind_of (command_at s i at)) i) tt k (omega arith)))

-- what holds of a record that is read: its next place is behind its body and within the script, so that a loop over a script ends
pub record IsRead (s : List ℕ) (p : ℕ) (c : Command) (n : ℕ) : Type 0 where
  pub kind : kind_of c ≡ byte_at s p
  pub behind : n ≡ p + 1 + body_length (byte_at s p)
  pub above : p < n
  pub within : n ≤ length s

led-record : (s : List ℕ) (p : ℕ) (r : Reading) → Led s p r → {c : Command} {n : ℕ} → r ≡ Record c n → IsRead s p c n
led-record s p r (long h) e = absurd (omega (arith, ap (tag_of N.the_type) e))
led-record s p r (past h) e = absurd (omega (arith, ap (tag_of N.the_type) e))
led-record s p r (strange h) e = absurd (omega (arith, ap (tag_of N.the_type) e))
led-record s p r (cut h) e = absurd (omega (arith, ap (tag_of N.the_type) e))
led-record s p r (whole i k w) {c} {n} e =
    let a : command_at s (byte_at s p) (p + 1) ≡ c = cc in
    let b : p + 1 + body_length (byte_at s p) ≡ n = cc in
    record { kind = ap kind_of (sym a) ∙ kind-known s _ _ k; behind = sym b; above = omega arith; within = omega arith }

pub is_read : (s : List ℕ) (p : ℕ) {c : Command} {n : ℕ} → next_at s p ≡ Record c n → IsRead s p c n
is_read s p = led-record s p (next_at s p) (led s p)

pub ruleset outside = (too_long, at-end)

pub ruleset inside_tests = (unknown-kind, cut_short, whole-record, known-kind, body-short)
