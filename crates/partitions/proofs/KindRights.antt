-- Laws of what the kinds are granted. The idea: a law of every kind is a test that is computed at each of the seven.
use mathlib.Core.Path.{◌≡◌, refl}
use mathlib.Core.Bool.{Bool, true, false, not, ◌||◌}
use lib.Dec.{T, eqb}
use borrow.Author.Tests.{not-true}
use Rattle.basics.proofs.Choice.{from-T, true-not-false, not-passed}
use Rattle.partitions.specs.declared.Kind.{Kind}
use Rattle.partitions.specs.declared.Kind.TheVariants.{Software, AuthState, HwCfg, Secret0, Secret1, Secret2, LifeCycle}
use Rattle.partitions.specs.Map.{rights_of, kind_number}

-- the test passes at every kind
abbrev Always : (Kind → Bool) → Type 0
Always test = T (test Software) × T (test AuthState) × T (test HwCfg) × T (test Secret0) × T (test Secret1) × T (test Secret2) × T (test LifeCycle)

always : (test : Kind → Bool) → Always test → (k : Kind) → test k ≡ true
always test t Software = from-T t.0
always test t AuthState = from-T t.1
always test t HwCfg = from-T t.2
always test t Secret0 = from-T t.3
always test t Secret1 = from-T t.4
always test t Secret2 = from-T t.5
always test t LifeCycle = from-T t.6

granted-with : (a b : Kind → Bool) → Always (λ k. not (a k) || b k) → (k : Kind) → a k ≡ true → b k ≡ true
granted-with a b t k = implied (a k) (b k) (always (λ k. not (a k) || b k) t k)
  where
    implied : (x y : Bool) → (not x || y) ≡ true → x ≡ true → y ≡ true
    implied true y h e = h
    implied false y h e = absurd (true-not-false e refl)

pub hardware-direct : (k : Kind) → (rights_of k).hardware ≡ true → (rights_of k).direct ≡ true
unfolding rights_of
hardware-direct = granted-with (λ k. (rights_of k).hardware) (λ k. (rights_of k).direct) (tt, tt, tt, tt, tt, tt, tt)

pub scrambled-hardware : (k : Kind) → (rights_of k).scrambled ≡ true → (rights_of k).hardware ≡ true
unfolding rights_of
scrambled-hardware = granted-with (λ k. (rights_of k).scrambled) (λ k. (rights_of k).hardware) (tt, tt, tt, tt, tt, tt, tt)

pub scrambled-direct : (k : Kind) → (rights_of k).scrambled ≡ true → (rights_of k).direct ≡ true
scrambled-direct k e = hardware-direct k (scrambled-hardware k e)

-- where there is no hardware digest data is plain
pub soft-plain : (k : Kind) → (rights_of k).hardware ≡ false → (rights_of k).scrambled ≡ false
soft-plain k e = not-passed _ (λ t. true-not-false (scrambled-hardware k t) e)

pub front-hardware : (k : Kind) → (rights_of k).front ≡ true → (rights_of k).hardware ≡ true
unfolding rights_of
front-hardware = granted-with (λ k. (rights_of k).front) (λ k. (rights_of k).hardware) (tt, tt, tt, tt, tt, tt, tt)

pub front-not-scrambled : (k : Kind) → (rights_of k).front ≡ true → (rights_of k).scrambled ≡ false
unfolding rights_of
front-not-scrambled k e = not-true _ (granted-with (λ k. (rights_of k).front) (λ k. not (rights_of k).scrambled) (tt, tt, tt, tt, tt, tt, tt) k e)

pub lockable-direct : (k : Kind) → (rights_of k).lockable ≡ true → (rights_of k).direct ≡ true
unfolding rights_of
lockable-direct = granted-with (λ k. (rights_of k).lockable) (λ k. (rights_of k).direct) (tt, tt, tt, tt, tt, tt, tt)

pub lockable-not-hardware : (k : Kind) → (rights_of k).lockable ≡ true → (rights_of k).hardware ≡ false
unfolding rights_of
lockable-not-hardware k e = not-true _ (granted-with (λ k. (rights_of k).lockable) (λ k. not (rights_of k).hardware) (tt, tt, tt, tt, tt, tt, tt) k e)

-- LIFE_CYCLE is the one kind that direct access doesn't reach
pub life-cycle-direct : (k : Kind) → eqb (kind_number k) (kind_number LifeCycle) ≡ not (rights_of k).direct
unfolding rights_of kind_number
life-cycle-direct Software = refl
life-cycle-direct AuthState = refl
life-cycle-direct HwCfg = refl
life-cycle-direct Secret0 = refl
life-cycle-direct Secret1 = refl
life-cycle-direct Secret2 = refl
life-cycle-direct LifeCycle = refl

-- AUTH_STATE is the one kind whose data keep the old rule of programming
pub additive-kind : (k : Kind) → (rights_of k).additive ≡ true → k ≡ AuthState
unfolding rights_of
additive-kind Software e = absurd (true-not-false e refl)
additive-kind AuthState e = refl
additive-kind HwCfg e = absurd (true-not-false e refl)
additive-kind Secret0 e = absurd (true-not-false e refl)
additive-kind Secret1 e = absurd (true-not-false e refl)
additive-kind Secret2 e = absurd (true-not-false e refl)
additive-kind LifeCycle e = absurd (true-not-false e refl)

-- direct access is denied to LIFE_CYCLE alone
pub life-cycle-only : (k : Kind) → (rights_of k).direct ≡ false → k ≡ LifeCycle
unfolding rights_of
life-cycle-only Software e = absurd (true-not-false refl e)
life-cycle-only AuthState e = absurd (true-not-false refl e)
life-cycle-only HwCfg e = absurd (true-not-false refl e)
life-cycle-only Secret0 e = absurd (true-not-false refl e)
life-cycle-only Secret1 e = absurd (true-not-false refl e)
life-cycle-only Secret2 e = absurd (true-not-false refl e)
life-cycle-only LifeCycle e = refl

-- without a hardware digest and with direct access there is a read lock
pub soft-lockable : (k : Kind) → (rights_of k).direct ≡ true → (rights_of k).hardware ≡ false → (rights_of k).lockable ≡ true
unfolding rights_of
soft-lockable Software d e = refl
soft-lockable AuthState d e = refl
soft-lockable HwCfg d e = absurd (true-not-false refl e)
soft-lockable Secret0 d e = absurd (true-not-false refl e)
soft-lockable Secret1 d e = absurd (true-not-false refl e)
soft-lockable Secret2 d e = absurd (true-not-false refl e)
soft-lockable LifeCycle d e = absurd (true-not-false d refl)

pub scrambled-not-lockable : (k : Kind) → (rights_of k).scrambled ≡ true → (rights_of k).lockable ≡ false
unfolding rights_of
scrambled-not-lockable k e = not-true _ (granted-with (λ k. (rights_of k).scrambled) (λ k. not (rights_of k).lockable) (tt, tt, tt, tt, tt, tt, tt) k e)
