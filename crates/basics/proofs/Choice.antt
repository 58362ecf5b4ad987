-- Laws of Booleans and of choice. The idea: a test whose value a goal doesn't show is taken apart once, here.
use mathlib.Core.Path.{◌≡◌, refl, sym, subst, ◌∙◌}
use mathlib.Core.Bool.{Bool, true, false, ◌&&◌, ◌||◌}
use Prim.Native.Nat.{ℕ}
use native.Mathlib.Omega.{arith}
use lib.Dec.{T}
use Rattle.std.specs.Prelude.{Option, Some, None}
use Rattle.basics.specs.Choice.{when◌then◌else◌}

-- a test is true or false, and each case may use which
pub by_cases {ℓ} : {X : Type ℓ} (b : Bool) → (b ≡ true → X) → (b ≡ false → X) → X
by_cases true f g = f refl
by_cases false f g = g refl

-- something or nothing, likewise
pub by-option {ℓ} : {A : Type 0} {X : Type ℓ} (o : Option A) → (o ≡ None → X) → ((a : A) → o ≡ Some a → X) → X
by-option None f g = f refl
by-option (Some a) f g = g a refl

pub true-not-false : {b : Bool} → b ≡ true → b ≡ false → ⊥
true-not-false e f = let z : ◌≡◌ {A = ℕ} 0 1 = cc in omega arith

pub from-T : {b : Bool} → T b → b ≡ true
from-T {b = true} t = refl
from-T {b = false} t = absurd t

pub to-T : {b : Bool} → b ≡ true → T b
to-T e = subst T (sym e) tt

-- a test that can't pass fails
pub not-passed : (b : Bool) → (b ≡ true → ⊥) → b ≡ false
not-passed true h = absurd (h refl)
not-passed false h = refl

pub and_left : (a b : Bool) → (a && b) ≡ true → a ≡ true
and_left true b e = refl
and_left false b e = e

pub and_right : (a b : Bool) → (a && b) ≡ true → b ≡ true
and_right true b e = e
and_right false b e = absurd (true-not-false e refl)

pub and_both : (a b : Bool) → a ≡ true → b ≡ true → (a && b) ≡ true
and_both true b e f = f
and_both false b e f = e

pub and-three : (a b c : Bool) → (a && b && c) ≡ true → (a ≡ true) × (b ≡ true) × (c ≡ true)
and-three a b c h =
    let l : (a && b) ≡ true = and_left (a && b) c h in
    (and_left a b l, and_right a b l, and_right (a && b) c h)

pub and-false : (a : Bool) {b : Bool} → b ≡ false → (a && b) ≡ false
and-false true e = e
and-false false e = refl

pub or-none-left : (a b : Bool) → (a || b) ≡ false → a ≡ false
or-none-left true b e = e
or-none-left false b e = refl

pub or-none-right : (a b : Bool) → (a || b) ≡ false → b ≡ false
or-none-right true b e = absurd (true-not-false refl e)
or-none-right false b e = e

pub or-either {ℓ} : {X : Type ℓ} (a b : Bool) → (a || b) ≡ true → (a ≡ true → X) → (b ≡ true → X) → X
or-either true b e f g = f refl
or-either false b e f g = g e

pub or_right : (a b : Bool) → b ≡ true → (a || b) ≡ true
or_right true b e = refl
or_right false b e = e

pub or-none : (a b : Bool) → a ≡ false → b ≡ false → (a || b) ≡ false
or-none true b e f = e
or-none false b e f = f

pub if-true {ℓ} : {A : Type ℓ} {b : Bool} (x y : A) → b ≡ true → (when b then x else y) ≡ x
unfolding when◌then◌else◌
if-true x y e = rw e

pub if-false {ℓ} : {A : Type ℓ} {b : Bool} (x y : A) → b ≡ false → (when b then x else y) ≡ y
unfolding when◌then◌else◌
if-false x y e = rw e

-- a choice whose test is known, for a function whose attribute names it
pub ruleset choices = (if-true, if-false)

pub if-same {ℓ} : {A : Type ℓ} {b : Bool} {x y x' y' : A} → (b ≡ true → x ≡ x') → (b ≡ false → y ≡ y') → (when b then x else y) ≡ (when b then x' else y')
if-same {b = b} {x = x} {y = y} {x' = x'} {y' = y'} f g =
    by_cases b (λ t. if-true x y t ∙ f t ∙ sym (if-true x' y' t)) (λ t. if-false x y t ∙ g t ∙ sym (if-false x' y' t))

-- what holds of both branches holds of the choice
pub if-both {ℓ κ} : {A : Type ℓ} (P : A → Type κ) (b : Bool) (x y : A) → (b ≡ true → P x) → (b ≡ false → P y) → P (when b then x else y)
unfolding when◌then◌else◌
if-both P true x y f g = f refl
if-both P false x y f g = g refl
