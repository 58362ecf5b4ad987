-- Kinds by name and by right. The idea: each law is computed at the seven kinds.
use mathlib.Core.Path.{◌≡◌, refl}
use mathlib.Core.Bool.{true, false}
use mathlib.Core.List.{List}
use Prim.Native.Nat.{ℕ}
use Rattle.basics.proofs.Choice.{true-not-false}
use Rattle.partitions.specs.declared.Kind.{Kind}
use Rattle.partitions.specs.Map.{rights_of}
use Rattle.constants.specs.Constants.{key_of}
use Rattle.model.specs.Claims.Numbers.{KeyAt, Plain, Hardware, Lockable, eight_from}
use Rattle.partitions.specs.declared.Kind.TheVariants as kind

pub hardware-kind : (k : Kind) → (rights_of k).hardware ≡ true → Hardware k
unfolding rights_of
hardware-kind kind.Software e = absurd (true-not-false e refl)
hardware-kind kind.AuthState e = absurd (true-not-false e refl)
hardware-kind kind.HwCfg e = Hardware.hw_cfg
hardware-kind kind.Secret0 e = Hardware.secret0
hardware-kind kind.Secret1 e = Hardware.secret1
hardware-kind kind.Secret2 e = Hardware.secret2
hardware-kind kind.LifeCycle e = absurd (true-not-false e refl)

pub kind-hardware : {k : Kind} → Hardware k → (rights_of k).hardware ≡ true
unfolding rights_of
kind-hardware Hardware.hw_cfg = refl
kind-hardware Hardware.secret0 = refl
kind-hardware Hardware.secret1 = refl
kind-hardware Hardware.secret2 = refl

pub lockable-kind : (k : Kind) → (rights_of k).lockable ≡ true → Lockable k
unfolding rights_of
lockable-kind kind.Software e = Lockable.software
lockable-kind kind.AuthState e = Lockable.auth_state
lockable-kind kind.HwCfg e = absurd (true-not-false e refl)
lockable-kind kind.Secret0 e = absurd (true-not-false e refl)
lockable-kind kind.Secret1 e = absurd (true-not-false e refl)
lockable-kind kind.Secret2 e = absurd (true-not-false e refl)
lockable-kind kind.LifeCycle e = absurd (true-not-false e refl)

pub kind-lockable : {k : Kind} → Lockable k → (rights_of k).lockable ≡ true
unfolding rights_of
kind-lockable Lockable.software = refl
kind-lockable Lockable.auth_state = refl

-- a scrambled kind has a key
pub record Keyed (k : Kind) : Type 0 where
  pub first : ℕ
  pub at : KeyAt k first

pub scrambled-keyed : (k : Kind) → (rights_of k).scrambled ≡ true → Keyed k
unfolding rights_of
scrambled-keyed kind.Software e = absurd (true-not-false e refl)
scrambled-keyed kind.AuthState e = absurd (true-not-false e refl)
scrambled-keyed kind.HwCfg e = absurd (true-not-false e refl)
scrambled-keyed kind.Secret0 e = record { first = 0; at = KeyAt.secret0 }
scrambled-keyed kind.Secret1 e = record { first = 8; at = KeyAt.secret1 }
scrambled-keyed kind.Secret2 e = record { first = 16; at = KeyAt.secret2 }
scrambled-keyed kind.LifeCycle e = absurd (true-not-false e refl)

pub keyed-scrambled : {k : Kind} {first : ℕ} → KeyAt k first → (rights_of k).scrambled ≡ true
unfolding rights_of
keyed-scrambled KeyAt.secret0 = refl
keyed-scrambled KeyAt.secret1 = refl
keyed-scrambled KeyAt.secret2 = refl

pub key-is : {k : Kind} {first : ℕ} (constants : List ℕ) → KeyAt k first → key_of constants k ≡ eight_from constants first
unfolding key_of
key-is constants KeyAt.secret0 = refl
key-is constants KeyAt.secret1 = refl
key-is constants KeyAt.secret2 = refl

-- what is neither scrambled nor LIFE_CYCLE is plain
pub plain-kind : (k : Kind) → (rights_of k).direct ≡ true → (rights_of k).scrambled ≡ false → Plain k
unfolding rights_of
plain-kind kind.Software d e = Plain.software
plain-kind kind.AuthState d e = Plain.auth_state
plain-kind kind.HwCfg d e = Plain.hw_cfg
plain-kind kind.Secret0 d e = absurd (true-not-false refl e)
plain-kind kind.Secret1 d e = absurd (true-not-false refl e)
plain-kind kind.Secret2 d e = absurd (true-not-false refl e)
plain-kind kind.LifeCycle d e = absurd (true-not-false d refl)

pub plain-not-scrambled : {k : Kind} → Plain k → (rights_of k).scrambled ≡ false
unfolding rights_of
plain-not-scrambled Plain.software = refl
plain-not-scrambled Plain.auth_state = refl
plain-not-scrambled Plain.hw_cfg = refl

-- front reads are of HW_CFG alone
pub front-kind : (k : Kind) → (rights_of k).front ≡ true → k ≡ kind.HwCfg
unfolding rights_of
front-kind kind.Software e = absurd (true-not-false e refl)
front-kind kind.AuthState e = absurd (true-not-false e refl)
front-kind kind.HwCfg e = refl
front-kind kind.Secret0 e = absurd (true-not-false e refl)
front-kind kind.Secret1 e = absurd (true-not-false e refl)
front-kind kind.Secret2 e = absurd (true-not-false e refl)
front-kind kind.LifeCycle e = absurd (true-not-false e refl)

pub kind-front : {k : Kind} → k ≡ kind.HwCfg → (rights_of k).front ≡ true
unfolding rights_of
kind-front e = rw e refl
