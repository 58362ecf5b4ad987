-- Choice by a test. It is the library's `if` at any level, and shut: proofs cite its laws.
use Rattle.std.specs.Prelude.{Bool, true, false}

infixr 10 when◌then◌else◌
unfoldable pub when◌then◌else◌ {ℓ} : {A : Type ℓ} → Bool → A → A → A
when true then x else y = x
when false then x else y = y
