-- What holds of every answer of a power-up. The idea: it has three, so that a property of an answer is shown once for each.
use Rattle.std.specs.Prelude.{Ok, Err, Option, None, Some}
use Prim.Native.Nat.{ℕ}
use Rattle.basics.proofs.Choice.{if-both}
use Rattle.life_cycle.specs.declared.LifeCycle.{LifeCycle}
use Rattle.model.specs.declared.Failure.TheVariants.{DigestFailed, LifeCycleFailed}
use Rattle.model.specs.Answers.{Answer}
use Rattle.model.specs.PowerUp.{PowerUpEnd, life_cycle_end, end_of, powered_answer}

pub powered-answer : (Q : Answer → Type 0) (v : Option ℕ) (life : Option LifeCycle) → ((value : ℕ) → Q (Ok value))
    → ((number : ℕ) → Q (Err (DigestFailed number))) → ((value : ℕ) → Q (Err (LifeCycleFailed value))) → Q (powered_answer (end_of v life))
unfolding powered_answer end_of life_cycle_end
powered-answer Q (Some number) life f g h = g number
powered-answer Q None None f g h = h 0xFFFF
powered-answer Q None (Some life) f g h = if-both (λ (w : PowerUpEnd). Q (powered_answer w)) _ _ _ (λ e. h _) (λ e. f _)
