-- What an act makes of the session record. The idea: each law is read off the four effects.
use mathlib.Core.Path.{◌≡◌, refl}
use mathlib.Core.Bool.{true}
use Rattle.basics.proofs.Choice.{true-not-false}
use Rattle.model.specs.declared.Session.{Session}
use Rattle.model.specs.Session.{is_ready}
use Rattle.model.specs.Acts.{Effect, no_effect, lock, to_inert, to_dead, effect_on}

-- what was sensed stays, and no phase becomes Ready
pub effect-sensed : (t : Effect) (s : Session) → (effect_on t s).sensed ≡ s.sensed
unfolding effect_on
effect-sensed no_effect s = refl
effect-sensed (lock number) s = refl
effect-sensed to_inert s = refl
effect-sensed to_dead s = refl

pub effect-life : (t : Effect) (s : Session) → ((effect_on t s).state ≡ s.state) × ((effect_on t s).count ≡ s.count)
unfolding effect_on
effect-life no_effect s = (refl, refl)
effect-life (lock number) s = (refl, refl)
effect-life to_inert s = (refl, refl)
effect-life to_dead s = (refl, refl)

pub effect-ready : (t : Effect) (s : Session) → is_ready (effect_on t s).phase ≡ true → is_ready s.phase ≡ true
unfolding effect_on is_ready
effect-ready no_effect s e = e
effect-ready (lock number) s e = e
effect-ready to_inert s e = absurd (true-not-false e refl)
effect-ready to_dead s e = absurd (true-not-false e refl)

-- an effect that leaves the phase
abbrev pub leaves_phase : Effect → Type 0
leaves_phase no_effect = Unit {0}
leaves_phase (lock number) = Unit {0}
leaves_phase to_inert = ⊥
leaves_phase to_dead = ⊥

pub leaves-phase : (t : Effect) (s : Session) → leaves_phase t → (effect_on t s).phase ≡ s.phase
unfolding effect_on
leaves-phase no_effect s h = refl
leaves-phase (lock number) s h = refl
leaves-phase to_inert s h = elim h [ ]
leaves-phase to_dead s h = elim h [ ]
