-- Commands after which Ready lasts. The idea: each is an act whose effect leaves the phase.
use Rattle.std.specs.Prelude.{Ok, Err}
use mathlib.Core.Path.{◌≡◌, refl, ◌∙◌}
use mathlib.Core.Bool.{false}
use lib.Dec.{eqb}
use borrow.Author.Tests.{eqb-false}
use Rattle.partitions.specs.Map.{Map}
use Rattle.model.specs.declared.Command.{Command}
use Rattle.model.specs.Answers.{Answer, code_of}
use Rattle.model.specs.Lent.{Machine, Primitives}
use Rattle.model.specs.Acts.{Effect}
use Rattle.model.specs.Commands.{ready_act, class_of, transiting}
use Rattle.model.specs.Step.{act, step, answer_to}
use Rattle.model.specs.Claims.Terms.{ValidInputs, stays_ready}
use Rattle.model.specs.declared.Failure.TheVariants.{StrokesUsed, NotBlank, NotInTable, TokenNotLocked, TokenDiffers}
use Rattle.model.proofs.Acts.{Gives}
use Rattle.model.proofs.Steps.{obeys-act, step-obeys}
use Rattle.model.proofs.Effects.{leaves_phase}
use Rattle.model.proofs.Leaves.{act-gives}
use Rattle.model.proofs.Classes.{no-power-up, lasts_on}

-- an answer with which Ready lasts goes with an effect that leaves the phase
abbrev LeavesPhase : Command → Answer → Effect → Type 0
LeavesPhase x answer t = stays_ready x answer → leaves_phase t

-- a transition that answers other than 0x11 is none
other : (x : Command) (answer : Answer) → class_of x ≡ transiting → eqb (code_of answer) 0x11 ≡ false → stays_ready x answer → ⊥
other x answer e t h = eqb-false _ _ t (rw (e, stays_ready) at h)

pub act-leaves-phase : (prims : Primitives) (map : Map) (m : Machine) (x : Command) → Gives (LeavesPhase x) (ready_act prims map m x)
act-leaves-phase prims map m x = act-gives prims map m (record {
  refused = λ r h. tt;
  done = λ q value h. tt;
  not_blank = λ q cell h. tt;
  locked = λ n e h. tt;
  used = λ e h. other x (Err StrokesUsed) e refl h;
  spent = λ e. record {
    not-blank = λ cell h. other x (Err (NotBlank cell)) e refl h;
    moved = λ h. other x (Ok 0) e refl h;
    forbidden = λ h. other x (Err NotInTable) e refl h;
    token_unlocked = λ h. other x (Err TokenNotLocked) e refl h;
    differs = λ h. other x (Err TokenDiffers) e refl h;
  };
})

-- a command after which Ready lasts is an act
pub step-act : (prims : Primitives) (map : Map) (x : Command) (m : Machine) → ValidInputs map m
    → stays_ready x (answer_to prims map x m) → step prims map x m ≡ act prims map x m
step-act prims map x m r h =
    step-obeys prims map x m r ∙ obeys-act prims map x m (no-power-up x (lasts_on x (answer_to prims map x m) h))
