-- One command, and lists of commands: "each gets the cells, copy and record that the last one left".
use Rattle.std.specs.Prelude.{ℕ, Bool, not, List, [], ◌∷◌, length, Err, Option, None, Some}
use Rattle.basics.specs.Choice.{when◌then◌else◌}
use Rattle.partitions.specs.Map.{Map}
use Rattle.constants.specs.Constants.{valid_constants}
use Rattle.model.specs.declared.Sizes.{Sizes}
use Rattle.model.specs.declared.Failure.{Failure}
use Rattle.model.specs.declared.Failure.TheVariants.{WrongLength, InvalidConstants}
use Rattle.model.specs.declared.Command.{Command}
use Rattle.model.specs.Answers.{Answer}
use Rattle.model.specs.Lent.{Machine, Primitives, with_cells, with_copy, sizes_of, right_sizes}
use Rattle.model.specs.Acts.{Performed, perform, effect_on}
use Rattle.model.specs.Commands.{ready_act, class_of, sensing, transiting, access}
use Rattle.model.specs.PowerUp.{verdict_of, power_up_end, powered_copy, powered_session, powered_answer}

-- what is lent and the record after a command, with its answer
pub record Answered : Type 0 where
  pub machine : Machine
  pub answer : Answer

-- the same, with the command's token comparisons and integrity verdicts, none or one each. "A token comparison is the test behind 0x23, its
-- result whether the tokens agree."
pub record Step : Type 0 where
  pub result : Answered
  pub compared : List Bool
  pub verdicts : List (Option ℕ)

-- "A refusal leaves cells, copy and record as they were"
unfoldable pub unchanged : Failure → Machine → Step
unchanged failure m = record { result = record { machine = m; answer = Err failure }; compared = []; verdicts = [] }

-- the cells are what the act left, the copy stays, and the record is as the act's effect leaves it
unfoldable pub performed : Performed → Machine → Step
performed r m =
    record {
      result = record {
        machine = record {
          lent = with_cells r.cells m.lent;
          session = effect_on r.effect m.session;
        };
        answer = r.answer;
      };
      compared = r.compared;
      verdicts = [];
    }

-- "Order: 0x10, 0x12, 0x07 for phase or record, then 0x11, then 0x05, then 0x04.": the first two, for every command. What is lent is refused, or it is
-- not.
unfoldable pub judgement : Map → Sizes → List ℕ → Option Failure
judgement map sizes constants =
    when not (right_sizes map sizes (length constants)) then Some WrongLength
    else when not (valid_constants constants) then Some InvalidConstants
    else None

module _ (prims : Primitives) (map : Map) where
  -- a command but power-up: decided, then performed
  unfoldable pub act : Command → Machine → Step
  act x m = performed (perform (ready_act prims map m x) m.lent) m

  -- power-up, with its integrity verdict
  unfoldable pub power_up : Machine → Step
  power_up m =
      let l = m.lent in
      let w = power_up_end prims map l in
      record {
        result = record {
          machine = record {
            lent = with_copy (powered_copy prims map w l) l;
            session = powered_session map w l;
          };
          answer = powered_answer w;
        };
        compared = [];
        verdicts = verdict_of prims map l ∷ [];
      }

  -- a command once what is lent is judged
  unfoldable pub obey : Command → Machine → Step
  obey x m = elim (class_of x) [ sensing ↦ power_up m | transiting ↦ act x m | access ↦ act x m ]

  unfoldable pub step : Command → Machine → Step
  step x m = elim (judgement map (sizes_of m.lent) m.lent.constants) [ Some failure ↦ unchanged failure m | None ↦ obey x m ]

  -- the machine after a command, and the answer
  abbrev pub machine_after : Command → Machine → Machine
  machine_after x m = (step x m).result.machine

  abbrev pub answer_to : Command → Machine → Answer
  answer_to x m = (step x m).result.answer

  -- the machine after a list of commands, and the answers
  unfoldable pub after : List Command → Machine → Machine
  after [] m = m
  after (x ∷ xs) m = after xs (machine_after x m)

  unfoldable pub answers : List Command → Machine → List Answer
  answers [] m = []
  answers (x ∷ xs) m = answer_to x m ∷ answers xs (machine_after x m)
