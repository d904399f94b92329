-- A list of numbers as what its pushes leave. The tests and the measurements put such a list under the turn.
use Rattle.std.specs.Prelude.{◌≡◌, ℕ, List, map, All}
use Rattle.bk_base.specs.declared.histories.Step.{Step}
use Rattle.bk_base.specs.Blanks.{blank_step}
use Rattle.bk_turn.specs.declared.views.View.{View}
use Rattle.bk_turn.specs.History.{Advances}

-- the push of a number by a caller
abbrev pub push_step : ℕ → ℕ → Step
push_step caller number = record blank_step { entry = record blank_step.entry { caller = caller }; faults = number }

-- the number that a step pushed
abbrev pub pushed : Step → ℕ
pushed step = step.faults

-- the steps are pushes, of these numbers
pub record ArePushes (numbers : List ℕ) (steps : List Step) : Type 0 where
  pub in_order : numbers ≡ map pushed steps
  pub pushes : All (λ step. step ≡ push_step step.entry.caller step.faults) steps

-- one whole turn of a pass that pushed this number
abbrev pub Pushes : View → ℕ → View → Type 0
Pushes old number now = (caller : ℕ) × Advances old (push_step caller number) now
