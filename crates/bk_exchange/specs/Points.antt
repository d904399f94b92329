-- A history step by step: what was there before each step, and which calls are a caller's own.
use Rattle.std.specs.Prelude.{◌≡◌, ◌⊎◌, ℕ, Bool, false, ◌==◌, List, [], ◌∷◌, filter}
use Rattle.std.specs.List.{flat_map}
use Rattle.bk_base.specs.declared.calls.Answer.{Answer}
use Rattle.bk_base.specs.declared.calls.Call.{Call}
use Rattle.bk_base.specs.declared.calls.Call.TheVariants.{Quiet}
use Rattle.bk_base.specs.declared.histories.Opening.{Opening}
use Rattle.bk_base.specs.declared.histories.Snapshot.{Snapshot}
use Rattle.bk_base.specs.declared.histories.Step.{Step}
use Rattle.bk_laws.specs.History.{State, after, opened}

-- What stands between two steps: the log and the open folds, and the files as the last step ended.
pub record Point : Type 0 where
  pub state : State
  pub snapshot : Snapshot

abbrev pub opening_point : Opening → Point
opening_point o = record { state = opened o; snapshot = o.snapshot }

abbrev pub next_point : Point → Step → Point
next_point p step = record { state = after p.state step.entry; snapshot = step.snapshot }

abbrev pub point_after : Point → List Step → Point
point_after p [] = p
point_after p (step ∷ steps) = point_after (next_point p step) steps

-- where a history stands
abbrev pub point_of : Opening → List Step → Point
point_of o h = point_after (opening_point o) h

-- a step, and what was there before it
pub record Event : Type 0 where
  pub before : Point
  pub step : Step

abbrev pub events : Point → List Step → List Event
events p [] = []
events p (step ∷ steps) = (record { before = p; step = step }) ∷ events (next_point p step) steps

-- The events of one caller. Other callers' may stand between them.
abbrev pub is_by : ℕ → Event → Bool
is_by who e = e.step.entry.caller == who

abbrev pub own : ℕ → List Event → List Event
own who es = filter (is_by who) es

-- steps of other callers alone
abbrev pub AreOthers : ℕ → List Step → Type 0
AreOthers who [] = Unit {0}
AreOthers who (step ∷ steps) = ((step.entry.caller == who) ≡ false) × AreOthers who steps

-- a call and its answer
pub record Said : Type 0 where
  pub call : Call
  pub answer : Answer

abbrev pub said : Call → Answer → Said
said call answer = record { call = call; answer = answer }

-- a call, unless it is quiet: a quiet one changes nothing that an answer depends on
abbrev pub heard : Call → Answer → List Said
heard Quiet answer = []
heard call answer = said call answer ∷ []

abbrev pub calls_of : List Event → List Said
calls_of es = flat_map (λ (e : Event). heard e.step.entry.call e.step.entry.reply) es

-- at one of them
abbrev pub AtOne : {X : Type 0} → (X → Type 0) → List X → Type 0
AtOne P [] = ⊥
AtOne P (x ∷ xs) = P x ⊎ AtOne P xs
