-- A history's own steps, and what a pass knows before and after a call.
use Rattle.std.specs.Prelude.{◌≡◌, ◌==◌, ℕ, ◌+◌, false, ◌||◌, List, [], ◌∷◌, ◌++◌, length, nat_lt, if◌then◌else◌, Option, Some, None}
use Rattle.std.specs.List.{filter}
use mathlib.Core.List.{IsPrefix}
use Rattle.bk_base.specs.declared.histories.Opening.{Opening}
use Rattle.bk_base.specs.declared.histories.Step.{Step}
use Rattle.bk_turn.specs.declared.views.View.{View}

-- the steps of one caller, in order
abbrev pub own : ℕ → List Step → List Step
own n steps = filter (λ step. step.entry.caller == n) steps

-- the steps of a pass: none while it has no number
abbrev pub own_of : Option ℕ → List Step → List Step
own_of None steps = []
own_of (Some n) steps = own n steps

-- the number of a pass that holds the turn at this place
abbrev pub number_at : Option ℕ → ℕ → ℕ
number_at None place = place
number_at (Some n) place = n

-- two passes don't have one number
abbrev pub IsApart : Option ℕ → Option ℕ → Type 0
IsApart None right = Unit {0}
IsApart (Some n) None = Unit {0}
IsApart (Some n) (Some m) = n ≡ m → ⊥

-- the longer of two lists, the left one where they are as long
abbrev pub longer : List Step → List Step → List Step
longer left right = if nat_lt (length left) (length right) then right else left

-- what the first pass of a turn knows
abbrev pub opening_view : ℕ → Opening → View
opening_view first opening =
    record { opening = opening; seen = []; number = None; first = first; weight = 4294967296; full = false }

-- what a pass knows that was split from one that knows `view`
abbrev pub split_view : View → View
split_view view =
    record {
      opening = view.opening;
      seen = view.seen;
      number = None;
      first = view.first;
      weight =
          1;
      full = false;
    }

-- A holding at `place` has seen the whole history. It begins with what its pass had seen, and no later step is its pass's own.
pub record Continues (old : View) (place number : ℕ) (now : View) : Type 0 where
  pub same : (now.first ≡ old.first) × (now.opening ≡ old.opening) × (now.number ≡ old.number)
      × (now.weight ≡ old.weight) × (now.full ≡ old.full)
  pub seen : IsPrefix old.seen now.seen
  pub placed : place ≡ old.first + length now.seen
  pub numbered : number ≡ number_at old.number place
  pub own_kept : own number now.seen ≡ own_of old.number old.seen

-- A holding has ended with this step, which is its pass's own.
pub record Ends (old : View) (number : ℕ) (step : Step) (now : View) : Type 0 where
  pub same : (now.first ≡ old.first) × (now.opening ≡ old.opening) × (now.weight ≡ old.weight) × (now.full ≡ old.full)
  pub seen : now.seen ≡ old.seen ++ step ∷ []
  pub numbered : now.number ≡ Some number
  pub own_added : own number now.seen ≡ own number old.seen ++ step ∷ []

-- Two passes were made one. What one of them had seen begins what the other had seen, and the longer is kept; no step that one had not seen was its own.
pub record Joins (left right now : View) : Type 0 where
  pub same : (now.first ≡ left.first) × (now.opening ≡ left.opening) × (now.number ≡ left.number)
  pub one_turn : (right.first ≡ left.first) × (right.opening ≡ left.opening)
  pub longer_kept : now.seen ≡ longer left.seen right.seen
  pub left_seen : IsPrefix left.seen now.seen
  pub right_seen : IsPrefix right.seen now.seen
  pub left_own : own_of left.number now.seen ≡ own_of left.number left.seen
  pub right_own : own_of right.number now.seen ≡ own_of right.number right.seen
  pub apart : IsApart left.number right.number
  pub weighs : now.weight ≡ left.weight + right.weight
  pub found_full : now.full ≡ (left.full || right.full)

-- One whole turn of a pass: the step was added to the history as it was then, which goes on after what the pass had seen, and is the pass's own.
pub record Advances (old : View) (step : Step) (now : View) : Type 0 where
  pub before : List Step
  pub same : (now.first ≡ old.first) × (now.opening ≡ old.opening) × (now.weight ≡ old.weight) × (now.full ≡ old.full)
  pub goes_on : IsPrefix old.seen before
  pub seen : now.seen ≡ before ++ step ∷ []
  pub numbered : now.number ≡ Some (number_at old.number (old.first + length before))
  pub called : step.entry.caller ≡ number_at old.number (old.first + length before)
  pub own_added : own_of now.number now.seen ≡ own_of old.number old.seen ++ step ∷ []
