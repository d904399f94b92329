-- A pass in an `Option`, and the passes that were split from one.
use Rattle.std.specs.Prelude.{◌≡◌, ◌+◌, ℕ, true, List, length, Option, Some, None, is_some, IsSomeAnd, IfSome}
use mathlib.Core.List.{IsPrefix}
use Rattle.std.specs.List.{sum_by}
use Rattle.std.specs.Option.{ForSome}
use Rattle.bk_base.specs.declared.histories.Step.{Step}
use Rattle.bk_turn.specs.declared.passes.Pass.{Pass}
use Rattle.bk_turn.specs.declared.views.View.{View}
use Rattle.bk_turn.specs.History.{own_of, split_view}
use Rattle.bk_turn.specs.Handles.{TurnId, pass_turn, pass_view}
use Rattle.bk_turn.specs.Seats.{spent_view}

-- what the pass in a place knows; nothing, with no weight, where there is none
abbrev pub place_view : Option Pass → View
place_view None = spent_view
place_view (Some pass) = pass_view pass

-- a pass of this turn is there; in this form it can stand in a ghost field too
abbrev pub HasPass : TurnId → Option Pass → Type 0
HasPass turn place = ForSome place (λ pass. pass_turn pass ≡ turn) × (is_some place ≡ true)

-- a pass of this turn is there that was split from one that knows `view`
abbrev pub HasSplit : TurnId → View → Option Pass → Type 0
HasSplit turn view place = IsSomeAnd place (λ pass. (pass_turn pass ≡ turn) × (pass_view pass ≡ split_view view))

-- the weights of the passes in these places together
abbrev pub weights_of : List (Option Pass) → ℕ
weights_of places = sum_by (λ place. (place_view place).weight) places

-- a pass in this place, if there is one, is of this turn
abbrev pub MayHavePass : TurnId → Option Pass → Type 0
MayHavePass turn place = IfSome place (λ pass. pass_turn pass ≡ turn)

-- the place in the history up to which a pass has seen it
abbrev pub end_of : View → ℕ
end_of view = view.first + length view.seen

-- a pass that knows `now` knew `old` and took over other passes with this weight: it keeps its number, and no step was added to its own
pub record Keeps (old : View) (weight : ℕ) (now : View) : Type 0 where
  pub same : (now.first ≡ old.first) × (now.opening ≡ old.opening) × (now.number ≡ old.number)
  pub seen : IsPrefix old.seen now.seen
  pub own_kept : own_of old.number now.seen ≡ own_of old.number old.seen
  pub weighs : now.weight ≡ old.weight + weight

-- what the pass in a place has seen begins these steps, and no step after that is its own
pub record IsSeenIn (steps : List Step) (place : Option Pass) : Type 0 where
  pub seen : IsPrefix (place_view place).seen steps
  pub own_kept : own_of (place_view place).number steps ≡ own_of (place_view place).number (place_view place).seen
