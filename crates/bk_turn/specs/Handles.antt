-- What a clause says of a turn, of its passes and of a holding.
use Rattle.std.specs.Prelude.{ℕ}
use Rattle.atomic_table.specs.Seated.{TableId}
use Rattle.bk_turn.specs.declared.holdings.Holding.{Holding}
use Rattle.bk_turn.specs.declared.passes.Pass.{Pass}
use Rattle.bk_turn.specs.declared.turns.Turn.{Turn}
use Rattle.bk_turn.specs.declared.views.View.{View}
use Rattle.bk_turn.specs.Badges.{seat_of}

-- what tells one turn from another
abbrev pub TurnId : Type 0
TurnId = TableId

-- which turn it is
abbrev pub turn_id : {S : Type 0} → Turn S → TurnId
turn_id turn = turn.table.shared.table_id

-- which turn a pass is of
abbrev pub pass_turn : Pass → TurnId
pass_turn pass = pass.badge.table_id

-- what a pass knows
abbrev pub pass_view : Pass → View
pass_view pass = (seat_of pass.badge.views).view

module _ {S : Type 0} where
  -- which turn a holding is of
  abbrev pub hold_turn : Holding S → TurnId
  hold_turn holding = holding.seat.table_id

  -- what a holding knows: the whole history, and what its pass knew beside it
  abbrev pub hold_view : Holding S → View
  hold_view holding = holding.seat.me.0.view

  -- the place in the history of the step that the holding will add
  abbrev pub hold_place : Holding S → ℕ
  hold_place holding = holding.place

  -- the number under which it will stand
  abbrev pub hold_number : Holding S → ℕ
  hold_number holding = holding.number
