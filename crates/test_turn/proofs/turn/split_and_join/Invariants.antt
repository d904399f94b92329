use Rattle.std.proofs.Common.{◌≡◌}
use Rattle.bk_turn.specs.Handles.{turn_id}
use Rattle.bk_turn.specs.Places.{place_view, HasPass}
use Rattle.test_turn.proofs.turn.split_and_join.Given as goal

abbrev pub invariant-loop : goal.invariant-loop
invariant-loop l = record {
  turn : HasPass (turn_id l.turn) l.place;
  weight : (place_view l.place).weight ≡ (place_view l.initial.place).weight;
}
