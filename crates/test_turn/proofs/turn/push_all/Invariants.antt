use Rattle.std.proofs.Common.{◌≡◌}
use mathlib.Core.List.{IsPrefix}
use Rattle.bk_turn.specs.Handles.{turn_id}
use Rattle.bk_turn.specs.Places.{place_view, HasPass}
use Rattle.test_turn.proofs.turn.push_all.Given as goal

abbrev pub invariant-loop-number : goal.invariant-loop-number
invariant-loop-number g l = record {
  turn : HasPass (turn_id l.turn) l.place;
  weight : (place_view l.place).weight ≡ (place_view l.initial.place).weight;
  seen : IsPrefix (place_view l.initial.place).seen (place_view l.place).seen;
}
