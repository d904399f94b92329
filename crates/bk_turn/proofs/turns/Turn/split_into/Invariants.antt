use Rattle.std.proofs.Common.{◌≡◌, ℕ, ◌-◌, ◌<◌, ◌≤◌, length, get_or, Option, None}
use Rattle.bk_turn.specs.declared.passes.Pass.{Pass}
use Rattle.bk_turn.specs.Handles.{turn_id, pass_turn, pass_view}
use Rattle.bk_turn.specs.Places.{HasSplit}
use Rattle.bk_turn.proofs.turns.Turn.split_into.Given as goal

abbrev pub invariant-loop-place : goal.invariant-loop-place
invariant-loop-place g l = let view = pass_view l.initial.pass in record {
  turn : pass_turn l.pass ≡ turn_id l.self;
  kept : pass_view l.pass ≡ record view { weight = view.weight - l.place-index };
  given : (k : ℕ) (d : Option Pass) → k < l.place-index → HasSplit (turn_id l.self) view (get_or l.places k d);
  empty : (k : ℕ) (d : Option Pass) → l.place-index ≤ k → k < length l.places → get_or l.places k d ≡ None;
}
