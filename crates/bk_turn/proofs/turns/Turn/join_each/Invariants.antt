use Rattle.std.proofs.Common.{◌≡◌, ℕ, ◌<◌, ◌≤◌, length, get_or, take, Option, None}
use Rattle.bk_turn.specs.declared.passes.Pass.{Pass}
use Rattle.bk_turn.specs.Handles.{turn_id, pass_turn, pass_view}
use Rattle.bk_turn.specs.Places.{weights_of, Keeps, IsSeenIn}
use Rattle.bk_turn.proofs.turns.Turn.join_each.Given as goal

abbrev pub invariant-loop-place : goal.invariant-loop-place
invariant-loop-place g l = let old = pass_view l.initial.pass in let now = pass_view l.pass in record {
  turn : pass_turn l.pass ≡ turn_id l.self;
  keeps : Keeps old (weights_of (take l.place-index l.initial.places)) now;
  seen : now.seen ≡ old.seen;
  joined : (k : ℕ) (d : Option Pass) → k < l.place-index → IsSeenIn old.seen (get_or l.initial.places k d);
  emptied : (k : ℕ) (d : Option Pass) → k < l.place-index → get_or l.places k d ≡ None;
  left : (k : ℕ) (d : Option Pass) → l.place-index ≤ k → k < length l.places
      → get_or l.places k d ≡ get_or l.initial.places k d;
}
