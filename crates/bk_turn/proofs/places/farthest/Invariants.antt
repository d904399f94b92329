use Rattle.std.proofs.Common.{◌<◌, ◌≤◌, ℕ, length, get_or, Option}
use Rattle.bk_turn.specs.declared.passes.Pass.{Pass}
use Rattle.bk_turn.specs.Places.{place_view, end_of}
use Rattle.bk_turn.proofs.places.farthest.Given as goal

abbrev pub invariant-loop-i : goal.invariant-loop-i
invariant-loop-i l = record {
  within : l.most < length l.places;
  farthest : (k : ℕ) (d : Option Pass) → k < l.i
      → end_of (place_view (get_or l.places k d)) ≤ end_of (place_view (get_or l.places l.most d));
}
