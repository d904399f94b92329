use Rattle.std.proofs.Common.{◌≡◌}
use Rattle.bk_turn.proofs.steps.wait.Given as goal

abbrev pub invariant-loop : goal.invariant-loop
invariant-loop g l = record {
  going : (goal.iterator-loop g).can_next l.iterator' × (goal.iterator-loop g).is_finite l.iterator';
  table : l.seat.table_id ≡ l.initial.seat.table_id;
  seat : l.seat.me ≡ l.initial.seat.me;
}
