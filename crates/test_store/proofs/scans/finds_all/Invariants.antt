use Rattle.std.proofs.Common.{◌≡◌}
use Rattle.test_store.proofs.scans.finds_all.Given as goal

abbrev pub invariant-loop-place : goal.invariant-loop-place
invariant-loop-place g l = g.V.View.rest l.view ≡ l.scan.unread
