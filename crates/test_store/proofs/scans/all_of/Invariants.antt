use Rattle.std.proofs.Common.{◌≡◌, ◌+◌, ◌++◌, length}
use Rattle.bk_files.specs.Scan.{AreFirst, IsTold, file_len}
use Rattle.test_store.proofs.scans.all_of.Given as goal

abbrev pub invariant-loop-found : goal.invariant-loop-found
invariant-loop-found g l = record {
  rest : g.V.View.rest l.view ≡ l.scan.unread;
  told : IsTold g.V.View.tells (g.V.View.left l.initial.view) (g.V.View.rest l.initial.view)
      → IsTold g.V.View.tells (g.V.View.left l.view) (g.V.View.rest l.view);
  len : file_len l.scan ≡ file_len l.initial.scan;
  first : IsTold g.V.View.tells (g.V.View.left l.initial.view) (g.V.View.rest l.initial.view)
      → AreFirst (l.initial.scan.held ++ g.V.View.left l.initial.view) l.initial.scan.place
      l.writes.items l.scan.place (l.scan.held ++ g.V.View.left l.view);
}

abbrev pub decreases-loop-found : goal.decreases-loop-found
decreases-loop-found g l = length l.scan.held + l.scan.unread
