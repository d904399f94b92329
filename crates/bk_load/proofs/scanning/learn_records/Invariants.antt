use Rattle.std.proofs.Common.{◌≡◌, ◌+◌, ◌≤◌, ◌++◌, length}
use Rattle.bk_files.specs.Scan.{IsTold, file_len}
use Rattle.bk_load.specs.Learning.{AreFit, KeepsWithin}
use Rattle.bk_load.proofs.Scans.{Scanning}
use Rattle.bk_load.proofs.scanning.learn_records.Given as goal

abbrev pub invariant-records : goal.invariant-records
invariant-records g l = record {
  rest : g.V.View.rest l.view ≡ l.scan.unread;
  told : IsTold g.V.View.tells (g.V.View.left l.initial.view) (g.V.View.rest l.initial.view)
      → IsTold g.V.View.tells (g.V.View.left l.view) (g.V.View.rest l.view);
  len : file_len l.scan ≡ file_len l.initial.scan;
  file : l.scan.file ≡ l.initial.scan.file;
  so : IsTold g.V.View.tells (g.V.View.left l.initial.view) (g.V.View.rest l.initial.view)
      → Scanning (l.initial.scan.held ++ g.V.View.left l.initial.view) l.initial.scan.file l.initial.scan.place
      l.scan.place (l.scan.held ++ g.V.View.left l.view) l.initial.learned l.learned;
  kept : KeepsWithin l.initial.scan.file (file_len l.initial.scan) l.initial.learned.keys.entries l.learned.keys.entries;
  fit : AreFit l.initial.learned → AreFit l.learned;
  later : g.V.View.faults l.initial.view ≤ g.V.View.faults l.view;
  fallible : g.V.View.fallible l.view ≡ g.V.View.fallible l.initial.view;
}

abbrev pub decreases-records : goal.decreases-records
decreases-records g l = length l.scan.held + l.scan.unread
