use Rattle.std.proofs.Common.{◌≡◌, IsTrue, take}
use Rattle.std.specs.List.{AllByRecursion}
use Rattle.bk_base.specs.declared.names.Name.{Name}
use Rattle.bk_disk.specs.Told.{at}
use Rattle.bk_image.specs.CountedFiles.{Counts}
use Rattle.bk_image.specs.Readings.{Books, bytes_in, main}
use Rattle.bk_image.specs.RecoveredLog.{HintsTrue}
use Rattle.bk_laws.specs.Record.{AreRecords}
use Rattle.bk_load.specs.Courses.{Came}
use Rattle.bk_load.specs.Found.{HaveRead, IsFound, IsUncounted, KeepsFound}
use Rattle.bk_load.specs.Learning.{AreFit}
use Rattle.bk_load.specs.Steps.{IsSyncedFile}
use Rattle.bk_load.specs.declared.files.FileFound.{FileFound}
use Rattle.bk_load.proofs.FoundFiles.{found_ids, ids_of}
use Rattle.bk_load.proofs.files.read_files.Given as goal

abbrev pub invariant-files : goal.invariant-files
invariant-files g l = record {
  came : Came g.D.Disk.tells
      (g.D.Disk.shown l.fn.disk)
      (g.D.Disk.shown l.disk);
  image : IsTrue g.D.Disk.tells → (g.D.Disk.shown l.disk).told.image ≡ (g.D.Disk.shown l.fn.disk).told.image;
  fit : AreFit l.fn.learned → AreFit l.learned;
  kept : KeepsFound l.found.items l.fn.learned.keys.entries l.learned.keys.entries;
  ids : found_ids l.found.items ≡ ids_of (take l.main-index l.main-items);
  uncounted : AllByRecursion IsUncounted l.found.items;
  found : IsTrue g.D.Disk.tells → AllByRecursion (IsFound (at (g.D.Disk.shown l.fn.disk).told.image)) l.found.items;
  synced : IsTrue g.D.Disk.tells
      → AllByRecursion (λ (f : FileFound). IsSyncedFile (g.D.Disk.shown l.disk).told (main f.row.id.0)) l.found.items;
  read : IsTrue g.D.Disk.tells → (books : Books)
      → ((n : Name) → Counts (at (g.D.Disk.shown l.fn.disk).told.image) n
      → AreRecords (bytes_in (at (g.D.Disk.shown l.fn.disk).told.image) n) (books n))
      → HintsTrue (at (g.D.Disk.shown l.fn.disk).told.image) books → HaveRead books l.found.items l.fn.learned l.learned;
}
