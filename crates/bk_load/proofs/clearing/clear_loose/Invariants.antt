use Rattle.std.proofs.Common.{IsTrue, take}
use Rattle.bk_disk.specs.Told.{at}
use Rattle.bk_load.specs.Courses.{Came}
use Rattle.bk_load.proofs.LooseFiles.{ClearedSome}
use Rattle.bk_load.proofs.clearing.clear_loose.Given as goal

abbrev pub invariant-loop-file : goal.invariant-loop-file
invariant-loop-file g l = record {
  came : Came g.D.Disk.tells
      (g.D.Disk.shown l.fn.disk)
      (g.D.Disk.shown l.disk);
  cleared : IsTrue g.D.Disk.tells
      → ClearedSome (at (g.D.Disk.shown l.fn.disk).told.image) (at (g.D.Disk.shown l.disk).told.image) (take l.file-index l.file-items);
}
