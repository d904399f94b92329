use Rattle.std.proofs.Common.{IsTrue, length}
use Rattle.bk_disk.specs.Told.{at}
use Rattle.bk_load.specs.Courses.{Came}
use Rattle.bk_load.specs.Lists.{AreLists}
use Rattle.bk_load.proofs.settling.settle_lists.Given as goal

abbrev pub invariant-lists : goal.invariant-lists
invariant-lists g l = record {
  came : Came g.D.Disk.tells
      (g.D.Disk.shown l.initial.disk)
      (g.D.Disk.shown l.disk);
  lists : IsTrue g.D.Disk.tells → AreLists (at (g.D.Disk.shown l.disk).told.image) l.waiting;
}

abbrev pub decreases-lists : goal.decreases-lists
decreases-lists g l = length l.waiting
