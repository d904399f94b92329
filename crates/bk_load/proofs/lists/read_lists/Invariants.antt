use Rattle.std.proofs.Common.{◌≡◌, IsTrue, take}
use Rattle.bk_disk.specs.Told.{at}
use Rattle.bk_load.specs.Courses.{Came}
use Rattle.bk_load.proofs.ReadLists.{ReadSome}
use Rattle.bk_load.proofs.lists.read_lists.Given as goal

abbrev pub invariant-loop-swap : goal.invariant-loop-swap
invariant-loop-swap g l = record {
  came : Came g.D.Disk.tells
      (g.D.Disk.shown l.fn.disk)
      (g.D.Disk.shown l.disk);
  image : IsTrue g.D.Disk.tells → (g.D.Disk.shown l.disk).told.image ≡ (g.D.Disk.shown l.fn.disk).told.image;
  read : IsTrue g.D.Disk.tells → ReadSome (at (g.D.Disk.shown l.fn.disk).told.image) (take l.swap-index l.swap-items) l.lists;
}
