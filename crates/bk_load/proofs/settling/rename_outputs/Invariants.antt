use Rattle.std.proofs.Common.{IsTrue, take}
use Rattle.bk_disk.specs.Told.{at}
use Rattle.bk_swap.specs.Lists.{numbers}
use Rattle.bk_load.specs.Courses.{Came}
use Rattle.bk_load.proofs.SettledLists.{Naming}
use Rattle.bk_load.proofs.settling.rename_outputs.Given as goal

abbrev pub invariant-loop-output : goal.invariant-loop-output
invariant-loop-output g l = record {
  came : Came g.D.Disk.tells
      (g.D.Disk.shown l.fn.disk)
      (g.D.Disk.shown l.disk);
  naming : IsTrue g.D.Disk.tells → Naming (numbers (take l.output-index l.outputs)) (at (g.D.Disk.shown l.fn.disk).told.image)
      (at (g.D.Disk.shown l.disk).told.image);
}
