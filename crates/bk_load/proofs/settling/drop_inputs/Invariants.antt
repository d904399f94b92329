use Rattle.std.proofs.Common.{IsTrue, take}
use Rattle.bk_disk.specs.Told.{at}
use Rattle.bk_swap.specs.Lists.{numbers}
use Rattle.bk_load.specs.Courses.{Came}
use Rattle.bk_load.specs.Steps.{LosesInputs}
use Rattle.bk_load.proofs.settling.drop_inputs.Given as goal

abbrev pub invariant-loop-input : goal.invariant-loop-input
invariant-loop-input g l = record {
  came : Came g.D.Disk.tells
      (g.D.Disk.shown l.initial.disk)
      (g.D.Disk.shown l.disk);
  lost : IsTrue g.D.Disk.tells → LosesInputs (numbers (take l.input-index l.inputs)) (at (g.D.Disk.shown l.initial.disk).told.image)
      (at (g.D.Disk.shown l.disk).told.image);
}
