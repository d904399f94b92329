use Rattle.std.proofs.Common.{◌≡◌, ◌+◌, ◌-◌, ◌≤◌, false, length, take, drop, IsTrue}
use Rattle.bk_disk.proofs.views.read_exact.Given as goal

abbrev pub invariant-loop-at : goal.invariant-loop-at
invariant-loop-at g l = record {
  within : l.at ≤ length l.into;
  long : length l.into ≡ length l.initial.into;
  rest : l.at + g.V.View.rest l.view ≡ g.V.View.rest l.initial.view;
  bytes : IsTrue g.V.View.tells → take l.at l.into ≡ take l.at (g.V.View.left l.initial.view);
  left : IsTrue g.V.View.tells → g.V.View.left l.view ≡ drop l.at (g.V.View.left l.initial.view);
  later : g.V.View.faults l.initial.view ≤ g.V.View.faults l.view;
  kept : g.V.View.fallible l.initial.view ≡ false → g.V.View.faults l.view ≡ g.V.View.faults l.initial.view;
  fallible : g.V.View.fallible l.view ≡ g.V.View.fallible l.initial.view;
}

abbrev pub decreases-loop-at : goal.decreases-loop-at
decreases-loop-at g l = length l.into - l.at
