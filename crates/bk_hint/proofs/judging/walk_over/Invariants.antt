use Rattle.std.proofs.Common.{length}
use Rattle.bk_hint.proofs.Walks.{Walking}
use Rattle.bk_hint.proofs.judging.walk_over.Given as goal

abbrev pub invariant-loop-left : goal.invariant-loop-left
invariant-loop-left l = Walking l.fn.bytes l.left l.unchecked l.covered l.rows l.first_bad l.check

abbrev pub decreases-loop-left : goal.decreases-loop-left
decreases-loop-left l = length l.left
