use Rattle.bk_hint.proofs.Walks.{checked, ends-all, shorter_end}
use Rattle.bk_hint.proofs.judging.check_up_to.Goals as goal

pub overflow_sub-walked : goal.overflow_sub-walked
overflow_sub-walked c = shorter_end c.args.unchecked.now c.args.left.now c.requires

pub returns-clause-same : goal.returns-clause-same
returns-clause-same c = rw c.add.ensures (checked c.args.check.now c.args.unchecked.now c.args.left.now c.requires)

pub returns-clause-ends : goal.returns-clause-ends
returns-clause-ends c = ends-all c.args.left.now
