use Rattle.std.proofs.Common.{[], refl}
use Rattle.bk_store.proofs.FoldSteps.{quiet_same}
use Rattle.bk_store.proofs.Stepping.{crash_still}
use Rattle.bk_store.proofs.store.Store.merge_due.Goals as goal

pub returns-clause-quiet : goal.returns-clause-quiet
returns-clause-quiet g c = λ tells who. quiet_same g.D.Disk.tells c.args.self.now c.args.self.now who refl

pub returns-clause-crash : goal.returns-clause-crash
returns-clause-crash g c = λ tells. crash_still c.args.self.now c.args.self.now [] refl refl
