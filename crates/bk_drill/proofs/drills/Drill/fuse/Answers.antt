use Rattle.bk_drill.proofs.drills.Drill.fuse.Goals as goal
use Rattle.bk_drill.proofs.RunningLines.{runs_fuse}

pub returns : goal.returns
returns c = runs_fuse c.args.self _ _ c.args.calls c.args.effect c.fail_calls_behind.ensures c.fuse.ensures
