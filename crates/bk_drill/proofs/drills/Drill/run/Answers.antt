use Rattle.std.proofs.Common.{[]}
use Rattle.std.proofs.lemmas.Result.{IfOk-weaker}
use Rattle.bk_drill.proofs.drills.Drill.run.Goals as goal
use Rattle.bk_drill.proofs.RunningLines.{prints_none, runs_at, runs_max, runs_ttl}

pub returns-in-Max-clause-ok : goal.returns-in-Max-clause-ok
returns-in-Max-clause-ok c =
    rw c.in-Max.is (IfOk-weaker c.new.result _ _ (λ drill is. ([], prints_none _, runs_max c.args.self drill c.in-Max.max_file is)) c.new.ensures)

pub returns-in-Ttl-clause-ok : goal.returns-in-Ttl-clause-ok
returns-in-Ttl-clause-ok c =
    rw c.in-Ttl.is (IfOk-weaker c.new-in-Ttl.result _ _ (λ drill is. ([], prints_none _, runs_ttl c.args.self drill c.in-Ttl.ttl is)) c.new-in-Ttl.ensures)

pub returns-in-At-clause-ok : goal.returns-in-At-clause-ok
returns-in-At-clause-ok c = rw c.in-At.is ([], prints_none _, runs_at c.args.self c.in-At.now)

pub returns-in-Fail-clause-ok : goal.returns-in-Fail-clause-ok
returns-in-Fail-clause-ok c = rw c.in-Fail.is c.fail.ensures.ok

pub returns-in-Fuse-clause-ok : goal.returns-in-Fuse-clause-ok
returns-in-Fuse-clause-ok c = rw c.in-Fuse.is ([], prints_none _, c.fuse.ensures)

pub returns-in-By-clause-ok : goal.returns-in-By-clause-ok
returns-in-By-clause-ok c = rw c.in-By.is c.act_as_planned.ensures.ok

pub returns-in-Stop-clause-ok : goal.returns-in-Stop-clause-ok
returns-in-Stop-clause-ok c = rw c.in-Stop.is c.stop.ensures.ok
