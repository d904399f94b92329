use Rattle.bk_drill.proofs.drills.Drill.act.Goals as goal

pub returns-in-Put : goal.returns-in-Put
returns-in-Put c = rw c.in-Put.is (c.put.ensures.put c.args.actor.0)

pub returns-in-Big : goal.returns-in-Big
returns-in-Big c = rw c.in-Big.is (c.put_big.ensures c.args.actor.0)

pub returns-in-Delete : goal.returns-in-Delete
returns-in-Delete c = rw c.in-Delete.is (c.delete.ensures c.args.actor.0)

pub returns-in-Reap : goal.returns-in-Reap
returns-in-Reap c = rw c.in-Reap.is (c.reap.ensures c.args.actor.0)

pub returns-in-Sync : goal.returns-in-Sync
returns-in-Sync c = rw c.in-Sync.is (c.sync.ensures c.args.actor.0)
