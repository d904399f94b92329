use Rattle.std.proofs.Common.{refl}
use Rattle.bk_drill.proofs.drills.Drill.sync.Goals as goal
use Rattle.bk_drill.proofs.Writing.{sync_acts, sync_fails}

pub returns-in-Ok : goal.returns-in-Ok
returns-in-Ok c =
    sync_acts c.args.self.now _ (record { now = refl; plan = refl; settings = refl; loans = λ n. refl; listed = λ n. refl })
    c.sync.ensures.rest c.sync.ensures.same c.in-Ok.seq (c.in-Ok.ensures.ok refl)

pub returns-in-Err : goal.returns-in-Err
returns-in-Err c =
    sync_fails c.args.self.now _ (record { now = refl; plan = refl; settings = refl; loans = λ n. refl; listed = λ n. refl })
    c.sync.ensures.rest c.sync.ensures.same c.in-Err.ensures.cause.failed (c.in-Err.ensures.refused refl)
