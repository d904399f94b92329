use Rattle.std.proofs.Common.{refl}
use Rattle.bk_drill.proofs.drills.Drill.fold.Goals as goal
use Rattle.bk_drill.proofs.Folding.{fold_opens, folds_are_full}

pub returns-in-Ok : goal.returns-in-Ok
returns-in-Ok c =
    fold_opens c.args.self.now _ c.args.actor.0 c.in-Ok.field-0
    (record { now = refl; plan = refl; settings = refl; loans = λ n. refl; listed = λ n. refl })
    c.in-Ok.ensures.opened (c.in-Ok.ensures.ok refl)

pub returns-in-Err : goal.returns-in-Err
returns-in-Err c =
    folds_are_full c.args.self.now _ c.args.actor.0
    (record { now = refl; plan = refl; settings = refl; loans = λ n. refl; listed = λ n. refl })
    c.in-Err.ensures.untouched c.in-Err.ensures.all
    (c.in-Err.ensures.refused refl)
