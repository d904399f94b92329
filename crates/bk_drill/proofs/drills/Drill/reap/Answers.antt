use Rattle.std.proofs.Common.{◌≡◌, None, Some, refl, subst, sym}
use Rattle.bk_base.specs.declared.calls.Call.TheVariants.{Reap as reap_call}
use Rattle.bk_script.specs.declared.lines.Action.TheVariants.{Reap}
use Rattle.bk_script.specs.declared.printed.Printed.{Printed}
use Rattle.bk_drill.proofs.drills.Drill.reap.Goals as goal
use Rattle.bk_drill.specs.declared.drills.Drill.{Drill}
use Rattle.bk_drill.proofs.Acting.{Result}
use Rattle.bk_drill.proofs.Writing.{bury_acts, bury_none, bury_refused, reap_buries}

pub returns-in-Ok-Some : goal.returns-in-Ok-Some
returns-in-Ok-Some c =
    let is : c.in-Ok-Some.field-0 ≡ Some c.in-Ok-Some.stored = cc in
    bury_acts c.args.self.now _ (Reap c.args.key.now) c.args.key.now (reap_call c.args.key.now) (reap_buries c.args.key.now)
    (record { now = refl; plan = refl; settings = refl; loans = λ n. refl; listed = λ n. refl })
    c.reap.ensures.rest _ c.in-Ok-Some.field-0 c.in-Ok-Some.stored is c.in-Ok-Some.ensures.buried (c.in-Ok-Some.ensures.ok refl)

pub returns-in-Ok-None : goal.returns-in-Ok-None
returns-in-Ok-None c =
    let is : c.in-Ok-None.field-0 ≡ None = cc in
    bury_none c.args.self.now _ (Reap c.args.key.now) c.args.key.now (reap_call c.args.key.now) (reap_buries c.args.key.now)
    (record { now = refl; plan = refl; settings = refl; loans = λ n. refl; listed = λ n. refl })
    c.reap.ensures.rest _ c.in-Ok-None.field-0 is c.in-Ok-None.ensures.buried (c.in-Ok-None.ensures.ok refl)

pub returns-in-Err : goal.returns-in-Err
returns-in-Err c = λ who b at.
    let new : Drill = record c.args.self.now { store = c.reap.new.self } in
    subst (λ (line : Printed). Result b who (Reap c.args.key.now) line new) (sym c.refused_write.ensures)
    (bury_refused c.args.self.now new (Reap c.args.key.now) c.args.key.now (reap_call c.args.key.now)
    (reap_buries c.args.key.now)
    (record { now = refl; plan = refl; settings = refl; loans = λ n. refl; listed = λ n. refl })
    c.reap.ensures.rest c.in-Err.error c.in-Err.ensures.error.1 (c.in-Err.ensures.refused refl) who b at)
