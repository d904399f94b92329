use Rattle.std.proofs.Common.{refl, subst, sym}
use Rattle.bk_script.specs.declared.lines.Action.TheVariants.{Big, Put}
use Rattle.bk_script.specs.declared.printed.Printed.{Printed}
use Rattle.bk_drill.proofs.drills.Drill.put.Goals as goal
use Rattle.bk_drill.specs.declared.drills.Drill.{Drill}
use Rattle.bk_drill.proofs.Acting.{Result}
use Rattle.bk_drill.proofs.Writing.{Puts, put_acts, put_refused, puts_value, puts_xs}

pub returns-in-Ok-clause-put : goal.returns-in-Ok-clause-put
returns-in-Ok-clause-put c =
    put_acts _ _ (Put c.args.key c.args.value) c.args.key c.args.value c.in-Ok.stored (puts_value c.args.key c.args.value)
    (record { now = refl; plan = refl; settings = refl; loans = λ n. refl; listed = λ n. refl })
    c.put.ensures.rest c.in-Ok.ensures.written (c.in-Ok.ensures.ok refl)

pub returns-in-Ok-clause-big : goal.returns-in-Ok-clause-big
returns-in-Ok-clause-big c = λ len is.
    put_acts _ _ (Big c.args.key len) c.args.key c.args.value c.in-Ok.stored
    (subst (Puts (Big c.args.key len) c.args.key) (sym is) (puts_xs c.args.key len))
    (record { now = refl; plan = refl; settings = refl; loans = λ n. refl; listed = λ n. refl })
    c.put.ensures.rest c.in-Ok.ensures.written (c.in-Ok.ensures.ok refl)

pub returns-in-Err-clause-put : goal.returns-in-Err-clause-put
returns-in-Err-clause-put c = λ who b at.
    let new : Drill = record c.args.self.now { store = c.put.new.self } in
    subst (λ (line : Printed). Result b who (Put c.args.key c.args.value) line new) (sym c.refused_write.ensures)
    (put_refused c.args.self.now new (Put c.args.key c.args.value) c.args.key c.args.value c.in-Err.error
    (puts_value c.args.key c.args.value)
    (record { now = refl; plan = refl; settings = refl; loans = λ n. refl; listed = λ n. refl })
    c.put.ensures.rest c.in-Err.ensures.error (c.in-Err.ensures.refused refl) who b at)

pub returns-in-Err-clause-big : goal.returns-in-Err-clause-big
returns-in-Err-clause-big c = λ len is who b at.
    let new : Drill = record c.args.self.now { store = c.put.new.self } in
    subst (λ (line : Printed). Result b who (Big c.args.key len) line new) (sym c.refused_write.ensures)
    (put_refused c.args.self.now new (Big c.args.key len) c.args.key c.args.value c.in-Err.error
    (subst (Puts (Big c.args.key len) c.args.key) (sym is) (puts_xs c.args.key len))
    (record { now = refl; plan = refl; settings = refl; loans = λ n. refl; listed = λ n. refl })
    c.put.ensures.rest c.in-Err.ensures.error (c.in-Err.ensures.refused refl) who b at)
