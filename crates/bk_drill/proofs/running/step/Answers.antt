use Rattle.std.proofs.Common.{arith}
use Rattle.bk_drill.proofs.Going.{bad_front, ends_as, fewer_by_line, goes_by_line, lacks}
use Rattle.bk_drill.proofs.running.step.Goals as goal

pub returns-in-Ok-Line-clause-goes : goal.returns-in-Ok-Line-clause-goes
returns-in-Ok-Line-clause-goes g c =
    let stands = rw c.in-Ok-Line.field-0-is at c.in-Ok-Line.ensures.ok in
    goes_by_line c.run_line.result _ c.args.drill _ _ _ c.args.inbox.now c.next.new.self c.in-Ok-Line.line stands.0
    stands.1 (omega (arith, c.next.ensures.within, c.next.ensures.same.0, c.next.ensures.same.1))
    c.run_line.ensures.runs

pub returns-in-Ok-Line-clause-fewer : goal.returns-in-Ok-Line-clause-fewer
returns-in-Ok-Line-clause-fewer g c =
    let stands = rw c.in-Ok-Line.field-0-is at c.in-Ok-Line.ensures.ok in
    fewer_by_line c.run_line.result c.args.inbox.now c.next.new.self c.in-Ok-Line.line stands.0 stands.1
    c.next.ensures.within

pub returns-in-Some-clause-goes : goal.returns-in-Some-clause-goes
returns-in-Some-clause-goes g c =
    let need = rw c.in-Ok-Need.field-0-is at c.in-Ok-Need.ensures.ok in
    ends_as c.in-Some.end _ c.args.drill _ _ c.args.inbox.now c.next.new.self need.1
    (c.in-Some.ensures.goes c.args.drill)

pub returns-in-Ok-Bad-clause-goes : goal.returns-in-Ok-Bad-clause-goes
returns-in-Ok-Bad-clause-goes g c =
    let bad = rw c.in-Ok-Bad.field-0-is at c.in-Ok-Bad.ensures.ok in
    bad_front c.end_at.result _ c.args.drill _ _ _ c.args.inbox.now c.in-Ok-Bad.offset
    (omega (arith, c.next.ensures.within, c.next.ensures.same.0, c.next.ensures.same.1)) bad.0 bad.1
    c.end_at.ensures.says

pub returns-in-Err-clause-goes : goal.returns-in-Err-clause-goes
returns-in-Err-clause-goes g c =
    lacks _ c.args.drill _ c.args.inbox.now
    (omega (arith, c.next.ensures.within, c.next.ensures.same.0, c.next.ensures.same.1))
