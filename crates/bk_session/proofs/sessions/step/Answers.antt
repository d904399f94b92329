use Rattle.std.proofs.Common.{arith}
use Rattle.bk_session.proofs.Ways.{asks, bad_front, closes_for_memory, fewer_asked}
use Rattle.bk_session.proofs.sessions.step.Goals as goal
use Rattle.bk_session.specs.Outgoing.{outgoing}
use Rattle.bk_session.specs.Serving.{session_state}

pub returns-in-Ok-Ask-clause-goes : goal.returns-in-Ok-Ask-clause-goes
returns-in-Ok-Ask-clause-goes g c = λ known sub.
    let asked = rw c.in-Ok-Ask.field-0-is at c.in-Ok-Ask.ensures.ok in
    asks c.serve-onward.result c.close_after.result known _
    (session_state c.args.store.now (g.C.Clock.moments c.args.clock.now)
    (outgoing (g.K.Sink.written c.args.sink.now) c.args.outbox.now))
    (session_state c.serve-onward.new.store (g.C.Clock.moments c.serve-onward.new.clock)
    (outgoing (g.K.Sink.written c.serve-onward.new.sink) c.serve-onward.new.outbox))
    (outgoing (g.K.Sink.written c.close_after.new.sink) c.close_after.new.outbox) _ c.in-Ok-Ask.request
    c.args.inbox.now c.next.new.self (c.serve-onward.ensures.serves known sub) asked.0 asked.1
    (omega (arith, c.next.ensures.within, c.next.ensures.same.1))
    (λ t. c.serve-onward.ensures.past (sub t)) c.close_after.ensures.closes

pub returns-in-Ok-Ask-clause-fewer : goal.returns-in-Ok-Ask-clause-fewer
returns-in-Ok-Ask-clause-fewer g c = λ none.
    let asked = rw c.in-Ok-Ask.field-0-is at c.in-Ok-Ask.ensures.ok in
    fewer_asked c.in-Ok-Ask.request c.args.inbox.now c.next.new.self asked.0 asked.1 asked.2
    c.next.ensures.within

pub returns-in-Ok-Bad-clause-goes : goal.returns-in-Ok-Bad-clause-goes
returns-in-Ok-Bad-clause-goes g c = λ known sub.
    let bad = rw c.in-Ok-Bad.field-0-is at c.in-Ok-Bad.ensures.ok in
    bad_front known _ _ c.args.inbox.now c.args.outbox.now _ c.in-Ok-Bad.offset c.close_at.result
    (omega (arith, c.next.ensures.within, c.next.ensures.same.0, c.next.ensures.same.1)) bad.0 bad.1
    c.close_at.ensures.closes

pub returns-in-Err-clause-goes : goal.returns-in-Err-clause-goes
returns-in-Err-clause-goes g c = λ known sub.
    closes_for_memory c.close.result known _ _ c.args.inbox.now c.args.outbox.now _
    (omega (arith, c.next.ensures.within, c.next.ensures.same.0, c.next.ensures.same.1)) c.close.ensures.closes
