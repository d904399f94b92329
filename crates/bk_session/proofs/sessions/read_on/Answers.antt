use Rattle.bk_session.proofs.Ways.{flushed, sink_failed}
use Rattle.bk_session.proofs.sessions.read_on.Goals as goal

pub returns-in-Ok-clause-goes : goal.returns-in-Ok-clause-goes
returns-in-Ok-clause-goes g c = λ disk ct store moments.
    flushed c.read_more.result disk _ _ _ c.args.inbox.now c.read_more.new.inbox c.args.outbox.now _
    c.flush.new.self c.read_more.new.outbox c.in-Ok.ensures.empty c.in-Ok.ensures.wrote
    (c.read_more.ensures.goes disk ct store moments)

pub returns-in-Err-clause-goes : goal.returns-in-Err-clause-goes
returns-in-Err-clause-goes g c = λ disk ct store moments.
    sink_failed disk _ _ c.args.inbox.now c.args.outbox.now _ c.requires.within c.in-Err.ensures.part
