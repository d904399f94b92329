use Rattle.std.proofs.Common.{refl}
use Rattle.bk_session.specs.Outgoing.{outgoing}
use Rattle.bk_session.specs.Serving.{session_state, tells_of}
use Rattle.bk_session.proofs.OneLine.{quit_served}
use Rattle.bk_session.proofs.serving.serve.Goals as goal

pub returns-in-Quit-clause-serves : goal.returns-in-Quit-clause-serves
returns-in-Quit-clause-serves g c = λ known sub.
    rw c.in-Quit.is
    (quit_served (tells_of known g.K.Sink.tells g.C.Clock.tells) c.quit.result
    (session_state c.args.store.now (g.C.Clock.moments c.args.clock.now)
    (outgoing (g.K.Sink.written c.args.sink.now) c.args.outbox.now))
    (session_state c.args.store.now (g.C.Clock.moments c.args.clock.now)
    (outgoing (g.K.Sink.written c.quit.new.sink) c.quit.new.outbox))
    refl refl c.quit.ensures.ends c.quit.ensures.sent)
