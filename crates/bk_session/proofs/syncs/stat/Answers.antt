use Rattle.std.proofs.Common.{None, refl}
use Rattle.bk_base.specs.declared.requests.Request.TheVariants.{Stat}
use Rattle.bk_session.specs.Outgoing.{outgoing}
use Rattle.bk_session.specs.Serving.{session_state, tells_of}
use Rattle.bk_session.proofs.OneLine.{served_once}
use Rattle.bk_session.proofs.syncs.stat.Goals as goal

pub returns-clause-serves : goal.returns-clause-serves
returns-clause-serves g c = λ known sub ticks moments.
    served_once (tells_of known g.K.Sink.tells ticks) Stat None c.count-reply.result c.send.result
    (session_state c.args.store.now moments (outgoing (g.K.Sink.written c.args.sink.now) c.args.outbox.now))
    (session_state c.count-reply.new.store moments (outgoing (g.K.Sink.written c.send.new.sink) c.send.new.outbox))
    tt refl refl refl (λ tell. refl) (c.count-reply.ensures.replies known sub) c.send.ensures.within c.send.ensures.sent
