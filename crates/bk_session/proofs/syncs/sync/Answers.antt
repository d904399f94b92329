use Rattle.std.proofs.Common.{None, refl}
use Rattle.bk_base.specs.declared.requests.Request.TheVariants.{Sync}
use Rattle.bk_session.specs.Outgoing.{outgoing}
use Rattle.bk_session.specs.Serving.{session_state, tells_of}
use Rattle.bk_session.proofs.OneLine.{served_once}
use Rattle.bk_session.proofs.syncs.sync.Goals as goal

pub returns-clause-serves : goal.returns-clause-serves
returns-clause-serves g c = λ known sub ticks moments.
    served_once (tells_of known g.K.Sink.tells ticks) Sync None c.sync_all-reply.result c.send.result
    (session_state c.args.store.now moments (outgoing (g.K.Sink.written c.args.sink.now) c.args.outbox.now))
    (session_state c.sync_all-reply.new.store moments (outgoing (g.K.Sink.written c.send.new.sink) c.send.new.outbox))
    tt refl refl refl (λ tell. refl) (c.sync_all-reply.ensures.replies known sub) c.send.ensures.within c.send.ensures.sent
