use Rattle.std.proofs.Common.{Some, refl}
use Rattle.bk_base.specs.declared.requests.Request.TheVariants.{Put}
use Rattle.bk_session.specs.Outgoing.{outgoing}
use Rattle.bk_session.specs.Serving.{session_state, tells_of}
use Rattle.bk_session.proofs.OneLine.{served_once}
use Rattle.bk_session.proofs.puts.put.Goals as goal

pub returns-clause-serves : goal.returns-clause-serves
returns-clause-serves g c = λ known sub.
    served_once (tells_of known g.K.Sink.tells g.C.Clock.tells) (Put c.args.key c.args.value) (Some c.now-now.result)
    c.put_at-reply.result c.send.result
    (session_state c.args.store.now (g.C.Clock.moments c.args.clock.now) (outgoing (g.K.Sink.written
    c.args.sink.now) c.args.outbox.now))
    (session_state c.put_at-reply.new.store (g.C.Clock.moments c.now-now.new.self) (outgoing
    (g.K.Sink.written c.send.new.sink) c.send.new.outbox))
    (c.requires.key, c.requires.value) refl refl refl (λ tell. (c.now-now.ensures.moment tell, c.now-now.ensures.later tell))
    (c.put_at-reply.ensures.replies known sub) c.send.ensures.within c.send.ensures.sent
