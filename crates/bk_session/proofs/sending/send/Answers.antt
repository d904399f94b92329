use Rattle.std.proofs.Common.{ap}
use Rattle.bk_session.proofs.Texts.{loses_same}
use Rattle.bk_session.proofs.sending.send.Goals as goal

pub returns-in-Err-Memory-clause-sent : goal.returns-in-Err-Memory-clause-sent
returns-in-Err-Memory-clause-sent g c = λ tell.
    let same = c.add.ensures.memory (cc) in
    loses_same _ _ _ _ _ (ap g.K.Sink.written same.1) same.0
