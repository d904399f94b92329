use Rattle.std.proofs.Common.{rules, ap, arith}
use Rattle.bk_session.proofs.Inboxes.{loses_piece, takes_piece}
use Rattle.bk_session.proofs.inbox.next_piece.Goals as goal
use Rattle.bk_wire.specs.Stream.{Stream}

pub returns-in-Ok-take-clause-gives : goal.returns-in-Ok-take-clause-gives
returns-in-Ok-take-clause-gives g c =
    takes_piece g.S.Source.tells c.args.reader.now c.take.new.self _ _ c.read.new.into _ _ c.in-Ok.n
    (ap (λ (s : Stream). s.rest) c.in-Ok-take.ensures.ok)
    (ap (λ (s : Stream). s.offset) c.in-Ok-take.ensures.ok)
    (omega (arith, c.in-Ok.n-test)) c.in-Ok.ensures.within c.in-Ok.ensures.took c.in-Ok.ensures.whole

pub returns-in-Err-take-clause-gives : goal.returns-in-Err-take-clause-gives
returns-in-Err-take-clause-gives g c = (
  c.in-Err-take.ensures.err,
  loses_piece g.S.Source.tells c.args.reader.now _ _ c.read.new.into _ _ c.in-Ok.n c.in-Ok.ensures.within (search rules)
      c.in-Ok.ensures.took c.in-Ok.ensures.whole,
)
