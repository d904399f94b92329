use Rattle.std.proofs.Common.{◌-◌, arith}
use Rattle.bk_session.proofs.Outboxes.{start_stays, pair_reply}
use Rattle.bk_session.proofs.outbox.put_pair_reply.Goals as goal

pub returns-clause-ok : goal.returns-clause-ok
returns-clause-ok g c =
    pair_reply c.put_value_line.result g.V.View.tells c.args.loan c.args.key.now c.args.text.now.items
    c.write_pair_header.new.out.items c.put_value_line.new.text.items
    (c.size.result - c.value_at.result) (omega (arith, c.size.ensures, c.value_at.ensures.place))
    c.in_ok-write_pair_header.ensures.ok c.put_value_line.ensures.ok

pub returns-clause-start : goal.returns-clause-start
returns-clause-start g c =
    start_stays c.args.text.now.items _ c.write_pair_header.new.out.items c.put_value_line.new.text.items
    c.in_ok-write_pair_header.ensures.ok c.put_value_line.ensures.start
