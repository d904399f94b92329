use Rattle.std.proofs.Common.{arith, ◌∙◌}
use Rattle.bk_turn.proofs.Looks.{looks_again, found_turn, found_other, slot_found, took_again}
use Rattle.bk_turn.proofs.steps.wait.Goals as goal

pub load-serving-requires : goal.load-serving-requires
load-serving-requires g c = (
  c.loop.invariant.table ∙ c.requires.table.1,
  omega (arith, c.requires.table.0.0),
  looks_again g.S.Stands.stands c.args.words.now.key _ _ c.loop.seat.me c.args.seat.now.me
      c.args.ticket c.loop.invariant.seat c.requires.ready.0,
)

pub take-requires-clause-full : goal.take-requires-clause-full
take-requires-clause-full g c =
    slot_found g.S.Stands.stands c.args.words.now.key c.args.ticket c.loop.seat.me c.args.seat.now.me
    c.load-serving.new.seat.me c.loop.invariant.seat c.requires.ready.1
    (found_turn g.S.Stands.stands c.args.words.now.key 0 c.load-serving.result c.args.ticket
    c.loop.seat.me c.args.seat.now.me c.load-serving.new.seat.me c.loop.invariant.seat
    c.requires.ready.0 c.load-serving.ensures.2 c.if-serving-ticket.true)

pub returns-then-serving-ticket-clause-took : goal.returns-then-serving-ticket-clause-took
returns-then-serving-ticket-clause-took g c =
    took_again g.S.Stands.stands c.args.words.now.key c.args.ticket c.loop.seat.me c.args.seat.now.me
    c.load-serving.new.seat.me c.take.new.seat.me c.take.result c.loop.invariant.seat
    (found_turn g.S.Stands.stands c.args.words.now.key 0 c.load-serving.result c.args.ticket
    c.loop.seat.me c.args.seat.now.me c.load-serving.new.seat.me c.loop.invariant.seat
    c.requires.ready.0 c.load-serving.ensures.2 c.if-serving-ticket.true)
    c.take.ensures.taken
    c.take.ensures.left

pub loop-preserved : goal.loop-preserved
loop-preserved g c = record {
  going = (tt, tt);
  table = c.load-serving.ensures.0 ∙ c.loop.invariant.table;
  seat = found_other g.S.Stands.stands c.args.words.now.key 0 c.load-serving.result c.args.ticket
      c.loop.seat.me c.args.seat.now.me c.load-serving.new.seat.me c.loop.invariant.seat
      c.requires.ready.0 c.load-serving.ensures.2 c.if-serving-ticket.false;
}
