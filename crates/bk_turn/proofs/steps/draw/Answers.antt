use Rattle.std.proofs.Common.{arith, ◌∙◌}
use Rattle.bk_turn.proofs.Draws.{draws_again}
use Rattle.bk_turn.proofs.steps.draw.Goals as goal

pub compare_exchange-found-requires : goal.compare_exchange-found-requires
compare_exchange-found-requires g c = (
  c.loop.invariant.table ∙ c.requires.table.1,
  omega (arith, c.requires.table.0.0),
  draws_again g.S.Stands.stands c.args.words.now.key _ _ c.loop.seat.me c.args.seat.now.me
      c.loop.ticket c.loop.invariant.seat c.requires.ready.0 c.loop.invariant.ticket,
)
