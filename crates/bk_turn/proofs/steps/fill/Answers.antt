use Rattle.std.proofs.Common.{arith, ◌∙◌}
use Rattle.bk_turn.specs.History.{opening_view}
use Rattle.bk_turn.proofs.Opens.{fills_put}
use Rattle.bk_turn.proofs.steps.fill.Goals as goal

pub load-requires : goal.load-requires
load-requires g c = (
  c.put.ensures.table ∙ c.requires.table.1,
  omega (arith, c.requires.table.0.0),
  fills_put g.S.Stands.stands c.args.words.now.key _ _ c.args.seat.now.me c.put.new.seat.me
      (opening_view c.args.words.now.key g.O.Opens.opening) c.args.value c.requires.ready
      c.put.ensures.put c.requires.stands,
)
