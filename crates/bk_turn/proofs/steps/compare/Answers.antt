use Rattle.std.proofs.Common.{arith}
use Rattle.bk_turn.proofs.Glues.{compares}
use Rattle.bk_turn.proofs.steps.compare.Goals as goal

pub load-requires : goal.load-requires
load-requires g c = (
  c.requires.table.1,
  omega (arith, c.requires.table.0.0),
  compares g.S.Stands.stands c.args.words.now.key _ _ c.args.seat.now.me c.requires.live,
)
