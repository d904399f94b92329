use Rattle.std.proofs.Common.{ap, arith}
use Rattle.bk_turn.proofs.Opens.{begins}
use Rattle.bk_turn.proofs.steps.begin.Goals as goal

pub load-requires : goal.load-requires
load-requires g c = (
  c.requires.table.1,
  omega (arith, c.requires.table.0.0),
  begins g.S.Stands.stands c.args.words.now.key g.O.Opens.opening _ _ c.args.seat.now.me
      (ap (λ m. m.0.stage) c.requires.ready),
)
