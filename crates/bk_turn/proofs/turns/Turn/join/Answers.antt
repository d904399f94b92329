use Rattle.std.proofs.Common.{ap, arith, ◌∙◌}
use Rattle.bk_turn.proofs.Glues.{joins}
use Rattle.bk_turn.proofs.turns.Turn.join.Goals as goal

pub join_seat-requires : goal.join_seat-requires
join_seat-requires g c = let left = c.seat_of_pass-seat.ensures in let right = c.seat_of_pass.ensures in (
  left.table ∙ c.requires.turns.0,
  right.table ∙ c.requires.turns.1,
  ap (λ m. m.1) right.seat,
  omega (arith, c.args.self.now.sized.0),
  joins g.S.Stands.stands c.args.self.now.table.shared.key _ c.seat_of_pass-seat.result.me.0 _
      c.seat_of_pass.result.me.0 left.idle right.idle,
)
