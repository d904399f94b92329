use Rattle.std.proofs.Common.{ap, arith, sym, subst, ◌∙◌, ◌≤◌}
use Rattle.bk_turn.proofs.Splits.{splits}
use Rattle.bk_turn.proofs.turns.Turn.split.Goals as goal

pub split_seat-other-requires : goal.split_seat-other-requires
split_seat-other-requires g c = let me = c.seat_of_pass-seat.ensures in (
  me.table ∙ c.requires.turn,
  omega (arith, c.args.self.now.sized.0),
  splits g.S.Stands.stands c.args.self.now.table.shared.key _ c.seat_of_pass-seat.result.me.0 me.idle
      (subst (λ s. 2 ≤ s.view.weight) (sym (ap (λ m. m.0) me.seat)) c.requires.weight),
)
