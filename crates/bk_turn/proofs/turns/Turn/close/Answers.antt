use Rattle.std.proofs.Common.{ap, sym, subst, ◌≡◌}
use Rattle.bk_turn.proofs.Closes.{closes_some, closes_with}
use Rattle.bk_turn.proofs.turns.Turn.close.Goals as goal

pub unreachable-requires : goal.unreachable-requires
unreachable-requires g c = let me = c.seat_of_pass.ensures in
    closes_some g.S.Stands.stands c.args.self.table.shared.key _ c.seat_of_pass.result.me.0 _ _
    c.take-found.result me.idle
    (subst (λ s. s.view.weight ≡ 4294967296) (sym (ap (λ m. m.0) me.seat)) c.requires.all)
    c.close_with-closed.ensures.values.2 c.take-found.ensures.value c.in-None.is

pub returns : goal.returns
returns g c = let me = c.seat_of_pass.ensures in let same = ap (λ m. m.0) me.seat in
    subst (λ s. g.S.Stands.stands c.in-Some.value s.view.first s.view.opening s.view.seen) same
    (closes_with g.S.Stands.stands c.args.self.table.shared.key _ c.seat_of_pass.result.me.0 _ _
    c.take-found.result c.in-Some.value me.idle
    (subst (λ s. s.view.weight ≡ 4294967296) (sym same) c.requires.all)
    c.close_with-closed.ensures.values.2 c.take-found.ensures.value c.in-Some.is)
