use Rattle.std.proofs.Common.{arith, ◌∙◌}
use Rattle.bk_turn.proofs.Serves.{serves_put}
use Rattle.bk_turn.proofs.steps.serve.Goals as goal

pub fetch_add-served-requires : goal.fetch_add-served-requires
fetch_add-served-requires g c = (
  c.put.ensures.table ∙ c.requires.table.1,
  omega (arith, c.requires.table.0.0),
  serves_put g.S.Stands.stands c.args.words.now.key _ _ c.args.seat.now.me c.put.new.seat.me
      c.args.place c.args.value g.A.Adds.added c.requires.ready.0 c.put.ensures.put c.requires.stands
      c.requires.own,
)
