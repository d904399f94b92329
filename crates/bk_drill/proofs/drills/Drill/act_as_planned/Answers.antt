use Rattle.std.proofs.Common.{[], ◌∷◌}
use Rattle.bk_drill.proofs.drills.Drill.act_as_planned.Goals as goal
use Rattle.bk_drill.proofs.RunningLines.{prints_one, runs_by}

pub returns-clause-ok : goal.returns-clause-ok
returns-clause-ok c = (
  c.act-line.result ∷ [],
  prints_one _ _ c.act-line.result c.in_ok-write_line.ensures.ok,
  runs_by c.args.self c.act-line.new.self _ _ c.calls_made-store.result.1 c.args.actor c.args.action c.act-line.result
      c.act-line.ensures c.calls_made-store.ensures (c.is_as_planned.ensures c.if-not-is_as_planned.false) c.count_to.ensures,
)
