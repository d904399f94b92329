use Rattle.std.proofs.Common.{◌∙◌, [], ◌∷◌, sym}
use Rattle.bk_script.specs.declared.printed.Printed.TheVariants.{Memory}
use Rattle.bk_drill.proofs.drills.Drill.fail.Goals as goal
use Rattle.bk_drill.proofs.RunningLines.{on_err, on_ok, prints_none, prints_one, runs_fail, runs_fail_not}

pub returns-then-is_err-clause-ok : goal.returns-then-is_err-clause-ok
returns-then-is_err-clause-ok c = (
  Memory ∷ [],
  prints_one _ _ Memory c.in_ok-write_line.ensures.ok,
  runs_fail_not c.args.self _ c.args.nth c.args.effect
      (on_err c.choose.result (sym c.is_err.ensures.value ∙ c.if-is_err.true) c.choose.ensures.err),
)

pub returns-clause-ok : goal.returns-clause-ok
returns-clause-ok c = (
  [],
  prints_none _,
  runs_fail c.args.self _ _ c.args.nth c.args.effect c.fail_call-store.ensures
      (on_ok c.choose.result (sym c.is_err.ensures.value ∙ c.if-is_err.false) c.choose.ensures.ok),
)
