use Rattle.bk_drill.proofs.Planning.{MeetsNone}
use Rattle.bk_drill.proofs.plans.meets_chosen.Given as goal

abbrev pub invariant-loop-before : goal.invariant-loop-before
invariant-loop-before l = MeetsNone l.plan l.before
