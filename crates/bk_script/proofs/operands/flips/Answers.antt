use Rattle.bk_script.proofs.Actions.{passed_on, no_flips_at}
use Rattle.bk_script.proofs.operands.flips.Goals as goal

pub returns-in_err-number : goal.returns-in_err-number
returns-in_err-number c =
    passed_on _ _ _ _ c.from_residual.result c.in_err-number.field-0.0 _ _ c.from_residual.ensures.1
    (λ none flips fit same. no_flips_at c.loop-word.offsets.items c.args.operands.now c.loop-word.word-index _
    c.loop-word-test.true c.loop-word.invariant.1 none flips fit same)
    c.in_err-number.ensures
