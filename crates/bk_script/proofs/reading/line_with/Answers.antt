use Rattle.bk_script.proofs.Actions.{passed_on, no_fail, no_fuse}
use Rattle.bk_script.proofs.reading.line_with.Goals as goal

pub returns-in_err-nth-in-Fail : goal.returns-in_err-nth-in-Fail
returns-in_err-nth-in-Fail c =
    passed_on _ _ _ _ c.from_residual-in_err-nth-in-Fail.result c.in_err-nth-in-Fail.field-0.0 _ _
    c.from_residual-in_err-nth-in-Fail.ensures.1 (no_fail _ _ c.in-Fail.is) c.in_err-nth-in-Fail.ensures

pub returns-in_err-calls-in-Fuse : goal.returns-in_err-calls-in-Fuse
returns-in_err-calls-in-Fuse c =
    passed_on _ _ _ _ c.from_residual-in_err-calls-in-Fuse.result c.in_err-calls-in-Fuse.field-0.0 _ _
    c.from_residual-in_err-calls-in-Fuse.ensures.1 (no_fuse _ _ c.in-Fuse.is) c.in_err-calls-in-Fuse.ensures
