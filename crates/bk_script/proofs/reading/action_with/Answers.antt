use Rattle.bk_script.proofs.Actions.{passed_on, no_put, no_big}
use Rattle.bk_script.proofs.reading.action_with.Goals as goal

pub returns-in_err-key-in-Put : goal.returns-in_err-key-in-Put
returns-in_err-key-in-Put c =
    passed_on _ _ _ _ c.from_residual.result c.in_err-key-in-Put.field-0.0 _ _ c.from_residual.ensures.1 (no_put _ _ c.in-Put.is)
    c.in_err-key-in-Put.ensures

pub returns-in_err-key-in-Big : goal.returns-in_err-key-in-Big
returns-in_err-key-in-Big c =
    passed_on _ _ _ _ c.from_residual-in_err-key-in-Big.result c.in_err-key-in-Big.field-0.0 _ _
    c.from_residual-in_err-key-in-Big.ensures.1 (no_big _ _ c.in-Big.is) c.in_err-key-in-Big.ensures
