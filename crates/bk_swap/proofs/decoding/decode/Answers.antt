use Rattle.std.proofs.Common.{◌∙◌}
use Rattle.std.proofs.lemmas.Result.{err_from_is_err_and}
use Rattle.bk_swap.specs.declared.lists.SwapStop.TheVariants.{Memory}
use Rattle.bk_swap.proofs.Stopping.{one_stop}
use Rattle.bk_swap.proofs.Texts.{reads}
use Rattle.bk_swap.proofs.decoding.decode.Goals as goal

pub returns-in_err-check-clause-again : goal.returns-in_err-check-clause-again
returns-in_err-check-clause-again c = λ l whole.
    let p = err_from_is_err_and c.from_residual.result c.from_residual.ensures.1 in
    rw (p.1, p.2) (one_stop c.args.bytes.now c.in_err-check.field-0.0 Memory c.in_err-check.ensures.stop (l, whole))

pub returns-in-Ok-clause-again : goal.returns-in-Ok-clause-again
returns-in-Ok-clause-again c = λ l whole. c.in-Ok.ensures ∙ (reads c.args.bytes.now l whole).list
