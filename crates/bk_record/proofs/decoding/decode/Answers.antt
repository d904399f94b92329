use Rattle.std.proofs.Common.{ap, arith, ◌∙◌}
use Rattle.std.proofs.lemmas.List.{take_rest}
use Rattle.std.proofs.lemmas.Result.{err_from_is_err_and}
use Rattle.bk_record.specs.Header.{write_in}
use Rattle.bk_record.specs.declared.decoding.Stop.TheVariants.{Memory}
use Rattle.bk_record.proofs.Answering.{one_stop, stands, decoded, again}
use Rattle.bk_record.proofs.decoding.decode.Goals as goal

pub returns-in_err-header-clause-again : goal.returns-in_err-header-clause-again
returns-in_err-header-clause-again c = λ w rest there.
    let p = err_from_is_err_and c.from_residual.result c.from_residual.ensures.1 in
    rw (p.1, p.2) (one_stop c.args.bytes.now c.in_err-header.field-0.0 Memory c.in_err-header.ensures.stop (w, rest, there))

pub returns-in-Ok-clause-decoded : goal.returns-in-Ok-clause-decoded
returns-in-Ok-clause-decoded c =
    let text = c.in_ok-header.record.now in
    let write = c.in-Ok.ensures ∙ ap (write_in c.in_ok-header.header) (take_rest text 22) in
    decoded c.args.bytes.now c.in_ok-header.header text (λ i. omega (arith, c.type_inv.bytes i)) c.in_ok-header.ensures.checked c.in-Ok.write write

pub returns-in-Ok-clause-again : goal.returns-in-Ok-clause-again
returns-in-Ok-clause-again c = λ w rest there.
    let text = c.in_ok-header.record.now in
    let write = c.in-Ok.ensures ∙ ap (write_in c.in_ok-header.header) (take_rest text 22) in
    again c.args.bytes.now c.in_ok-header.header text (λ i. omega (arith, c.type_inv.bytes i)) c.in_ok-header.ensures.checked c.in-Ok.write w rest write there

pub returns-in-Err-clause-stop : goal.returns-in-Err-clause-stop
returns-in-Err-clause-stop c =
    stands c.args.bytes.now c.in_ok-header.header c.in_ok-header.record.now (λ i. omega (arith, c.type_inv.bytes i)) c.in_ok-header.ensures.checked
