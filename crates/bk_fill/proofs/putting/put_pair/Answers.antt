use Rattle.std.proofs.Common.{◌∙◌, ℕ, Err, Ok, ap, subst, sym}
use Rattle.std.specs.Prelude.{IfErr, Result}
use Rattle.std.proofs.lemmas.Result.{err_from_is_err_and}
use Rattle.bk_fill.proofs.PutCalls.{PutCall, of_pair, put_answered, put_refused}
use Rattle.bk_fill.proofs.putting.put_pair.Goals as goal
use Rattle.bk_fill.specs.Putting.{RefusesPut}
use Rattle.bk_store.specs.declared.errors.PutError.{PutError}
use Rattle.bk_store.specs.declared.puts.Stored.{Stored}

pub returns-in_err-put-clause-refused : goal.returns-in_err-put-clause-refused
returns-in_err-put-clause-refused g c =
    let p = err_from_is_err_and c.from_residual-in_err-put.result c.from_residual-in_err-put.ensures.1 in
    let call : PutCall c.put.result g.D.Disk.tells c.args.now c.in_ok-pair.pair.key c.in_ok-pair.pair.value
    c.args.store.now c.put.new.self =
    record {
      written = c.put.ensures.written;
      error = c.put.ensures.error;
      rest = c.put.ensures.rest;
      past = c.put.ensures.past;
      ok = c.put.ensures.ok;
      refused = c.put.ensures.refused;
      crash = c.put.ensures.crash;
    } in
    let e = c.in_err-put.field-0.0 in
    let refused_by : PutError → Result ℕ PutError = λ why. Err why in
    subst
    (λ (r : Result ℕ PutError). IfErr r (λ why. RefusesPut g.D.Disk.tells c.args.now c.args.number why c.args.store.now
    c.put.new.self)) (sym (p.1 ∙ ap refused_by p.2))
    (put_refused g.D.Disk.tells c.args.now c.args.number e c.args.store.now c.put.new.self
    (of_pair (Err e) g.D.Disk.tells c.args.now c.args.number c.in_ok-pair.pair.key c.in_ok-pair.pair.value
    c.args.store.now c.put.new.self c.in_ok-pair.ensures.pair.0 c.in_ok-pair.ensures.pair.1
    (subst
    (λ (r : Result Stored PutError). PutCall r g.D.Disk.tells c.args.now c.in_ok-pair.pair.key c.in_ok-pair.pair.value
    c.args.store.now c.put.new.self) c.in_err-put.was call)))

pub returns-clause-answered : goal.returns-clause-answered
returns-clause-answered g c =
    let call : PutCall c.put.result g.D.Disk.tells c.args.now c.in_ok-pair.pair.key c.in_ok-pair.pair.value
    c.args.store.now c.put.new.self =
    record {
      written = c.put.ensures.written;
      error = c.put.ensures.error;
      rest = c.put.ensures.rest;
      past = c.put.ensures.past;
      ok = c.put.ensures.ok;
      refused = c.put.ensures.refused;
      crash = c.put.ensures.crash;
    } in
    put_answered g.D.Disk.tells c.args.now c.args.number c.in_ok-put.field-0 c.args.store.now c.put.new.self
    (of_pair (Ok c.in_ok-put.field-0) g.D.Disk.tells c.args.now c.args.number c.in_ok-pair.pair.key c.in_ok-pair.pair.value
    c.args.store.now c.put.new.self c.in_ok-pair.ensures.pair.0 c.in_ok-pair.ensures.pair.1
    (subst
    (λ (r : Result Stored PutError). PutCall r g.D.Disk.tells c.args.now c.in_ok-pair.pair.key c.in_ok-pair.pair.value
    c.args.store.now c.put.new.self) c.in_ok-put.was call))
