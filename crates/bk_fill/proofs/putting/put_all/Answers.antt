use Rattle.std.proofs.Common.{◌≡◌, ◌∙◌, ℕ, Err, Ok, ap, arith, refl, subst, sym}
use Rattle.std.specs.Prelude.{Result}
use Rattle.std.proofs.lemmas.Result.{err_from_is_err_and}
use Rattle.bk_fill.proofs.PutLaws.{nothing_put, put_more, put_stops}
use Rattle.bk_fill.proofs.putting.put_all.Goals as goal
use Rattle.bk_fill.specs.Putting.{HasPut}
use Rattle.bk_store.specs.declared.errors.PutError.{PutError}
use Rattle.bk_store.proofs.Pasts.{past_same, past_then}

pub loop-number-init : goal.loop-number-init
loop-number-init g c = record {
  puts = λ known sub o h first f. nothing_put known c.args.now c.args.store.now o h first f;
  few = omega arith;
  past = λ t. past_same _ _ refl;
  later = omega arith;
  views = refl;
}

pub returns-in_err-bytes-clause-puts : goal.returns-in_err-bytes-clause-puts
returns-in_err-bytes-clause-puts g c = λ known sub o h first f.
    let p = err_from_is_err_and c.from_residual.result c.from_residual.ensures.1 in
    let refused_by : PutError → Result ℕ PutError = λ why. Err why in
    subst
    (λ (r : Result ℕ PutError). HasPut known c.args.now c.args.count r c.args.store.now c.put_pair.new.store o h first)
    (sym (p.1 ∙ ap refused_by p.2))
    (put_stops known g.D.Disk.tells c.args.now c.loop-number.number c.loop-number.bytes c.args.count c.in_err-bytes.field-0.0
    c.args.store.now c.loop-number.store c.put_pair.new.store o h first (omega arith) (omega arith) sub
    (c.loop-number.invariant.puts known sub o h first f) c.in_err-bytes.ensures.refused)

pub loop-number-preserved : goal.loop-number-preserved
loop-number-preserved g c = record {
  puts = λ known sub o h first f.
      put_more known g.D.Disk.tells c.args.now c.loop-number.number c.loop-number.bytes c.in_ok-bytes.field-0
      c.args.store.now c.loop-number.store c.put_pair.new.store o h first (omega arith) sub
      (c.loop-number.invariant.puts known sub o h first f) c.in_ok-bytes.ensures.answered c.in_ok-bytes.ensures.len;
  few = omega (arith, c.loop-number.invariant.few, c.in_ok-bytes.ensures.few);
  past = λ t. past_then _ _ _ (c.loop-number.invariant.past t) (c.put_pair.ensures.past t);
  later = omega (arith, c.loop-number.invariant.later, c.put_pair.ensures.later);
  views = c.put_pair.ensures.views ∙ c.loop-number.invariant.views;
}

pub returns-clause-puts : goal.returns-clause-puts
returns-clause-puts g c = λ known sub o h first f.
    let all : c.loop-number.number ≡ c.args.count = omega arith in
    subst
    (λ (n : ℕ). HasPut known c.args.now n (Ok c.loop-number.bytes) c.args.store.now c.loop-number.store o h first) all
    (c.loop-number.invariant.puts known sub o h first f)
