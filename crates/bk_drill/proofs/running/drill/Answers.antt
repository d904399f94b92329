use Rattle.std.proofs.Common.{◌∙◌, ap, arith, drop, refl, sym}
use Rattle.bk_drill.proofs.Going.{no_test, no_test_is, not_begun, nothing_come}
use Rattle.bk_drill.proofs.running.drill.Goals as goal
use Rattle.bk_drill.specs.Drills.{streams_of}
use Rattle.bk_script.specs.Script.{Script}

pub returns-in_default-clause-drill : goal.returns-in_default-clause-drill
returns-in_default-clause-drill g c = λ test right.
    (not_begun _ _ (streams_of (drop (g.S.Source.taken c.args.source.now) (g.S.Source.whole c.args.source.now))
    (g.K.Sink.written c.args.sink.now)) test).drilled

pub returns-in_default-new-clause-drill : goal.returns-in_default-new-clause-drill
returns-in_default-new-clause-drill g c = λ test right.
    (not_begun _ _ (streams_of (drop (g.S.Source.taken c.args.source.now) (g.S.Source.whole c.args.source.now))
    (g.K.Sink.written c.args.sink.now)) test).drilled

pub lines-init : goal.lines-init
lines-init g c = record {
  most = ap (λ (s : Script). s.most) c.in-Ok-new.ensures;
  whole = λ t. refl;
  took = omega arith;
  wrote = omega arith;
  come = λ test right. nothing_come test _ _ c.in-Ok-new.inbox c.in-Ok.drill c.plain.result c.args.most c.plain.ensures
      c.in-Ok-new.ensures c.in-Ok.ensures;
}

pub lines-preserved : goal.lines-preserved
lines-preserved g c = record {
  most = c.step.ensures.most ∙ c.lines.invariant.most;
  whole = λ t. c.step.ensures.whole t ∙ c.lines.invariant.whole t;
  took = omega (arith, c.lines.invariant.took, c.step.ensures.took);
  wrote = omega (arith, c.lines.invariant.wrote, c.step.ensures.wrote);
  come = λ test right. c.in-Ok-step.ensures.goes test right _ (c.lines.invariant.come test right);
}

pub returns-in-Err-clause-drill : goal.returns-in-Err-clause-drill
returns-in-Err-clause-drill g c = λ test right.
    rw (sym c.lines.invariant.most)
    (c.in-Err.ensures.goes test right _ (c.lines.invariant.come test right)).drilled

pub returns-in-Err-clause-behind : goal.returns-in-Err-clause-behind
returns-in-Err-clause-behind g c =
    (c.in-Err.ensures.goes no_test no_test_is _ (c.lines.invariant.come no_test no_test_is)).behind
