use Rattle.std.proofs.Common.{◌∙◌, ap, arith, sym, refl}
use Rattle.bk_session.proofs.Ways.{no_inbox, nothing_come}
use Rattle.bk_session.proofs.sessions.session.Goals as goal
use Rattle.bk_store.proofs.Pasts.{past_same, past_then}
use Rattle.bk_wire.specs.Stream.{Stream}

pub returns-in_default-clause-held : goal.returns-in_default-clause-held
returns-in_default-clause-held g c = λ known sub o h first follows. no_inbox known _ _ _ o h first follows

pub requests-init : goal.requests-init
requests-init g c = record {
  most = ap (λ (s : Stream). s.most) c.in-Ok.ensures;
  past = λ t. past_same _ _ refl;
  whole = λ t. refl;
  took = omega arith;
  wrote = omega arith;
  come = λ known sub o h first follows. rw c.new-outbox.ensures
      (nothing_come known _ _ c.in-Ok.inbox o h first (ap (λ (s : Stream). s.rest) c.in-Ok.ensures)
      (ap (λ (s : Stream). s.offset) c.in-Ok.ensures) follows);
}

pub requests-preserved : goal.requests-preserved
requests-preserved g c = record {
  most = c.step.ensures.most ∙ c.requests.invariant.most;
  past = λ t. past_then _ _ _ (c.requests.invariant.past t) (c.step.ensures.past t);
  whole = λ t. c.step.ensures.whole t ∙ c.requests.invariant.whole t;
  took = omega (arith, c.requests.invariant.took, c.step.ensures.took);
  wrote = omega (arith, c.requests.invariant.wrote, c.step.ensures.wrote);
  come = λ known sub o h first follows. c.in-None.ensures.goes known sub _ o h first
      (c.requests.invariant.come known sub o h first follows);
}

pub returns-in-Some-clause-held : goal.returns-in-Some-clause-held
returns-in-Some-clause-held g c = λ known sub o h first follows.
    rw (sym c.requests.invariant.most)
    (c.in-Some.ensures.goes known sub _ o h first (c.requests.invariant.come known sub o h first follows))
