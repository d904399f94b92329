use Rattle.bk_fill.proofs.filling.fill.Goals as goal

pub returns-clause-filled : goal.returns-clause-filled
returns-clause-filled g c = λ known sub o h first follows. record {
  now = c.now-now.result;
  work = c.work-work.result;
  worked = c.work-work.ensures.worked known sub o h first follows;
  ticks = λ t. (c.now-now.ensures.moment t, c.now-now.ensures.later t);
  written = c.tell.ensures.written;
}
