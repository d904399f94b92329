use Rattle.std.proofs.Common.{◌≡◌, ◌≤◌, IsTrue, drop}
use Rattle.bk_drill.proofs.running.drill.Given as goal
use Rattle.bk_drill.specs.Drills.{IsTest, streams_of, telling}
use Rattle.bk_drill.specs.Lines.{Test}
use Rattle.bk_drill.specs.Running.{HasCome, work_left}

abbrev pub invariant-lines : goal.invariant-lines
invariant-lines g l = record {
  most : l.inbox.most ≡ l.most;
  whole : IsTrue g.S.Source.tells → g.S.Source.whole l.source ≡ g.S.Source.whole l.initial.source;
  took : g.S.Source.faults l.initial.source ≤ g.S.Source.faults l.source;
  wrote : g.K.Sink.faults l.initial.sink ≤ g.K.Sink.faults l.sink;
  come : (test : Test) → IsTest test → HasCome test (telling g.S.Source.tells g.K.Sink.tells)
      (streams_of (drop (g.S.Source.taken l.initial.source) (g.S.Source.whole l.initial.source))
      (g.K.Sink.written l.initial.sink))
      (streams_of (drop (g.S.Source.taken l.source) (g.S.Source.whole l.source)) (g.K.Sink.written l.sink)) l.inbox l.drill;
}

abbrev pub decreases-lines : goal.decreases-lines
decreases-lines g l = work_left l.inbox
