use Rattle.std.proofs.Common.{Bool, ◌≡◌, ◌≤◌, List, IsTrue, drop}
use Rattle.bk_base.specs.declared.histories.Opening.{Opening}
use Rattle.bk_base.specs.declared.histories.Step.{Step}
use Rattle.bk_base.specs.declared.writes.Write.{Write}
use Rattle.bk_session.proofs.sessions.session.Given as goal
use Rattle.bk_session.specs.Following.{Follows}
use Rattle.bk_session.specs.Sessions.{sides_of, telling}
use Rattle.bk_session.specs.Progress.{HasCome, work_left}
use Rattle.bk_store.specs.Events.{KeepsPast}

abbrev pub invariant-requests : goal.invariant-requests
invariant-requests g l = record {
  most : l.inbox.most ≡ l.most;
  past : IsTrue g.D.Disk.tells → KeepsPast l.initial.store.files.told l.store.files.told;
  whole : IsTrue g.S.Source.tells → g.S.Source.whole l.source ≡ g.S.Source.whole l.initial.source;
  took : g.S.Source.faults l.initial.source ≤ g.S.Source.faults l.source;
  wrote : g.K.Sink.faults l.initial.sink ≤ g.K.Sink.faults l.sink;
  come : (known : Bool) → (IsTrue known → IsTrue g.D.Disk.tells) → (o : Opening) (h : List Step)
      (first : List Write) → Follows known l.initial.store o h first
      → HasCome known (telling g.S.Source.tells g.K.Sink.tells g.C.Clock.tells)
      (sides_of l.initial.store (drop (g.S.Source.taken l.initial.source) (g.S.Source.whole l.initial.source))
      (g.K.Sink.written l.initial.sink) (g.C.Clock.moments l.initial.clock))
      (sides_of l.store (drop (g.S.Source.taken l.source) (g.S.Source.whole l.source))
      (g.K.Sink.written l.sink) (g.C.Clock.moments l.clock)) l.inbox l.outbox o h first;
}

abbrev pub decreases-requests : goal.decreases-requests
decreases-requests g l = work_left l.inbox
