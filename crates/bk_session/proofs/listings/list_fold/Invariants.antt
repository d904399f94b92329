use Rattle.std.specs.Prelude.{false}
use Rattle.bk_session.specs.Listing.{request_of}
use Rattle.bk_session.specs.Outgoing.{outgoing}
use Rattle.bk_session.proofs.Endings.{LoopRows}
use Rattle.bk_session.proofs.listings.list_fold.Given as goal

abbrev pub invariant-loop-count : goal.invariant-loop-count
invariant-loop-count g l = record {
  told :
      LoopRows g.D.Disk.tells g.K.Sink.tells (request_of l.listing) l.slot
      l.fn.store (outgoing (g.K.Sink.written l.fn.sink) l.fn.outbox) (g.K.Sink.faults l.fn.sink)
      l.store (outgoing (g.K.Sink.written l.sink) l.outbox) (g.K.Sink.faults l.sink) l.count;
  loose :
      LoopRows false g.K.Sink.tells (request_of l.listing) l.slot
      l.fn.store (outgoing (g.K.Sink.written l.fn.sink) l.fn.outbox) (g.K.Sink.faults l.fn.sink)
      l.store (outgoing (g.K.Sink.written l.sink) l.outbox) (g.K.Sink.faults l.sink) l.count;
}
