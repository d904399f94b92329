use Rattle.bk_session.specs.declared.serving.Onward.TheVariants.{Sink}
use Rattle.bk_session.specs.Outgoing.{outgoing}
use Rattle.bk_session.proofs.Endings.{loop_begins, loop_breaks, loop_cut, loop_ends, loop_on, loop_runs_out}
use Rattle.bk_session.proofs.listings.list_fold.Goals as goal
use Rattle.bk_session.specs.Listing.{EndsAll, request_of}
use Rattle.std.specs.Prelude.{Bool, false}
use Rattle.bk_session.proofs.Following.{known_way}
use Rattle.bk_disk.specs.Told.{untold}

pub loop-count-init : goal.loop-count-init
loop-count-init g c = record {
  told =
      loop_begins g.D.Disk.tells g.K.Sink.tells c.args.listing c.args.slot
      c.args.store.now (outgoing (g.K.Sink.written c.args.sink.now) c.args.outbox.now)
      (g.K.Sink.faults c.args.sink.now) c.requires.ours;
  loose =
      loop_begins false g.K.Sink.tells c.args.listing c.args.slot
      c.args.store.now (outgoing (g.K.Sink.written c.args.sink.now) c.args.outbox.now)
      (g.K.Sink.faults c.args.sink.now) c.requires.ours;
}

pub next_row-requires : goal.next_row-requires
next_row-requires g c = record { ours = c.loop-count.invariant.told.ours }

pub loop-count-preserved : goal.loop-count-preserved
loop-count-preserved g c = record {
  told =
      loop_on g.D.Disk.tells g.K.Sink.tells c.args.listing c.args.slot c.args.store.now
      (outgoing (g.K.Sink.written c.args.sink.now) c.args.outbox.now)
      (g.K.Sink.faults c.args.sink.now)
      c.loop-count.store (outgoing (g.K.Sink.written c.loop-count.sink) c.loop-count.outbox)
      (g.K.Sink.faults c.loop-count.sink) c.loop-count.count
      c.next_row.new.store (outgoing (g.K.Sink.written c.next_row.new.sink) c.next_row.new.outbox)
      (g.K.Sink.faults c.next_row.new.sink)
      c.loop-count.invariant.told (c.in-Row.ensures.gives g.D.Disk.tells (λ t. t))
      c.next_row.ensures.ours c.next_row.ensures.past c.next_row.ensures.later;
  loose =
      loop_on false g.K.Sink.tells c.args.listing c.args.slot c.args.store.now
      (outgoing (g.K.Sink.written c.args.sink.now) c.args.outbox.now)
      (g.K.Sink.faults c.args.sink.now)
      c.loop-count.store (outgoing (g.K.Sink.written c.loop-count.sink) c.loop-count.outbox)
      (g.K.Sink.faults c.loop-count.sink) c.loop-count.count
      c.next_row.new.store (outgoing (g.K.Sink.written c.next_row.new.sink) c.next_row.new.outbox)
      (g.K.Sink.faults c.next_row.new.sink)
      c.loop-count.invariant.loose (c.in-Row.ensures.gives false (λ t. untold t))
      c.next_row.ensures.ours (λ t. untold t) c.next_row.ensures.later;
}

pub returns-in-End-clause-ends : goal.returns-in-End-clause-ends
returns-in-End-clause-ends g c =
    λ known sub. known_way known g.D.Disk.tells
    (λ (t : Bool). EndsAll t g.K.Sink.tells (request_of c.args.listing) c.send.result c.args.slot
    c.args.store.now (outgoing (g.K.Sink.written c.args.sink.now) c.args.outbox.now)
    c.close_fold.new.store (outgoing (g.K.Sink.written c.send.new.sink) c.send.new.outbox)) sub
    (loop_ends g.D.Disk.tells g.K.Sink.tells c.args.listing c.send.result c.args.slot
    c.args.store.now (outgoing (g.K.Sink.written c.args.sink.now) c.args.outbox.now)
    (g.K.Sink.faults c.args.sink.now)
    c.loop-count.store (outgoing (g.K.Sink.written c.loop-count.sink) c.loop-count.outbox)
    (g.K.Sink.faults c.loop-count.sink) c.loop-count.count
    c.next_row.new.store c.close_fold.new.store
    (outgoing (g.K.Sink.written c.next_row.new.sink) c.next_row.new.outbox)
    (outgoing (g.K.Sink.written c.send.new.sink) c.send.new.outbox)
    c.loop-count.invariant.told (c.in-End.ensures.gives g.D.Disk.tells (λ t. t))
    (c.close_fold.ensures.closes g.D.Disk.tells (λ t. t)) c.send.ensures.within c.send.ensures.sent)
    (loop_ends false g.K.Sink.tells c.args.listing c.send.result c.args.slot
    c.args.store.now (outgoing (g.K.Sink.written c.args.sink.now) c.args.outbox.now)
    (g.K.Sink.faults c.args.sink.now)
    c.loop-count.store (outgoing (g.K.Sink.written c.loop-count.sink) c.loop-count.outbox)
    (g.K.Sink.faults c.loop-count.sink) c.loop-count.count
    c.next_row.new.store c.close_fold.new.store
    (outgoing (g.K.Sink.written c.next_row.new.sink) c.next_row.new.outbox)
    (outgoing (g.K.Sink.written c.send.new.sink) c.send.new.outbox)
    c.loop-count.invariant.loose (c.in-End.ensures.gives false (λ t. untold t))
    (c.close_fold.ensures.closes false (λ t. untold t)) c.send.ensures.within c.send.ensures.sent)

pub returns-in-Line-clause-ends : goal.returns-in-Line-clause-ends
returns-in-Line-clause-ends g c =
    λ known sub. known_way known g.D.Disk.tells
    (λ (t : Bool). EndsAll t g.K.Sink.tells (request_of c.args.listing) c.send-in-Line.result
    c.args.slot c.args.store.now (outgoing (g.K.Sink.written c.args.sink.now) c.args.outbox.now)
    c.close_fold-in-Line.new.store
    (outgoing (g.K.Sink.written c.send-in-Line.new.sink) c.send-in-Line.new.outbox)) sub
    (loop_breaks g.D.Disk.tells g.K.Sink.tells c.args.listing c.send-in-Line.result c.args.slot
    c.args.store.now (outgoing (g.K.Sink.written c.args.sink.now) c.args.outbox.now)
    (g.K.Sink.faults c.args.sink.now)
    c.loop-count.store (outgoing (g.K.Sink.written c.loop-count.sink) c.loop-count.outbox)
    (g.K.Sink.faults c.loop-count.sink) c.loop-count.count
    c.next_row.new.store c.close_fold-in-Line.new.store
    (outgoing (g.K.Sink.written c.next_row.new.sink) c.next_row.new.outbox)
    (outgoing (g.K.Sink.written c.send-in-Line.new.sink) c.send-in-Line.new.outbox) c.in-Line.line
    c.loop-count.invariant.told (c.in-Line.ensures.gives g.D.Disk.tells (λ t. t))
    (c.close_fold-in-Line.ensures.closes g.D.Disk.tells (λ t. t))
    c.send-in-Line.ensures.within c.send-in-Line.ensures.sent)
    (loop_breaks false g.K.Sink.tells c.args.listing c.send-in-Line.result c.args.slot
    c.args.store.now (outgoing (g.K.Sink.written c.args.sink.now) c.args.outbox.now)
    (g.K.Sink.faults c.args.sink.now)
    c.loop-count.store (outgoing (g.K.Sink.written c.loop-count.sink) c.loop-count.outbox)
    (g.K.Sink.faults c.loop-count.sink) c.loop-count.count
    c.next_row.new.store c.close_fold-in-Line.new.store
    (outgoing (g.K.Sink.written c.next_row.new.sink) c.next_row.new.outbox)
    (outgoing (g.K.Sink.written c.send-in-Line.new.sink) c.send-in-Line.new.outbox) c.in-Line.line
    c.loop-count.invariant.loose (c.in-Line.ensures.gives false (λ t. untold t))
    (c.close_fold-in-Line.ensures.closes false (λ t. untold t))
    c.send-in-Line.ensures.within c.send-in-Line.ensures.sent)

pub returns-in-Sink-clause-ends : goal.returns-in-Sink-clause-ends
returns-in-Sink-clause-ends g c =
    λ known sub. known_way known g.D.Disk.tells
    (λ (t : Bool). EndsAll t g.K.Sink.tells (request_of c.args.listing) Sink c.args.slot
    c.args.store.now (outgoing (g.K.Sink.written c.args.sink.now) c.args.outbox.now)
    c.close_fold-in-Sink.new.store
    (outgoing (g.K.Sink.written c.next_row.new.sink) c.next_row.new.outbox)) sub
    (loop_cut g.D.Disk.tells g.K.Sink.tells c.args.listing c.args.slot c.args.store.now
    (outgoing (g.K.Sink.written c.args.sink.now) c.args.outbox.now)
    (g.K.Sink.faults c.args.sink.now)
    c.loop-count.store (outgoing (g.K.Sink.written c.loop-count.sink) c.loop-count.outbox)
    (g.K.Sink.faults c.loop-count.sink) c.loop-count.count
    c.next_row.new.store c.close_fold-in-Sink.new.store (outgoing (g.K.Sink.written c.next_row.new.sink) c.next_row.new.outbox)
    c.loop-count.invariant.told (c.in-Sink.ensures.gives g.D.Disk.tells (λ t. t))
    (c.close_fold-in-Sink.ensures.closes g.D.Disk.tells (λ t. t)))
    (loop_cut false g.K.Sink.tells c.args.listing c.args.slot c.args.store.now
    (outgoing (g.K.Sink.written c.args.sink.now) c.args.outbox.now)
    (g.K.Sink.faults c.args.sink.now)
    c.loop-count.store (outgoing (g.K.Sink.written c.loop-count.sink) c.loop-count.outbox)
    (g.K.Sink.faults c.loop-count.sink) c.loop-count.count
    c.next_row.new.store c.close_fold-in-Sink.new.store (outgoing (g.K.Sink.written c.next_row.new.sink) c.next_row.new.outbox)
    c.loop-count.invariant.loose (c.in-Sink.ensures.gives false (λ t. untold t))
    (c.close_fold-in-Sink.ensures.closes false (λ t. untold t)))

pub returns-clause-ends : goal.returns-clause-ends
returns-clause-ends g c =
    λ known sub. known_way known g.D.Disk.tells
    (λ (t : Bool). EndsAll t g.K.Sink.tells (request_of c.args.listing) c.send-2.result c.args.slot
    c.args.store.now (outgoing (g.K.Sink.written c.args.sink.now) c.args.outbox.now)
    c.close_fold-2.new.store (outgoing (g.K.Sink.written c.send-2.new.sink) c.send-2.new.outbox))
    sub
    (loop_runs_out g.D.Disk.tells g.K.Sink.tells c.args.listing c.send-2.result c.args.slot
    c.args.store.now (outgoing (g.K.Sink.written c.args.sink.now) c.args.outbox.now)
    (g.K.Sink.faults c.args.sink.now)
    c.loop-count.store (outgoing (g.K.Sink.written c.loop-count.sink) c.loop-count.outbox)
    (g.K.Sink.faults c.loop-count.sink) c.loop-count.count
    c.close_fold-2.new.store (outgoing (g.K.Sink.written c.send-2.new.sink) c.send-2.new.outbox)
    c.loop-count.invariant.told (c.close_fold-2.ensures.closes g.D.Disk.tells (λ t. t))
    c.send-2.ensures.within c.send-2.ensures.sent)
    (loop_runs_out false g.K.Sink.tells c.args.listing c.send-2.result c.args.slot
    c.args.store.now (outgoing (g.K.Sink.written c.args.sink.now) c.args.outbox.now)
    (g.K.Sink.faults c.args.sink.now)
    c.loop-count.store (outgoing (g.K.Sink.written c.loop-count.sink) c.loop-count.outbox)
    (g.K.Sink.faults c.loop-count.sink) c.loop-count.count
    c.close_fold-2.new.store (outgoing (g.K.Sink.written c.send-2.new.sink) c.send-2.new.outbox)
    c.loop-count.invariant.loose (c.close_fold-2.ensures.closes false (λ t. untold t))
    c.send-2.ensures.within c.send-2.ensures.sent)
