use Rattle.std.proofs.Common.{take}
use Rattle.bk_session.specs.Outgoing.{outgoing}
use Rattle.bk_list.proofs.Prints.{Loop}
use Rattle.bk_list.proofs.printing.print_pairs.Given as goal

abbrev pub invariant-loop-key : goal.invariant-loop-key
invariant-loop-key g l =
    Loop g.D.Disk.tells g.K.Sink.tells l.now (g.K.Sink.written l.fn.sink) l.fn.store (g.K.Sink.faults l.fn.sink) l.store
    (take l.key-index l.keys) (outgoing (g.K.Sink.written l.sink) l.outbox) l.count (g.K.Sink.faults l.sink)
