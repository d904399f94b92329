use Rattle.std.proofs.Common.{◌∙◌, ◌+◌, ◌++◌, ◌∷◌, [], ℕ, List, drop, subst, sym, take}
use Rattle.std.proofs.lemmas.List.{append_assoc, take_all}
use Rattle.bk_session.specs.Outgoing.{outgoing}
use Rattle.bk_list.specs.declared.lists.ListEnd.{ListEnd}
use Rattle.bk_list.specs.Ending.{WritesAll}
use Rattle.bk_list.proofs.Prints.{Loop, PrintsSome, at_key, loop_absent, loop_begins, loop_row, prints_all, prints_refused, prints_until, until_key}
use Rattle.bk_list.proofs.printing.print_pairs.Goals.{in-Row, in-Absent}
use Rattle.bk_list.proofs.printing.print_pairs.Goals as goal

pub loop-key-init : goal.loop-key-init
loop-key-init g c =
    loop_begins g.D.Disk.tells g.K.Sink.tells c.args.now (g.K.Sink.written c.args.sink.now) c.args.store.now
    (g.K.Sink.faults c.args.sink.now) c.new-outbox.result c.new-outbox.ensures

pub loop-key-preserved : goal.loop-key-preserved
loop-key-preserved g c =
    subst (λ (done : List (List ℕ)). Loop g.D.Disk.tells g.K.Sink.tells c.args.now (g.K.Sink.written c.args.sink.now) c.args.store.now
    (g.K.Sink.faults c.args.sink.now) c.show_pair.new.store done
    (outgoing (g.K.Sink.written c.show_pair.new.sink) c.show_pair.new.outbox) c.match-show_pair.count
    (g.K.Sink.faults c.show_pair.new.sink))
    (sym (until_key c.args.keys.now c.loop-key.key-index c.key-item.result c.loop-key-test.true c.key-item.is))
    (elim c.match-show_pair.branch [
      | in-Row w ↦
          subst (λ (n : ℕ). Loop g.D.Disk.tells g.K.Sink.tells c.args.now (g.K.Sink.written c.args.sink.now) c.args.store.now
          (g.K.Sink.faults c.args.sink.now) c.show_pair.new.store (take c.loop-key.key-index c.args.keys.now ++ c.key-item.result ∷ [])
          (outgoing (g.K.Sink.written c.show_pair.new.sink) c.show_pair.new.outbox) n (g.K.Sink.faults c.show_pair.new.sink))
          (sym w.count-is)
          (loop_row g.D.Disk.tells g.K.Sink.tells c.args.now (g.K.Sink.written c.args.sink.now) c.args.store.now
          (g.K.Sink.faults c.args.sink.now) c.loop-key.store c.show_pair.new.store (take c.loop-key.key-index c.args.keys.now)
          c.key-item.result (outgoing (g.K.Sink.written c.loop-key.sink) c.loop-key.outbox)
          (outgoing (g.K.Sink.written c.show_pair.new.sink) c.show_pair.new.outbox) c.loop-key.count
          (g.K.Sink.faults c.loop-key.sink) (g.K.Sink.faults c.show_pair.new.sink) c.loop-key.invariant
          c.show_pair.ensures.stays c.show_pair.ensures.past c.show_pair.ensures.later w.in-Row.ensures.shows)
      | in-Absent w ↦
          subst (λ (n : ℕ). Loop g.D.Disk.tells g.K.Sink.tells c.args.now (g.K.Sink.written c.args.sink.now) c.args.store.now
          (g.K.Sink.faults c.args.sink.now) c.show_pair.new.store (take c.loop-key.key-index c.args.keys.now ++ c.key-item.result ∷ [])
          (outgoing (g.K.Sink.written c.show_pair.new.sink) c.show_pair.new.outbox) n (g.K.Sink.faults c.show_pair.new.sink))
          (sym w.count-is)
          (loop_absent g.D.Disk.tells g.K.Sink.tells c.args.now (g.K.Sink.written c.args.sink.now) c.args.store.now
          (g.K.Sink.faults c.args.sink.now) c.loop-key.store c.show_pair.new.store (take c.loop-key.key-index c.args.keys.now)
          c.key-item.result (outgoing (g.K.Sink.written c.loop-key.sink) c.loop-key.outbox)
          (outgoing (g.K.Sink.written c.show_pair.new.sink) c.show_pair.new.outbox) c.loop-key.count
          (g.K.Sink.faults c.loop-key.sink) (g.K.Sink.faults c.show_pair.new.sink) c.loop-key.invariant
          c.show_pair.ensures.stays c.show_pair.ensures.past c.show_pair.ensures.later w.in-Absent.ensures.shows)
    ])

pub returns-in-Unread-clause-prints : goal.returns-in-Unread-clause-prints
returns-in-Unread-clause-prints g c = λ known sub.
    prints_until known g.K.Sink.tells c.args.now (g.K.Sink.written c.args.sink.now) c.args.store.now c.loop-key.store
    c.show_pair.new.store c.args.keys.now (take c.loop-key.key-index c.args.keys.now)
    (drop (c.loop-key.key-index + 1) c.args.keys.now) c.key-item.result
    (outgoing (g.K.Sink.written c.loop-key.sink) c.loop-key.outbox)
    (outgoing (g.K.Sink.written c.show_pair.new.sink) c.show_pair.new.outbox) c.loop-key.count c.in-Unread.why c.break_off.result
    (g.K.Sink.written c.break_off.new.sink)
    (at_key c.args.keys.now c.loop-key.key-index c.key-item.result c.loop-key-test.true c.key-item.is)
    (c.loop-key.invariant.some known sub) (c.in-Unread.ensures.shows known sub) c.break_off.ensures.breaks

pub returns-in-Refused-clause-prints : goal.returns-in-Refused-clause-prints
returns-in-Refused-clause-prints g c = λ known sub.
    prints_refused known g.K.Sink.tells c.args.now (g.K.Sink.written c.args.sink.now) c.args.store.now c.loop-key.store
    c.show_pair.new.store c.args.keys.now (take c.loop-key.key-index c.args.keys.now)
    (drop (c.loop-key.key-index + 1) c.args.keys.now) c.key-item.result
    (outgoing (g.K.Sink.written c.loop-key.sink) c.loop-key.outbox)
    (outgoing (g.K.Sink.written c.show_pair.new.sink) c.show_pair.new.outbox) c.loop-key.count c.in-Refused.error c.end_as.result
    (g.K.Sink.written c.end_as.new.sink)
    (at_key c.args.keys.now c.loop-key.key-index c.key-item.result c.loop-key-test.true c.key-item.is
    ∙ append_assoc (take c.loop-key.key-index c.args.keys.now) (c.key-item.result ∷ []) (drop (c.loop-key.key-index + 1) c.args.keys.now))
    (c.loop-key.invariant.some known sub) (c.in-Refused.ensures.shows known sub)
    (subst (λ (end : ListEnd). WritesAll end c.end_as.result g.K.Sink.tells (g.K.Sink.written c.show_pair.new.sink)
    (g.K.Sink.written c.end_as.new.sink) c.show_pair.new.outbox) c.end_of.ensures c.end_as.ensures.writes)

pub returns-clause-prints : goal.returns-clause-prints
returns-clause-prints g c = λ known sub.
    prints_all known g.K.Sink.tells c.args.now (g.K.Sink.written c.args.sink.now) c.args.store.now c.loop-key.store c.args.keys.now
    (outgoing (g.K.Sink.written c.loop-key.sink) c.loop-key.outbox) c.loop-key.count c.end_with.result
    (g.K.Sink.written c.end_with.new.sink)
    (subst (λ (done : List (List ℕ)). PrintsSome known g.K.Sink.tells c.args.now (g.K.Sink.written c.args.sink.now) c.args.store.now
    c.loop-key.store done (outgoing (g.K.Sink.written c.loop-key.sink) c.loop-key.outbox) c.loop-key.count)
    (take_all c.loop-key.key-index c.args.keys.now c.loop-key-test.false) (c.loop-key.invariant.some known sub))
    c.end_with.ensures.writes
