use Rattle.std.proofs.Common.{subst}
use Rattle.bk_base.specs.declared.statuses.Status.{Status}
use Rattle.bk_files.specs.Files.{disk_shown}
use Rattle.bk_store.specs.Shown.{Shown}
use Rattle.bitcaskd.specs.Closing.{ClosesBy}
use Rattle.bitcaskd.specs.Run.{Outside, Telling, outside, telling}
use Rattle.bitcaskd.proofs.RunLaws.{disk_rose, runs}
use Rattle.bitcaskd.proofs.piping.pipe_store.Goals as goal

pub returns-clause-ran : goal.returns-clause-ran
returns-clause-ran g c = λ was opens log whole known.
    let tells : Telling = telling g.D.Disk.tells g.S.Source.tells g.K.Sink.tells g.C.Clock.tells in
    let old : Outside = outside was (g.S.Source.whole c.args.source.now)
    (g.S.Source.taken c.args.source.now) (g.K.Sink.written c.args.sink.now) (g.K.Sink.faults c.args.sink.now)
    (g.C.Clock.moments c.args.clock.now) in
    let u : Shown = c.close-status.new.store in
    let new : Outside = outside (disk_shown u.files)
    (g.S.Source.whole c.session-end.new.source) (g.S.Source.taken c.session-end.new.source)
    (g.K.Sink.written c.session-end.new.sink) (g.K.Sink.faults c.session-end.new.sink)
    (g.C.Clock.moments c.session-end.new.clock) in
    rw c.close.ensures.shown
    (runs tells old new c.args.store c.session-end.new.store u c.session-end.result c.close-status.result
    c.session-end.ensures.held c.session-end.ensures.past c.session-end.ensures.whole
    (subst (λ (s : Status). ClosesBy s c.close-status.result g.D.Disk.tells c.session-end.new.store u) c.status_of.ensures
    c.close-status.ensures.closes)
    c.close-status.ensures.past log whole opens known)

pub returns-clause-disk : goal.returns-clause-disk
returns-clause-disk g c = λ is.
    let tells : Telling = telling g.D.Disk.tells g.S.Source.tells g.K.Sink.tells g.C.Clock.tells in
    let u : Shown = c.close-status.new.store in
    let old : Outside = outside (disk_shown c.args.store.files) (g.S.Source.whole c.args.source.now) (g.S.Source.taken c.args.source.now)
    (g.K.Sink.written c.args.sink.now) (g.K.Sink.faults c.args.sink.now) (g.C.Clock.moments c.args.clock.now) in
    let new : Outside = outside (disk_shown u.files)
    (g.S.Source.whole c.session-end.new.source) (g.S.Source.taken c.session-end.new.source)
    (g.K.Sink.written c.session-end.new.sink) (g.K.Sink.faults c.session-end.new.sink)
    (g.C.Clock.moments c.session-end.new.clock) in
    rw c.close.ensures.shown
    (disk_rose tells old new c.args.store c.session-end.new.store u c.session-end.result c.close-status.result
    c.session-end.ensures.held c.session-end.ensures.past c.session-end.ensures.whole
    (subst (λ (s : Status). ClosesBy s c.close-status.result g.D.Disk.tells c.session-end.new.store u) c.status_of.ensures
    c.close-status.ensures.closes)
    c.close-status.ensures.past c.requires c.session-end.ensures.no_flush is)
