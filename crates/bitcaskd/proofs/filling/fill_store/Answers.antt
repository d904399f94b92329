use Rattle.std.proofs.Common.{refl}
use Rattle.bk_files.specs.Files.{disk_shown}
use Rattle.bk_store.specs.Shown.{Shown}
use Rattle.bitcaskd.specs.Run.{Outside, Telling, outside, telling}
use Rattle.bitcaskd.proofs.FillingLaws.{fill_disk, fill_ends, fill_sink, fills}
use Rattle.bitcaskd.proofs.filling.fill_store.Goals as goal

pub returns-clause-ran : goal.returns-clause-ran
returns-clause-ran g c = λ was source whole taken opens log known_whole known.
    let tells : Telling = telling g.D.Disk.tells source g.K.Sink.tells g.C.Clock.tells in
    let old : Outside = outside was whole taken (g.K.Sink.written c.args.sink.now)
    (g.K.Sink.faults c.args.sink.now) (g.C.Clock.moments c.args.clock.now) in
    let u : Shown = c.fill-end.new.store in
    let new : Outside = outside (disk_shown u.files) whole taken
    (g.K.Sink.written c.fill-end.new.sink) (g.K.Sink.faults c.fill-end.new.sink) (g.C.Clock.moments c.fill-end.new.clock) in
    rw (c.close.ensures.shown, c.of_fill.ensures)
    (fills tells c.args.count old new c.args.store u c.fill-end.result c.fill-end.ensures.filled c.fill-end.ensures.past
    refl refl log known_whole opens known)

pub returns-clause-disk : goal.returns-clause-disk
returns-clause-disk g c = λ is.
    rw c.close.ensures.shown (c.fill-end.ensures.disk (fill_disk c.fill-end.result (rw c.of_fill.ensures at is)))

pub returns-clause-sink : goal.returns-clause-sink
returns-clause-sink g c = λ is. c.fill-end.ensures.sink (fill_sink c.fill-end.result (rw c.of_fill.ensures at is))

pub returns-clause-ends : goal.returns-clause-ends
returns-clause-ends g c = fill_ends c.fill-end.result c.of_fill.result c.args.count c.of_fill.ensures
