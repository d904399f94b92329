use Rattle.std.proofs.Common.{refl}
use Rattle.bk_files.specs.Files.{disk_shown}
use Rattle.bk_store.specs.Shown.{Shown}
use Rattle.bitcaskd.specs.Run.{Outside, Telling, outside, telling}
use Rattle.bitcaskd.proofs.ListingLaws.{list_disk, list_ends, list_sink, lists}
use Rattle.bitcaskd.proofs.listing.list_store.Goals as goal

pub returns-clause-ran : goal.returns-clause-ran
returns-clause-ran g c = λ was source whole taken opens log known_whole known.
    let tells : Telling = telling g.D.Disk.tells source g.K.Sink.tells g.C.Clock.tells in
    let old : Outside = outside was whole taken (g.K.Sink.written c.args.sink.now)
    (g.K.Sink.faults c.args.sink.now) (g.C.Clock.moments c.args.clock.now) in
    let u : Shown = c.list-end.new.store in
    let new : Outside = outside (disk_shown u.files) whole taken
    (g.K.Sink.written c.list-end.new.sink) (g.K.Sink.faults c.list-end.new.sink) (g.C.Clock.moments c.list-end.new.clock) in
    rw (c.close.ensures.shown, c.of_list.ensures)
    (lists tells old new c.args.store u c.list-end.result c.list-end.ensures.lists c.list-end.ensures.past
    refl refl log known_whole opens known)

pub returns-clause-disk : goal.returns-clause-disk
returns-clause-disk g c = λ is.
    rw c.close.ensures.shown (c.list-end.ensures.disk (list_disk c.list-end.result (rw c.of_list.ensures at is)))

pub returns-clause-sink : goal.returns-clause-sink
returns-clause-sink g c = λ is. c.list-end.ensures.sink (list_sink c.list-end.result (rw c.of_list.ensures at is))

pub returns-clause-ends : goal.returns-clause-ends
returns-clause-ends g c = list_ends c.list-end.result c.of_list.result c.of_list.ensures
