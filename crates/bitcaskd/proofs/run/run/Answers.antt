use Rattle.std.proofs.Common.{◌∙◌, map, string_bytes, subst, sym}
use Rattle.bitcaskd.specs.Commands.{MayEnd}
use Rattle.bitcaskd.specs.Run.{Outside, Telling, outside, telling}
use Rattle.bitcaskd.proofs.CheckingLaws.{check_disk, check_ends, check_sink, check_source}
use Rattle.bitcaskd.specs.declared.command.Command.{Command}
use Rattle.bitcaskd.proofs.DrillingLaws.{no_disk}
use Rattle.bitcaskd.proofs.WordLaws.{none_asked, one_command}
use Rattle.bitcaskd.proofs.run.run.Goals as goal

pub returns-in-Some-Check-clause-ends : goal.returns-in-Some-Check-clause-ends
returns-in-Some-Check-clause-ends g c = λ command asked.
    let tells : Telling = telling g.D.Disk.tells g.S.Source.tells g.K.Sink.tells g.C.Clock.tells in
    let old : Outside = outside (g.D.Disk.shown c.args.disk) (g.S.Source.whole c.args.source.now) (g.S.Source.taken c.args.source.now)
    (g.K.Sink.written c.args.sink.now) (g.K.Sink.faults c.args.sink.now) (g.C.Clock.moments c.args.clock.now) in
    let last = c.check.result.disk in
    let new : Outside = outside (g.D.Disk.shown last) (g.S.Source.whole c.args.source.now) (g.S.Source.taken c.args.source.now)
    (g.K.Sink.written c.check.new.sink) (g.K.Sink.faults c.check.new.sink) (g.C.Clock.moments c.args.clock.now) in
    let checks =
    c.check.ensures g.S.Source.tells g.C.Clock.tells (g.S.Source.whole c.args.source.now) (g.S.Source.taken c.args.source.now)
    (g.C.Clock.moments c.args.clock.now) in
    let one =
    one_command c.command_of.result (map string_bytes c.args.words.now) c.in-Some-Check.field-0 command c.in-Some-Check.is
    c.command_of.ensures.only asked in
    check_ends tells old new c.check.result.status checks command (sym c.in-Some-Check.field-0-is ∙ one)

pub returns-in-Some-Check-clause-disk : goal.returns-in-Some-Check-clause-disk
returns-in-Some-Check-clause-disk g c = λ is.
    let tells : Telling = telling g.D.Disk.tells g.S.Source.tells g.K.Sink.tells g.C.Clock.tells in
    let old : Outside = outside (g.D.Disk.shown c.args.disk) (g.S.Source.whole c.args.source.now) (g.S.Source.taken c.args.source.now)
    (g.K.Sink.written c.args.sink.now) (g.K.Sink.faults c.args.sink.now) (g.C.Clock.moments c.args.clock.now) in
    let last = c.check.result.disk in
    let new : Outside = outside (g.D.Disk.shown last) (g.S.Source.whole c.args.source.now) (g.S.Source.taken c.args.source.now)
    (g.K.Sink.written c.check.new.sink) (g.K.Sink.faults c.check.new.sink) (g.C.Clock.moments c.args.clock.now) in
    let checks =
    c.check.ensures g.S.Source.tells g.C.Clock.tells (g.S.Source.whole c.args.source.now) (g.S.Source.taken c.args.source.now)
    (g.C.Clock.moments c.args.clock.now) in
    check_disk tells old new c.check.result.status checks is

pub returns-in-Some-Check-clause-source : goal.returns-in-Some-Check-clause-source
returns-in-Some-Check-clause-source g c = λ is.
    let tells : Telling = telling g.D.Disk.tells g.S.Source.tells g.K.Sink.tells g.C.Clock.tells in
    let old : Outside = outside (g.D.Disk.shown c.args.disk) (g.S.Source.whole c.args.source.now) (g.S.Source.taken c.args.source.now)
    (g.K.Sink.written c.args.sink.now) (g.K.Sink.faults c.args.sink.now) (g.C.Clock.moments c.args.clock.now) in
    let last = c.check.result.disk in
    let new : Outside = outside (g.D.Disk.shown last) (g.S.Source.whole c.args.source.now) (g.S.Source.taken c.args.source.now)
    (g.K.Sink.written c.check.new.sink) (g.K.Sink.faults c.check.new.sink) (g.C.Clock.moments c.args.clock.now) in
    let checks =
    c.check.ensures g.S.Source.tells g.C.Clock.tells (g.S.Source.whole c.args.source.now) (g.S.Source.taken c.args.source.now)
    (g.C.Clock.moments c.args.clock.now) in
    absurd (check_source tells old new c.check.result.status checks is)

pub returns-in-Some-Check-clause-sink : goal.returns-in-Some-Check-clause-sink
returns-in-Some-Check-clause-sink g c = λ is.
    let tells : Telling = telling g.D.Disk.tells g.S.Source.tells g.K.Sink.tells g.C.Clock.tells in
    let old : Outside = outside (g.D.Disk.shown c.args.disk) (g.S.Source.whole c.args.source.now) (g.S.Source.taken c.args.source.now)
    (g.K.Sink.written c.args.sink.now) (g.K.Sink.faults c.args.sink.now) (g.C.Clock.moments c.args.clock.now) in
    let last = c.check.result.disk in
    let new : Outside = outside (g.D.Disk.shown last) (g.S.Source.whole c.args.source.now) (g.S.Source.taken c.args.source.now)
    (g.K.Sink.written c.check.new.sink) (g.K.Sink.faults c.check.new.sink) (g.C.Clock.moments c.args.clock.now) in
    let checks =
    c.check.ensures g.S.Source.tells g.C.Clock.tells (g.S.Source.whole c.args.source.now) (g.S.Source.taken c.args.source.now)
    (g.C.Clock.moments c.args.clock.now) in
    check_sink tells old new c.check.result.status checks is

pub returns-in-None-clause-ran : goal.returns-in-None-clause-ran
returns-in-None-clause-ran g c = λ command asked.
    absurd (none_asked c.command_of.result (map string_bytes c.args.words.now) command c.in-None.is
    c.command_of.ensures.only asked)

pub returns-in-None-clause-ends : goal.returns-in-None-clause-ends
returns-in-None-clause-ends g c = λ command asked.
    absurd (none_asked c.command_of.result (map string_bytes c.args.words.now) command c.in-None.is
    c.command_of.ensures.only asked)

pub returns-in-Some-Drill-clause-ends : goal.returns-in-Some-Drill-clause-ends
returns-in-Some-Drill-clause-ends g c = λ command asked.
    let one =
    one_command c.command_of.result (map string_bytes c.args.words.now) c.in-Some-Drill.field-0 command c.in-Some-Drill.is
    c.command_of.ensures.only asked in
    subst (λ (which : Command). MayEnd which c.run_script.result) (sym c.in-Some-Drill.field-0-is ∙ one) c.run_script.ensures.ends

pub returns-in-Some-Drill-clause-disk : goal.returns-in-Some-Drill-clause-disk
returns-in-Some-Drill-clause-disk g c = λ is. absurd (no_disk c.run_script.result c.run_script.ensures.ends is)

pub returns-in-Some-Open-clause-ran : goal.returns-in-Some-Open-clause-ran
returns-in-Some-Open-clause-ran g c = λ command asked.
    let one =
    one_command c.command_of.result (map string_bytes c.args.words.now) c.in-Some-Open.field-0 command c.in-Some-Open.is
    c.command_of.ensures.only asked in
    rw (sym one, c.in-Some-Open.field-0-is) c.over_disk.ensures.ran
