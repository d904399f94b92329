use Rattle.std.proofs.Common.{ap}
use Rattle.bk_report.proofs.CountedFiles.{is_report_of}
use Rattle.bk_report.proofs.Telling.{none_told, told_of}
use Rattle.bk_report.specs.Report.{report_text}
use Rattle.bk_report.proofs.directory.report_directory.Goals as goal

pub returns-in-Err-clause-told : goal.returns-in-Err-clause-told
returns-in-Err-clause-told g c =
    rw c.from.ensures
    (none_told c.in-Err.error g.K.Sink.tells g.D.Disk.tells (g.D.Disk.shown c.args.disk.now).told
    (g.D.Disk.shown c.recover.new.disk).told (g.K.Sink.written c.args.sink.now))

pub returns-in-Ok-clause-told : goal.returns-in-Ok-clause-told
returns-in-Ok-clause-told g c =
    told_of g.D.Disk.tells (g.D.Disk.shown c.args.disk.now).told (g.D.Disk.shown c.recover.new.disk).told
    (g.K.Sink.written c.args.sink.now) (g.K.Sink.written c.send_report.new.sink)
    (report_text c.in-Ok.loaded.rows.items c.in-Ok.loaded.report)
    (λ t. is_report_of (g.D.Disk.shown c.args.disk.now).told (g.D.Disk.shown c.recover.new.disk).told c.in-Ok.loaded
    (c.recover.ensures.course.came.goes t).tidied (c.in-Ok.ensures.idle t) (c.in-Ok.ensures.loaded t)
    (c.in-Ok.ensures.odd t) c.in-Ok.ensures.order c.len-keys.ensures.distinct)
    c.send_report.result g.K.Sink.tells c.send_report.ensures.whole c.send_report.ensures.part
    (λ m. ap g.K.Sink.written (c.send_report.ensures.nothing m)) c.send_report.ensures.disk c.send_report.ensures.read
