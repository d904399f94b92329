use Rattle.std.proofs.Common.{arith, length, refl, sym, subst}
use Rattle.bk_disk.specs.Shown.{DiskShown}
use Rattle.bk_disk.specs.Told.{bytes_of}
use Rattle.bk_load.specs.SettingsFile.{settings_file}
use Rattle.bk_load.specs.Tidying.{NoneLent}
use Rattle.bitcaskd.specs.Opening.{of_settings}
use Rattle.bitcaskd.specs.Run.{Outside, Telling, outside, telling}
use Rattle.bitcaskd.proofs.CheckingLaws.{refused_checks, reported_checks}
use Rattle.bitcaskd.proofs.OpeningLaws.{no_settings, settings_came}
use Rattle.bitcaskd.proofs.checking.check.Goals as goal

pub report_directory-report-requires : goal.report_directory-report-requires
report_directory-report-requires g c = λ tells. subst NoneLent (sym (c.settings.ensures.asked tells).fronts) (c.requires tells)

pub returns-in-Ok : goal.returns-in-Ok
returns-in-Ok g c = λ source clock whole taken moments.
    let was : DiskShown = g.D.Disk.shown c.args.disk in
    let mid : DiskShown = g.D.Disk.shown c.settings.new.disk in
    let tells : Telling = telling g.D.Disk.tells source g.K.Sink.tells clock in
    let old : Outside = outside was whole taken (g.K.Sink.written c.args.sink.now)
    (g.K.Sink.faults c.args.sink.now) moments in
    let last = c.report_directory-report.new.disk in
    let new : Outside = outside (g.D.Disk.shown last) whole taken (g.K.Sink.written c.report_directory-report.new.sink)
    (g.K.Sink.faults c.report_directory-report.new.sink) moments in
    let len = length (bytes_of settings_file was.told.image) in
    rw c.of_report.ensures
    (reported_checks tells old new mid c.report_directory-report.result
    (record {
      settings = c.in-Ok.field-0;
      says = c.in-Ok.ensures.answers;
      len = len;
      asked = c.settings.ensures.asked;
      before = settings_came g.D.Disk.tells was mid len _ c.settings.ensures.loads c.settings.ensures.asked;
      after = c.report_directory-report.ensures.came;
      output = c.report_directory-report.ensures.told.0;
      told = c.report_directory-report.ensures.told.1;
      wrote = c.report_directory-report.ensures.told.2;
      disk = c.report_directory-report.ensures.disk;
      read = c.report_directory-report.ensures.read;
      sink = c.report_directory-report.ensures.sink;
      later = c.report_directory-report.ensures.later;
    })
    (λ t. g.met.D.Disk.well last t) (record { whole = refl; taken = refl; moments = refl }))

pub returns-in-Err : goal.returns-in-Err
returns-in-Err g c = λ source clock whole taken moments.
    let was : DiskShown = g.D.Disk.shown c.args.disk in
    let now : DiskShown = g.D.Disk.shown c.settings.new.disk in
    let tells : Telling = telling g.D.Disk.tells source g.K.Sink.tells clock in
    let written = g.K.Sink.written c.args.sink.now in
    let faults = g.K.Sink.faults c.args.sink.now in
    let old : Outside = outside was whole taken written faults moments in
    let new : Outside = outside now whole taken written faults moments in
    rw c.of_settings.ensures
    (refused_checks tells old new (of_settings c.in-Err.error)
    (no_settings g.D.Disk.tells was now c.in-Err.error
    (settings_came g.D.Disk.tells was now (length (bytes_of settings_file was.told.image)) _ c.settings.ensures.loads
    c.settings.ensures.asked)
    c.in-Err.ensures.loads c.in-Err.ensures.answers)
    (λ t. g.met.D.Disk.well c.settings.new.disk t) (record { whole = refl; taken = refl; moments = refl }) refl
    (omega arith))
