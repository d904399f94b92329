use Rattle.std.proofs.Common.{length, sym, subst}
use Rattle.bk_disk.specs.Shown.{DiskShown}
use Rattle.bk_disk.specs.Told.{bytes_of}
use Rattle.bk_load.specs.SettingsFile.{settings_file}
use Rattle.bk_load.specs.Tidying.{NoneLent}
use Rattle.bitcaskd.proofs.OpeningLaws.{holds_still, no_settings, not_opened, opens_by, settings_came}
use Rattle.bitcaskd.proofs.opening.open_store.Goals as goal

pub open-requires : goal.open-requires
open-requires g c = λ tells. subst NoneLent (sym (c.settings.ensures.asked tells).fronts) (c.requires tells)

pub returns-in-Err-clause-refused : goal.returns-in-Err-clause-refused
returns-in-Err-clause-refused g c =
    let was : DiskShown = g.D.Disk.shown c.args.disk in
    let now : DiskShown = g.D.Disk.shown c.settings.new.disk in
    rw c.of_settings.ensures
    (no_settings g.D.Disk.tells was now c.in-Err.error
    (settings_came g.D.Disk.tells was now (length (bytes_of settings_file was.told.image)) _ c.in-Err.ensures.loads c.in-Err.ensures.asked)
    c.in-Err.ensures.loads c.in-Err.ensures.answers)

pub returns-in-Ok-open-clause-opens : goal.returns-in-Ok-open-clause-opens
returns-in-Ok-open-clause-opens g c =
    let was : DiskShown = g.D.Disk.shown c.args.disk in
    let now : DiskShown = g.D.Disk.shown c.settings.new.disk in
    opens_by g.D.Disk.tells was now c.in-Ok-open.store c.in-Ok.settings
    (settings_came g.D.Disk.tells was now (length (bytes_of settings_file was.told.image)) _ c.settings.ensures.loads c.settings.ensures.asked)
    (λ t log. holds_still (length (bytes_of settings_file was.told.image)) was.told now.told log
    (c.settings.ensures.asked t))
    c.in-Ok.ensures.answers c.in-Ok-open.ensures.came c.in-Ok-open.ensures.settings c.in-Ok-open.ensures.limit
    c.in-Ok-open.ensures.no_fold c.in-Ok-open.ensures.stands

pub returns-in-Err-open-clause-refused : goal.returns-in-Err-open-clause-refused
returns-in-Err-open-clause-refused g c =
    let was : DiskShown = g.D.Disk.shown c.args.disk in
    let now : DiskShown = g.D.Disk.shown c.settings.new.disk in
    rw c.of_open.ensures
    (not_opened g.D.Disk.tells was now
    (g.D.Disk.shown c.in-Err-open.disk) c.in-Err-open.error
    (settings_came g.D.Disk.tells was now (length (bytes_of settings_file was.told.image)) _ c.settings.ensures.loads c.settings.ensures.asked)
    c.in-Err-open.ensures.refused)
