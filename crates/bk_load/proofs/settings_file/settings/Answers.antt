use Rattle.std.proofs.Common.{◌∙◌, Some, None, ap, sym}
use Rattle.bk_disk.specs.Told.{Told, at, listing}
use Rattle.bk_load.specs.SettingsFile.{settings_file}
use Rattle.bk_load.proofs.Listings.{len_at}
use Rattle.bk_load.proofs.SettingsFile.{asks_whole, plain_answers}
use Rattle.bk_load.proofs.settings_file.settings.Goals as goal

pub read_settings-requires : goal.read_settings-requires
read_settings-requires g c = λ tells.
    len_at (g.D.Disk.shown c.list_files.new.disk).told.image c.deref.result.now settings_file (Some c.in-Some.len)
    (g.met.D.Disk.well c.list_files.new.disk tells).once
    (c.deref.ensures.value ∙ c.in_ok-files.ensures.files tells
    ∙ ap (λ (t : Told). listing t.image) (sym (c.list_files.ensures.told tells)))
    (sym c.in-Some.is ∙ c.length_of.ensures)

pub returns-in-Some-clause-asked : goal.returns-in-Some-clause-asked
returns-in-Some-clause-asked g c = λ tells.
    asks_whole settings_file c.in-Some.len (g.D.Disk.shown c.args.disk.now).told (g.D.Disk.shown c.list_files.new.disk).told
    (g.D.Disk.shown c.read_settings.new.disk).told (c.list_files.ensures.told tells)
    (len_at (g.D.Disk.shown c.list_files.new.disk).told.image c.deref.result.now settings_file (Some c.in-Some.len)
    (g.met.D.Disk.well c.list_files.new.disk tells).once
    (c.deref.ensures.value ∙ c.in_ok-files.ensures.files tells
    ∙ ap (λ (t : Told). listing t.image) (sym (c.list_files.ensures.told tells)))
    (sym c.in-Some.is ∙ c.length_of.ensures))
    (c.read_settings.ensures.asked tells)

pub returns-clause-answers : goal.returns-clause-answers
returns-clause-answers g c = λ tells.
    plain_answers (at (g.D.Disk.shown c.args.disk.now).told.image settings_file) c.plain.result
    (len_at (g.D.Disk.shown c.args.disk.now).told.image c.deref.result.now settings_file None
    (g.met.D.Disk.well c.args.disk.now tells).once (c.deref.ensures.value ∙ c.in_ok-files.ensures.files tells)
    (sym c.in-None.is ∙ c.length_of.ensures))
    c.plain.ensures
