use Rattle.bk_disk.specs.Calls.{Renamed}
use Rattle.bk_disk.specs.Told.{at}
use Rattle.bk_image.specs.Readings.{main, main_temp}
use Rattle.bk_load.specs.Steps.{HasTakenName}
use Rattle.bk_load.proofs.Courses.{course_opened, ok_opened, result_goes}
use Rattle.bk_load.proofs.Going.{renamed_goes, renamed_named}
use Rattle.bk_load.proofs.calls.rename_data.Goals as goal

pub rename-requires : goal.rename-requires
rename-requires g c = λ tells. (c.requires tells).one

pub returns-clause-course : goal.returns-clause-course
returns-clause-course g c =
    rw c.opened.ensures
    (course_opened _ _ _ c.rename.result c.rename.ensures.cause c.rename.ensures.views c.rename.ensures.outs
    (λ tells. result_goes c.rename.result (g.D.Disk.shown c.args.disk.now).told (g.D.Disk.shown c.rename.new.self).told
    (Renamed (main_temp c.args.file.0) (main c.args.file.0) (g.D.Disk.shown c.args.disk.now).told (g.D.Disk.shown c.rename.new.self).told)
    (renamed_goes c.args.file.0 (g.D.Disk.shown c.args.disk.now).told (g.D.Disk.shown c.rename.new.self).told
    (g.met.D.Disk.well c.args.disk.now tells) (c.requires tells))
    (c.rename.ensures.renamed tells) (c.rename.ensures.err tells)))

pub returns-clause-named : goal.returns-clause-named
returns-clause-named g c = λ tells.
    rw c.opened.ensures
    (ok_opened c.rename.result
    (Renamed (main_temp c.args.file.0) (main c.args.file.0) (g.D.Disk.shown c.args.disk.now).told (g.D.Disk.shown c.rename.new.self).told)
    (HasTakenName c.args.file.0 (at (g.D.Disk.shown c.args.disk.now).told.image) (at (g.D.Disk.shown c.rename.new.self).told.image))
    (renamed_named c.args.file.0 (g.D.Disk.shown c.args.disk.now).told (g.D.Disk.shown c.rename.new.self).told
    (g.met.D.Disk.well c.args.disk.now tells) (c.requires tells)) (c.rename.ensures.renamed tells))
