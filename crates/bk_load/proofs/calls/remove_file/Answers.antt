use Rattle.bk_disk.specs.Calls.{Removed}
use Rattle.bk_disk.specs.Told.{at}
use Rattle.bk_load.specs.Steps.{LacksOnly}
use Rattle.bk_load.proofs.Courses.{course_opened, ok_opened, result_goes}
use Rattle.bk_load.proofs.Going.{removed_goes, removed_lacks}
use Rattle.bk_load.proofs.calls.remove_file.Goals as goal

pub returns-clause-course : goal.returns-clause-course
returns-clause-course g c =
    rw c.opened.ensures
    (course_opened _ _ _ c.remove.result c.remove.ensures.cause c.remove.ensures.views c.remove.ensures.outs
    (λ tells. result_goes c.remove.result (g.D.Disk.shown c.args.disk.now).told (g.D.Disk.shown c.remove.new.self).told
    (Removed c.args.name (g.D.Disk.shown c.args.disk.now).told (g.D.Disk.shown c.remove.new.self).told)
    (removed_goes c.args.name (g.D.Disk.shown c.args.disk.now).told (g.D.Disk.shown c.remove.new.self).told
    (g.met.D.Disk.well c.args.disk.now tells) (c.requires tells))
    (c.remove.ensures.removed tells) (c.remove.ensures.err tells)))

pub returns-clause-gone : goal.returns-clause-gone
returns-clause-gone g c = λ tells.
    rw c.opened.ensures
    (ok_opened c.remove.result (Removed c.args.name (g.D.Disk.shown c.args.disk.now).told (g.D.Disk.shown c.remove.new.self).told)
    (LacksOnly c.args.name (at (g.D.Disk.shown c.args.disk.now).told.image) (at (g.D.Disk.shown c.remove.new.self).told.image))
    (removed_lacks c.args.name (g.D.Disk.shown c.args.disk.now).told (g.D.Disk.shown c.remove.new.self).told
    (g.met.D.Disk.well c.args.disk.now tells)) (c.remove.ensures.removed tells))
