use Rattle.std.proofs.Common.{subst, sym}
use Rattle.std.specs.Result.{is_ok}
use Rattle.bk_disk.specs.Told.{Told}
use Rattle.bk_load.specs.Tidying.{Goes}
use Rattle.bk_load.proofs.Courses.{course_viewed, views_later}
use Rattle.bk_load.proofs.Going.{viewed_goes}
use Rattle.bk_load.proofs.calls.view_file.Goals as goal

pub returns-clause-course : goal.returns-clause-course
returns-clause-course g c =
    rw c.opened.ensures
    (course_viewed _ _ _ c.view.result c.view.ensures.cause
    (views_later g.D.View.View.fallible c.view.result (g.D.Disk.shown c.args.disk.now).views (g.D.Disk.shown c.view.new.self).views
    (g.met.D.Disk.most_views c.args.disk.now) c.view.ensures.views c.view.ensures.no_view)
    c.view.ensures.outs
    (λ tells. subst (λ (t : Told). Goes (g.D.Disk.shown c.args.disk.now).told t) (sym (c.view.ensures.told tells))
    (viewed_goes (is_ok c.view.result) c.args.name c.args.from c.args.len (g.D.Disk.shown c.args.disk.now).told
    (c.requires tells).within (c.requires tells).needed)))
