use Rattle.bk_load.proofs.Courses.{course_read}
use Rattle.bk_load.proofs.calls.read_whole.Goals as goal

pub returns-clause-course : goal.returns-clause-course
returns-clause-course g c =
    course_read _ _ _ (g.D.View.View.fallible c.in_ok-view.view) c.read_view.result c.view_file.ensures.course.came
    c.in_ok-view.ensures.views c.read_view.ensures.read c.read_view.ensures.disk
