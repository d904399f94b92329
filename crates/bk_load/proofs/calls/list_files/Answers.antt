use Rattle.bk_load.proofs.Courses.{course_opened}
use Rattle.bk_load.proofs.Going.{goes_same}
use Rattle.bk_load.proofs.calls.list_files.Goals as goal

pub returns-clause-course : goal.returns-clause-course
returns-clause-course g c =
    rw c.opened.ensures
    (course_opened _ _ _ c.list.result c.list.ensures.cause c.list.ensures.views c.list.ensures.outs
    (λ tells. goes_same _ _ (c.list.ensures.told tells)))
