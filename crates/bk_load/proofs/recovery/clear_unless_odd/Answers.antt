use Rattle.bk_load.proofs.Courses.{came_refl, course_ok}
use Rattle.bk_load.proofs.recovery.clear_unless_odd.Goals as goal

pub returns-clause-course : goal.returns-clause-course
returns-clause-course g c = course_ok _ _ _ _ (came_refl _ _)
