use Rattle.std.proofs.Common.{◌∙◌, List, ℕ, Option, subst}
use Rattle.bk_load.specs.Found.{TrueIfThere}
use Rattle.bk_load.proofs.Courses.{came_refl, course_ok}
use Rattle.bk_load.proofs.Listings.{map_some}
use Rattle.bk_load.proofs.Places.{within_none}
use Rattle.bk_load.proofs.files.read_hint_if_there.Goals as goal

pub returns-in_ok-read_hint-in-Some-clause-taken : goal.returns-in_ok-read_hint-in-Some-clause-taken
returns-in_ok-read_hint-in-Some-clause-taken g c = λ tells writes truth fit.
    let there = map_some _ _ (c.requires tells ∙ c.in-Some.is) in
    c.in_ok-read_hint-in-Some.ensures.taken tells there.0 writes there.1
    (subst (λ (o : Option (List ℕ)). TrueIfThere o c.args.len writes) there.1 truth) fit

pub returns-in-None-clause-course : goal.returns-in-None-clause-course
returns-in-None-clause-course g c = course_ok _ _ _ _ (came_refl _ _)

pub returns-in-None-clause-kept : goal.returns-in-None-clause-kept
returns-in-None-clause-kept g c = within_none c.args.file c.args.len c.args.learned.now.keys.entries
