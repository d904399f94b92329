use Rattle.std.proofs.Common.{◌∷◌, List, refl, rules, subst, inl}
use Rattle.bk_base.specs.declared.names.Name.{Name}
use Rattle.bk_base.specs.declared.numbers.FileId.{FileId}
use Rattle.bk_disk.specs.Told.{at}
use Rattle.bk_image.specs.Readings.{In}
use Rattle.bk_swap.specs.Lists.{numbers}
use Rattle.bk_load.specs.Lists.{AreLists}
use Rattle.bk_load.specs.Steps.{HaveTakenNames, LacksOnly, LosesInputs}
use Rattle.bk_load.proofs.Courses.{came_refl, came_trans, course_after, course_ok}
use Rattle.bk_load.proofs.SettledLists.{lists_after, lists_kept, lists_less, names_input, names_output, no_items, no_more_lists, swap_may_go}
use Rattle.bk_load.proofs.settling.settle_lists.Goals as goal

pub lists-init : goal.lists-init
lists-init g c = record { came = came_refl _ _; lists = c.requires }

pub rename_outputs-requires-clause-outputs : goal.rename_outputs-requires-clause-outputs
rename_outputs-requires-clause-outputs g c = λ tells id is_in.
    let r = at (g.D.Disk.shown c.lists.disk).told.image in
    let are : AreLists r (c.in-Some.first.now ∷ c.in-Some.later.now) =
    subst (AreLists r) c.in-Some.ensures.cases.0 (c.lists.invariant.lists tells) in
    names_output r c.in-Some.first.now id (are.each c.in-Some.first.now (inl refl))
    (subst (λ (xs : List FileId). In id (numbers xs)) c.deref.ensures.value is_in)

pub drop_inputs-requires : goal.drop_inputs-requires
drop_inputs-requires g c = λ tells id is_in.
    let r = at (g.D.Disk.shown c.lists.disk).told.image in
    let s = at (g.D.Disk.shown c.rename_outputs.new.disk).told.image in
    let first = c.in-Some.first.now in
    let are : AreLists r (first ∷ c.in-Some.later.now) =
    subst (AreLists r) c.in-Some.ensures.cases.0 (c.lists.invariant.lists tells) in
    let named = c.in_ok-rename_outputs.ensures.named tells in
    names_input s first id ((lists_kept r s (first ∷ c.in-Some.later.now) named.lists are).each first (inl refl))
    (subst (λ (xs : List FileId). In id (numbers xs)) c.deref-in-Some.ensures.value is_in)

pub remove_file-requires : goal.remove_file-requires
remove_file-requires g c = λ tells.
    let r = at (g.D.Disk.shown c.lists.disk).told.image in
    let s = at (g.D.Disk.shown c.rename_outputs.new.disk).told.image in
    let t = at (g.D.Disk.shown c.drop_inputs.new.disk).told.image in
    let first = c.in-Some.first.now in
    let are : AreLists r (first ∷ c.in-Some.later.now) =
    subst (AreLists r) c.in-Some.ensures.cases.0 (c.lists.invariant.lists tells) in
    let named = c.in_ok-rename_outputs.ensures.named tells in
    let lost = c.in_ok-drop_inputs.ensures.lost tells in
    let later : AreLists t (first ∷ c.in-Some.later.now) =
    lists_kept s t (first ∷ c.in-Some.later.now) (lists_after (numbers c.deref-in-Some.result.now) s t lost)
    (lists_kept r s (first ∷ c.in-Some.later.now) named.lists are) in
    rw c.named.ensures
    (swap_may_go r s t first (later.each first (inl refl))
    (subst (λ (xs : List FileId). HaveTakenNames (numbers xs) r s) c.deref.ensures.value named)
    (subst (λ (xs : List FileId). LosesInputs (numbers xs) s t) c.deref-in-Some.ensures.value lost))

pub lists-preserved : goal.lists-preserved
lists-preserved g c =
    let r = at (g.D.Disk.shown c.lists.disk).told.image in
    let s = at (g.D.Disk.shown c.rename_outputs.new.disk).told.image in
    let t = at (g.D.Disk.shown c.drop_inputs.new.disk).told.image in
    let u = at (g.D.Disk.shown c.remove_file.new.disk).told.image in
    let first = c.in-Some.first.now in
    record {
      came = came_trans _ _ _ _
          (came_trans _ _ _ _ (came_trans _ _ _ _ c.lists.invariant.came c.rename_outputs.ensures.course.came) c.drop_inputs.ensures.course.came)
          c.remove_file.ensures.course.came;
      lists = λ tells.
          let are : AreLists r (first ∷ c.in-Some.later.now) =
          subst (AreLists r) c.in-Some.ensures.cases.0 (c.lists.invariant.lists tells) in
          let named = c.in_ok-rename_outputs.ensures.named tells in
          let lost = c.in_ok-drop_inputs.ensures.lost tells in
          let later : AreLists t (first ∷ c.in-Some.later.now) =
          lists_kept s t (first ∷ c.in-Some.later.now) (lists_after (numbers c.deref-in-Some.result.now) s t lost)
          (lists_kept r s (first ∷ c.in-Some.later.now) named.lists are) in
          lists_less t u first c.in-Some.later.now later
          (subst (λ (n : Name). LacksOnly n t u) c.named.ensures (c.in_ok-remove_file.ensures.gone tells));
    }

pub returns-clause-none : goal.returns-clause-none
returns-clause-none g c = λ tells.
    let s = at (g.D.Disk.shown c.lists.disk).told.image in
    no_more_lists s (subst (AreLists s) (no_items c.lists.waiting.now c.in_default.ensures.cases) (c.lists.invariant.lists tells))

pub returns-in_err-rename_outputs-clause-course : goal.returns-in_err-rename_outputs-clause-course
returns-in_err-rename_outputs-clause-course g c = course_after _ _ _ _ _ c.lists.invariant.came (search rules)

pub returns-in_err-drop_inputs-clause-course : goal.returns-in_err-drop_inputs-clause-course
returns-in_err-drop_inputs-clause-course g c =
    course_after _ _ _ _ _ (came_trans _ _ _ _ c.lists.invariant.came c.rename_outputs.ensures.course.came) (search rules)

pub returns-in_err-remove_file-clause-course : goal.returns-in_err-remove_file-clause-course
returns-in_err-remove_file-clause-course g c =
    course_after _ _ _ _ _
    (came_trans _ _ _ _ (came_trans _ _ _ _ c.lists.invariant.came c.rename_outputs.ensures.course.came) c.drop_inputs.ensures.course.came)
    (search rules)

pub returns-clause-course : goal.returns-clause-course
returns-clause-course g c = course_ok _ _ _ _ c.lists.invariant.came
