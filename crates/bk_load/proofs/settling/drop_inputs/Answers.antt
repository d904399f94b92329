use Rattle.std.proofs.Common.{ℕ, List, rules, subst, sym, take}
use Rattle.std.proofs.lemmas.List.{take_all}
use Rattle.bk_base.specs.declared.numbers.FileId.{FileId}
use Rattle.bk_disk.specs.Told.{at}
use Rattle.bk_image.proofs.Places.{input_kept}
use Rattle.bk_swap.specs.Lists.{numbers}
use Rattle.bk_load.specs.Steps.{LosesInputs}
use Rattle.bk_load.proofs.Courses.{came_refl, came_trans, course_after, course_ok}
use Rattle.bk_load.proofs.Items.{in_numbers, numbers_more}
use Rattle.bk_load.proofs.SettledLists.{lists_after, loses_both, loses_none}
use Rattle.bk_load.proofs.settling.drop_inputs.Goals as goal

pub loop-input-init : goal.loop-input-init
loop-input-init g c = record { came = came_refl _ _; lost = λ tells. loses_none _ }

pub drop_input-requires : goal.drop_input-requires
drop_input-requires g c = λ tells.
    let r = at (g.D.Disk.shown c.args.disk.now).told.image in
    let s = at (g.D.Disk.shown c.loop-input.disk).told.image in
    let ids = numbers (take c.loop-input.input-index c.args.inputs.now) in
    let lost = c.loop-input.invariant.lost tells in
    let d : FileId = record { 0 = 0 } in
    input_kept r s _ (λ k. sym (lists_after ids r s lost k))
    (c.requires tells _ (in_numbers c.args.inputs.now c.loop-input.input-index d c.loop-input-test.true))

pub loop-input-preserved : goal.loop-input-preserved
loop-input-preserved g c =
    let o = at (g.D.Disk.shown c.args.disk.now).told.image in
    let r = at (g.D.Disk.shown c.loop-input.disk).told.image in
    let s = at (g.D.Disk.shown c.drop_input.new.disk).told.image in
    let d : FileId = record { 0 = 0 } in
    record {
      came = came_trans _ _ _ _ c.loop-input.invariant.came c.drop_input.ensures.course.came;
      lost = λ tells.
          subst (λ (ns : List ℕ). LosesInputs ns o s)
          (sym (numbers_more c.args.inputs.now c.loop-input.input-index d c.loop-input-test.true))
          (loses_both (numbers (take c.loop-input.input-index c.args.inputs.now)) _ o r s (c.loop-input.invariant.lost tells)
          (c.in_ok-drop_input.ensures.lost tells));
    }

pub returns-clause-course : goal.returns-clause-course
returns-clause-course g c = course_ok _ _ _ _ c.loop-input.invariant.came

pub returns-clause-lost : goal.returns-clause-lost
returns-clause-lost g c = λ tells.
    subst (λ (xs : List FileId). LosesInputs (numbers xs) (at (g.D.Disk.shown c.args.disk.now).told.image) (at (g.D.Disk.shown c.loop-input.disk).told.image))
    (take_all c.loop-input.input-index c.args.inputs.now c.loop-input-test.false) (c.loop-input.invariant.lost tells)

pub returns-in_err-drop_input-clause-course : goal.returns-in_err-drop_input-clause-course
returns-in_err-drop_input-clause-course g c = course_after _ _ _ _ _ c.loop-input.invariant.came (search rules)
