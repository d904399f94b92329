use Rattle.std.proofs.Common.{rules, subst}
use Rattle.bk_base.specs.declared.names.Name.{Name}
use Rattle.bk_disk.specs.Told.{at}
use Rattle.bk_image.specs.Readings.{hint, main, main_temp}
use Rattle.bk_load.specs.Steps.{LacksOnly}
use Rattle.bk_load.proofs.Courses.{came_trans, course_after}
use Rattle.bk_load.proofs.SettledLists.{loses_input, on_ok_map, still_input}
use Rattle.bk_load.proofs.Tidied.{input_may_go}
use Rattle.bk_load.proofs.settling.drop_input.Goals as goal

pub remove_file-requires : goal.remove_file-requires
remove_file-requires g c = λ tells.
    rw c.named.ensures
    (input_may_go (at (g.D.Disk.shown c.args.disk.now).told.image) (hint c.args.input.0) (c.requires tells) (λ e. cc e))

pub remove_file-requires-2 : goal.remove_file-requires-2
remove_file-requires-2 g c = λ tells.
    rw c.named-2.ensures
    (input_may_go (at (g.D.Disk.shown c.remove_file.new.disk).told.image) (main_temp c.args.input.0)
    (still_input c.named.result (hint c.args.input.0) c.args.input.0 (at (g.D.Disk.shown c.args.disk.now).told.image)
    (at (g.D.Disk.shown c.remove_file.new.disk).told.image) c.named.ensures (λ e. cc e)
    (c.in_ok-remove_file.ensures.gone tells) (c.requires tells)) (λ e. cc e))

pub remove_file-requires-3 : goal.remove_file-requires-3
remove_file-requires-3 g c = λ tells.
    rw c.named-3.ensures
    (input_may_go (at (g.D.Disk.shown c.remove_file-2.new.disk).told.image) (main c.args.input.0)
    (still_input c.named-2.result (main_temp c.args.input.0) c.args.input.0 (at (g.D.Disk.shown c.remove_file.new.disk).told.image)
    (at (g.D.Disk.shown c.remove_file-2.new.disk).told.image) c.named-2.ensures (λ e. cc e)
    (c.in_ok-remove_file-2.ensures.gone tells)
    (still_input c.named.result (hint c.args.input.0) c.args.input.0 (at (g.D.Disk.shown c.args.disk.now).told.image)
    (at (g.D.Disk.shown c.remove_file.new.disk).told.image) c.named.ensures (λ e. cc e)
    (c.in_ok-remove_file.ensures.gone tells) (c.requires tells))) (λ e. cc e))

pub returns-in_err-remove_file-2-clause-course : goal.returns-in_err-remove_file-2-clause-course
returns-in_err-remove_file-2-clause-course g c =
    course_after _ _ _ _ _ c.remove_file.ensures.course.came (search rules)

pub returns-clause-course : goal.returns-clause-course
returns-clause-course g c =
    course_after _ _ _ _ _ (came_trans _ _ _ _ c.remove_file.ensures.course.came c.remove_file-2.ensures.course.came)
    c.remove_file-3.ensures.course

pub returns-clause-lost : goal.returns-clause-lost
returns-clause-lost g c = λ tells.
    let o = at (g.D.Disk.shown c.args.disk.now).told.image in
    let p = at (g.D.Disk.shown c.remove_file.new.disk).told.image in
    let q = at (g.D.Disk.shown c.remove_file-2.new.disk).told.image in
    let r = at (g.D.Disk.shown c.remove_file-3.new.disk).told.image in
    on_ok_map c.remove_file-3.result _ _
    (λ lacks. loses_input c.args.input.0 o p q r
    (subst (λ (n : Name). LacksOnly n o p) c.named.ensures (c.in_ok-remove_file.ensures.gone tells))
    (subst (λ (n : Name). LacksOnly n p q) c.named-2.ensures (c.in_ok-remove_file-2.ensures.gone tells))
    (subst (λ (n : Name). LacksOnly n q r) c.named-3.ensures lacks))
    (c.remove_file-3.ensures.gone tells)
