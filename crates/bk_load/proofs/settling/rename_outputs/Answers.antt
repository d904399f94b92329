use Rattle.std.proofs.Common.{◌∙◌, ℕ, List, [], inl, inr, rules, subst, sym, take}
use Rattle.std.proofs.lemmas.List.{take_all}
use Rattle.bk_base.specs.declared.numbers.FileId.{FileId}
use Rattle.bk_disk.specs.Told.{Told, at}
use Rattle.bk_swap.specs.Lists.{numbers}
use Rattle.bk_load.proofs.Courses.{came_trans, course_after, course_ok}
use Rattle.bk_load.proofs.Items.{in_numbers, numbers_more}
use Rattle.bk_load.proofs.Listings.{listed_there, there_listed}
use Rattle.bk_load.proofs.SettledLists.{Naming, input_of_is, is_input_of, may_take, naming_done, naming_kept, naming_none, naming_taken}
use Rattle.bk_load.proofs.settling.rename_outputs.Goals as goal
use Rattle.bk_load.proofs.settling.rename_outputs.Goals.{then-takes_name+in_ok-rename_data, else-takes_name}

pub loop-output-init : goal.loop-output-init
loop-output-init g c = record {
  came = c.list_files.ensures.course.came;
  naming = λ tells. subst (λ (t : Told). Naming [] (at (g.D.Disk.shown c.args.disk.now).told.image) (at t.image))
      (sym (c.list_files.ensures.told tells)) (naming_none _);
}

pub rename_data-requires : goal.rename_data-requires
rename_data-requires g c = λ tells.
    let r = at (g.D.Disk.shown c.args.disk.now).told.image in
    let s = at (g.D.Disk.shown c.loop-output.disk).told.image in
    let d : FileId = record { 0 = 0 } in
    let listing = c.deref.ensures.value ∙ c.in_ok-files.ensures.files tells in
    let takes = c.takes_name.ensures.yes c.if-takes_name.true in
    may_take (numbers (take c.loop-output.output-index c.args.outputs.now)) _ r s (c.loop-output.invariant.naming tells)
    (listed_there (g.D.Disk.shown c.args.disk.now).told.image _ _ (g.met.D.Disk.well c.args.disk.now tells).once listing takes.0)
    (λ there. takes.1 (there_listed (g.D.Disk.shown c.args.disk.now).told.image _ _ listing there))
    (c.requires.outputs tells _ (in_numbers c.args.outputs.now c.loop-output.output-index d c.loop-output-test.true))
    (λ input. takes.2 (is_input_of r c.args.waiting.now _ (c.requires.lists tells) input))

pub returns-clause-course : goal.returns-clause-course
returns-clause-course g c = course_ok _ _ _ _ c.loop-output.invariant.came

pub returns-clause-named : goal.returns-clause-named
returns-clause-named g c = λ tells.
    naming_done (numbers c.args.outputs.now) _ _
    (subst (λ (xs : List FileId). Naming (numbers xs) (at (g.D.Disk.shown c.args.disk.now).told.image) (at (g.D.Disk.shown c.loop-output.disk).told.image))
    (take_all c.loop-output.output-index c.args.outputs.now c.loop-output-test.false) (c.loop-output.invariant.naming tells))

pub returns-in_err-rename_data-clause-course : goal.returns-in_err-rename_data-clause-course
returns-in_err-rename_data-clause-course g c = course_after _ _ _ _ _ c.loop-output.invariant.came (search rules)

pub loop-output-preserved : goal.loop-output-preserved
loop-output-preserved g c =
    let r = at (g.D.Disk.shown c.args.disk.now).told.image in
    let s = at (g.D.Disk.shown c.loop-output.disk).told.image in
    let i = c.loop-output.output-index in
    let ids = numbers (take i c.args.outputs.now) in
    let d : FileId = record { 0 = 0 } in
    let more = sym (numbers_more c.args.outputs.now i d c.loop-output-test.true) in
    elim c.if-takes_name.branch [
      | then-takes_name+in_ok-rename_data w ↦ rw w.disk-is (record {
        came = came_trans _ _ _ _ c.loop-output.invariant.came w.rename_data.ensures.course.came;
        naming = λ tells.
            let t = at (g.D.Disk.shown w.rename_data.new.disk).told.image in
            subst (λ (ns : List ℕ). Naming ns r t) more
            (naming_taken ids _ r s t (c.loop-output.invariant.naming tells) (w.in_ok-rename_data.ensures.named tells));
      })
      | else-takes_name w ↦ rw w.disk-is (record {
        came = c.loop-output.invariant.came;
        naming = λ tells.
            let listing = c.deref.ensures.value ∙ c.in_ok-files.ensures.files tells in
            let image = (g.D.Disk.shown c.args.disk.now).told.image in
            let once = (g.met.D.Disk.well c.args.disk.now tells).once in
            subst (λ (ns : List ℕ). Naming ns r s) more
            (naming_kept ids _ r s (c.loop-output.invariant.naming tells)
            (λ temp. elim (c.takes_name.ensures.stays w.if-takes_name.false (there_listed image _ _ listing temp)) [
              | inl listed ↦ inl (listed_there image _ _ once listing listed)
              | inr input ↦ inr (input_of_is r c.args.waiting.now _ (c.requires.lists tells) input)
            ]));
      })
    ]
