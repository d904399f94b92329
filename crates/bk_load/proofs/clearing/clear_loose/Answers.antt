use Rattle.std.proofs.Common.{◌∙◌, ap, get_or, nat_cmp, rules, sym}
use Rattle.std.specs.BTreeMap.{get}
use Rattle.std.specs.Option.{is_some}
use Rattle.bk_base.specs.declared.names.Kind.TheVariants.{Main}
use Rattle.bk_disk.specs.declared.disks.Listed.{Listed}
use Rattle.bk_disk.specs.Told.{Told, at}
use Rattle.bk_load.proofs.Courses.{came_trans, course_after}
use Rattle.bk_load.proofs.LooseFiles.{cleared_all, cleared_kept, cleared_more, cleared_none, loose_now, not_main}
use Rattle.bk_load.proofs.Tidied.{loose_may_go, no_list_still}
use Rattle.bk_load.proofs.clearing.clear_loose.Goals as goal
use Rattle.bk_load.proofs.clearing.clear_loose.Goals.{then-is_loose+in_ok-remove_file, else-is_loose}

pub loop-file-init : goal.loop-file-init
loop-file-init g c = record {
  came = c.list_files.ensures.course.came;
  cleared = λ tells. cleared_none (g.D.Disk.shown c.args.disk.now).told.image (g.D.Disk.shown c.list_files.new.disk).told.image
      (ap (λ (t : Told). t.image) (c.list_files.ensures.told tells));
}

pub remove_file-requires : goal.remove_file-requires
remove_file-requires g c = λ tells.
    let image = (g.D.Disk.shown c.args.disk.now).told.image in
    let now = (g.D.Disk.shown c.loop-file.disk).told.image in
    let tidied = (c.loop-file.invariant.came.goes tells).tidied in
    let none = c.requires tells in
    let listing = c.deref.ensures.value ∙ c.in_ok-files.ensures.files tells in
    loose_may_go (at now) _ (no_list_still (at image) (at now) tidied none)
    (loose_now image now c.deref.result.now _ _ none tidied listing (c.in_ok-mains.ensures _)
    (sym c.is_loose.ensures ∙ c.if-is_loose.true))

pub loop-file-preserved : goal.loop-file-preserved
loop-file-preserved g c = elim c.if-is_loose.branch [
  | then-is_loose+in_ok-remove_file w ↦
      rw w.disk-is (record {
        came = came_trans _ _ _ _ c.loop-file.invariant.came w.remove_file.ensures.course.came;
        cleared = λ tells.
            let none : Listed = record { name = record { id = 0; kind = Main }; len = 0 } in
            cleared_more (at (g.D.Disk.shown c.args.disk.now).told.image) (at (g.D.Disk.shown c.loop-file.disk).told.image)
            (at (g.D.Disk.shown w.remove_file.new.disk).told.image) c.deref-file-items.result.now c.loop-file.file-index none
            c.loop-file-test.true
            (not_main (is_some (get nat_cmp c.in_ok-mains.mains (get_or c.deref-file-items.result.now c.loop-file.file-index none).name.id))
            (get_or c.deref-file-items.result.now c.loop-file.file-index none).name.kind
            (sym c.is_loose.ensures ∙ w.if-is_loose.true))
            (w.in_ok-remove_file.ensures.gone tells) (c.loop-file.invariant.cleared tells);
      })
  | else-is_loose w ↦ rw w.disk-is (record {
    came = c.loop-file.invariant.came;
    cleared = λ tells.
        let image = (g.D.Disk.shown c.args.disk.now).told.image in
        let listing = c.deref.ensures.value ∙ c.in_ok-files.ensures.files tells in
        let items = c.deref-file-items.result.now in
        let none : Listed = record { name = record { id = 0; kind = Main }; len = 0 } in
        cleared_kept image (g.D.Disk.shown c.loop-file.disk).told.image c.deref.result.now items c.loop-file.file-index none
        (get nat_cmp c.in_ok-mains.mains (get_or items c.loop-file.file-index none).name.id) c.is_loose.result
        (g.met.D.Disk.well c.args.disk.now tells).once listing c.loop-file-test.true
        (c.in_ok-mains.ensures (get_or items c.loop-file.file-index none).name.id) c.is_loose.ensures w.if-is_loose.false
        (c.loop-file.invariant.cleared tells);
  })
]

pub returns-in_err-remove_file-clause-course : goal.returns-in_err-remove_file-clause-course
returns-in_err-remove_file-clause-course g c = course_after _ _ _ _ _ c.loop-file.invariant.came (search rules)

pub returns-clause-cleared : goal.returns-clause-cleared
returns-clause-cleared g c = λ tells.
    cleared_all (g.D.Disk.shown c.args.disk.now).told.image (g.D.Disk.shown c.loop-file.disk).told.image c.deref-file-items.result.now
    c.loop-file.file-index (c.deref-file-items.ensures.value ∙ c.in_ok-files.ensures.files tells) c.loop-file-test.false
    (c.loop-file.invariant.cleared tells)
