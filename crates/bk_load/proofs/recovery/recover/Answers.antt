use Rattle.std.proofs.Common.{rules, List, ap, subst, sym, ◌∙◌}
use Rattle.bk_base.specs.declared.rows.Row.{Row}
use Rattle.bk_disk.specs.Told.{Image, Told, at}
use Rattle.bk_load.specs.Directory.{greatest_in}
use Rattle.bk_files.specs.Rows.{AreSyncedIfSealed}
use Rattle.bk_load.specs.Directory.{IsCleared}
use Rattle.bk_load.specs.Found.{AreFound}
use Rattle.bk_load.specs.Lists.{AreLists, AreOdd}
use Rattle.bk_load.specs.Loads.{IsLoadedFrom}
use Rattle.bk_load.proofs.Courses.{came_trans, course_after}
use Rattle.bk_load.proofs.Recovered.{sound_load}
use Rattle.bk_load.proofs.StartedLoads.{are_files_of, fit_new, if_ok_map, is_in_order, is_loaded_from, on_ok_from, synced_counted}
use Rattle.bk_load.proofs.Tidied.{no_list_still}
use Rattle.bk_load.proofs.recovery.recover.Goals as goal

pub settle_lists-requires : goal.settle_lists-requires
settle_lists-requires g c = λ tells.
    rw c.deref-2.ensures.value
    (subst (λ (i : Image). AreLists (at i) c.in_ok-lists.lists.whole.items) (sym (c.read_lists.ensures.image tells))
    (c.in_ok-lists.ensures.whole tells))

pub clear_unless_odd-requires : goal.clear_unless_odd-requires
clear_unless_odd-requires g c = λ tells. c.in_ok-settle_lists.ensures.none tells

pub read_files-requires-clause-no_list : goal.read_files-requires-clause-no_list
read_files-requires-clause-no_list g c = λ tells.
    no_list_still (at (g.D.Disk.shown c.settle_lists.new.disk).told.image) (at (g.D.Disk.shown c.clear_unless_odd.new.disk).told.image)
    (c.clear_unless_odd.ensures.course.came.goes tells).tidied (c.in_ok-settle_lists.ensures.none tells)

pub read_files-requires-clause-none_lent : goal.read_files-requires-clause-none_lent
read_files-requires-clause-none_lent g c = λ tells.
    (c.clear_unless_odd.ensures.course.came.goes tells).lent
    ((c.settle_lists.ensures.course.came.goes tells).lent
    ((c.read_lists.ensures.course.came.goes tells).lent
    ((c.list_files.ensures.course.came.goes tells).lent (c.requires tells))))

pub returns-in_err-settle_lists-clause-course : goal.returns-in_err-settle_lists-clause-course
returns-in_err-settle_lists-clause-course g c =
    course_after _ _ _ _ _
    (came_trans _ _ _ _ c.list_files.ensures.course.came c.read_lists.ensures.course.came) (search rules)

pub returns-in_err-clear_unless_odd-clause-course : goal.returns-in_err-clear_unless_odd-clause-course
returns-in_err-clear_unless_odd-clause-course g c =
    course_after _ _ _ _ _
    (came_trans _ _ _ _ (came_trans _ _ _ _ c.list_files.ensures.course.came c.read_lists.ensures.course.came)
    c.settle_lists.ensures.course.came) (search rules)

pub returns-in_err-files-clause-course : goal.returns-in_err-files-clause-course
returns-in_err-files-clause-course g c =
    course_after _ _ _ _ _
    (came_trans _ _ _ _ (came_trans _ _ _ _ (came_trans _ _ _ _ c.list_files.ensures.course.came c.read_lists.ensures.course.came)
    c.settle_lists.ensures.course.came) c.clear_unless_odd.ensures.course.came) (search rules)

pub returns-clause-course : goal.returns-clause-course
returns-clause-course g c = record {
  came = came_trans _ _ _ _ (came_trans _ _ _ _ (came_trans _ _ _ _ (came_trans _ _ _ _ c.list_files.ensures.course.came
      c.read_lists.ensures.course.came) c.settle_lists.ensures.course.came) c.clear_unless_odd.ensures.course.came)
      c.read_files.ensures.course.came;
  disk = λ is. absurd (c.assemble.ensures.disk is);
  read = λ is. absurd (c.assemble.ensures.read is);
}

pub returns-clause-order : goal.returns-clause-order
returns-clause-order g c =
    if_ok_map c.assemble.result _ _
    (λ l a. is_in_order _ _ _ _ _ l a
    (c.in_ok-files.ensures.fit (fit_new _ c.new-learned.ensures.entries c.new-learned.ensures.last))
    c.in_ok-files.ensures.rise c.in_ok-files.ensures.uncounted c.new-learned.ensures.entries c.in_ok-files.ensures.kept)
    (rw c.deref-5.ensures.value at c.assemble.ensures.loaded)

pub returns-clause-files : goal.returns-clause-files
returns-clause-files g c = λ tells.
    let came = came_trans _ _ _ _ (came_trans _ _ _ _ (came_trans _ _ _ _ (came_trans _ _ _ _ c.list_files.ensures.course.came
    c.read_lists.ensures.course.came) c.settle_lists.ensures.course.came) c.clear_unless_odd.ensures.course.came)
    c.read_files.ensures.course.came in
    let goes = came.goes tells in
    if_ok_map c.assemble.result _ _
    (λ l a. are_files_of (g.D.Disk.shown c.args.disk.now).told (g.D.Disk.shown c.read_files.new.disk).told _ _ _ _ l goes.tidied
    (g.met.D.Disk.well c.read_files.new.disk tells) (goes.lent (c.requires tells))
    (subst (λ (i : Image). AreFound (at i) c.in_ok-files.files.items) (sym (c.read_files.ensures.image tells))
    (c.in_ok-files.ensures.found tells)) c.in_ok-files.ensures.rise c.in_ok-files.ensures.uncounted a
    (c.greatest_id.ensures ∙ ap greatest_in (c.deref-4.ensures.value ∙ c.in_ok-listed.ensures.files tells)))
    (rw c.deref-5.ensures.value at c.assemble.ensures.loaded)

pub returns-clause-idle : goal.returns-clause-idle
returns-clause-idle g c = λ tells.
    on_ok_from c.assemble.result _ _
    (no_list_still (at (g.D.Disk.shown c.settle_lists.new.disk).told.image) (at (g.D.Disk.shown c.read_files.new.disk).told.image)
    ((came_trans _ _ _ _ c.clear_unless_odd.ensures.course.came c.read_files.ensures.course.came).goes tells).tidied
    (c.in_ok-settle_lists.ensures.none tells))
    c.assemble.ensures.loaded

pub returns-clause-loaded : goal.returns-clause-loaded
returns-clause-loaded g c = λ tells.
    let image = sym (c.read_files.ensures.image tells) in
    if_ok_map c.assemble.result _ _
    (λ l a. subst (λ (i : Image). IsLoadedFrom (at i) l) image
    (is_loaded_from (at (g.D.Disk.shown c.clear_unless_odd.new.disk).told.image) _ _ _ _ _ l c.new-learned.ensures.entries
    c.new-learned.ensures.last
    (c.in_ok-files.ensures.fit (fit_new _ c.new-learned.ensures.entries c.new-learned.ensures.last))
    (c.in_ok-files.ensures.found tells) c.in_ok-files.ensures.rise c.in_ok-files.ensures.uncounted a
    (λ books are tell. c.in_ok-files.ensures.read tells books are tell)))
    (rw c.deref-5.ensures.value at c.assemble.ensures.loaded)

pub returns-clause-odd : goal.returns-clause-odd
returns-clause-odd g c = λ tells.
    if_ok_map c.assemble.result _ _
    (λ l a. subst (AreOdd (at (g.D.Disk.shown c.args.disk.now).told.image)) (sym a.odd_names)
    (subst (λ (t : Told). AreOdd (at t.image) c.in_ok-lists.lists.odd.items) (c.list_files.ensures.told tells)
    (c.in_ok-lists.ensures.odd tells)))
    c.assemble.ensures.loaded

pub returns-clause-sound : goal.returns-clause-sound
returns-clause-sound g c = λ tells log sound.
    let came = came_trans _ _ _ _ (came_trans _ _ _ _ (came_trans _ _ _ _ (came_trans _ _ _ _ c.list_files.ensures.course.came
    c.read_lists.ensures.course.came) c.settle_lists.ensures.course.came) c.clear_unless_odd.ensures.course.came)
    c.read_files.ensures.course.came in
    let goes = came.goes tells in
    let none =
    no_list_still (at (g.D.Disk.shown c.settle_lists.new.disk).told.image) (at (g.D.Disk.shown c.read_files.new.disk).told.image)
    ((came_trans _ _ _ _ c.clear_unless_odd.ensures.course.came c.read_files.ensures.course.came).goes tells).tidied
    (c.in_ok-settle_lists.ensures.none tells) in
    let image = sym (c.read_files.ensures.image tells) in
    if_ok_map c.assemble.result _ _
    (λ l a. sound_load (g.D.Disk.shown c.args.disk.now).told (g.D.Disk.shown c.read_files.new.disk).told l log goes.tidied sound
    (g.met.D.Disk.well c.read_files.new.disk tells) (goes.synced sound.synced) none
    (subst (λ (i : Image). IsLoadedFrom (at i) l) image
    (is_loaded_from (at (g.D.Disk.shown c.clear_unless_odd.new.disk).told.image) _ _ _ _ _ l c.new-learned.ensures.entries
    c.new-learned.ensures.last
    (c.in_ok-files.ensures.fit (fit_new _ c.new-learned.ensures.entries c.new-learned.ensures.last))
    (c.in_ok-files.ensures.found tells) c.in_ok-files.ensures.rise c.in_ok-files.ensures.uncounted a
    (λ books are tell. c.in_ok-files.ensures.read tells books are tell))))
    (rw c.deref-5.ensures.value at c.assemble.ensures.loaded)

pub returns-clause-cleared : goal.returns-clause-cleared
returns-clause-cleared g c = λ tells.
    if_ok_map c.assemble.result _ _
    (λ l a none. subst (λ (i : Image). IsCleared (at i)) (sym (c.read_files.ensures.image tells))
    (c.in_ok-clear_unless_odd.ensures.cleared tells (c.deref-3.ensures.value ∙ sym a.odd_names ∙ none)))
    c.assemble.ensures.loaded

pub returns-clause-synced : goal.returns-clause-synced
returns-clause-synced g c = λ tells.
    if_ok_map c.assemble.result _ _
    (λ l a. subst (λ (rows : List Row). AreSyncedIfSealed rows (g.D.Disk.shown c.read_files.new.disk).told) (sym a.rows)
    (synced_counted (g.D.Disk.shown c.read_files.new.disk).told l.keydir.entries _ (c.in_ok-files.ensures.synced tells)))
    (rw c.deref-5.ensures.value at c.assemble.ensures.loaded)
