use Rattle.std.proofs.Common.{◌∙◌, List, ap, rules, subst, sym}
use Rattle.std.specs.List.{AllByRecursion}
use Rattle.bk_base.specs.declared.names.Kind.TheVariants.{Main}
use Rattle.bk_base.specs.declared.numbers.FileId.{FileId}
use Rattle.bk_disk.specs.Told.{Image, at}
use Rattle.bk_image.specs.Readings.{hint, main}
use Rattle.bk_load.specs.Directory.{RiseFrom}
use Rattle.bk_load.specs.Found.{HaveRead, IsFound, IsUncounted, KeepsFound}
use Rattle.bk_load.specs.Steps.{IsSyncedFile}
use Rattle.bk_load.specs.declared.files.FileFound.{FileFound}
use Rattle.bk_load.proofs.Courses.{came_trans, course_after, course_memory}
use Rattle.bk_load.proofs.FoundFiles.{found_all, found_ids, found_rise, have_read_one, ids_more, no_list_at, scanned_in, synced_more, synced_rows}
use Rattle.bk_hint.proofs.RowTexts.{AllByRecursion-push}
use Rattle.bk_load.proofs.Listings.{len_at_now}
use Rattle.bk_load.proofs.Numbering.{are_numbers, number_len}
use Rattle.bk_load.proofs.ReadLists.{from_low}
use Rattle.bk_load.proofs.Places.{found_more}
use Rattle.bk_load.proofs.files.read_files.Goals as goal

pub read_file-requires-clause-first : goal.read_file-requires-clause-first
read_file-requires-clause-first g c =
    from_low 1 c.deref-main-items.result.now c.files.main-index _
    (subst (RiseFrom 1) (sym c.deref-main-items.ensures.value) (c.in_ok-mains.ensures).rise) c.files-test.true

pub read_file-requires-clause-no_list : goal.read_file-requires-clause-no_list
read_file-requires-clause-no_list g c = λ tells.
    no_list_at (g.D.Disk.shown c.args.disk.now).told.image (g.D.Disk.shown c.files.disk).told.image (c.files.invariant.image tells)
    (c.requires.no_list tells)

pub read_file-requires-clause-none_lent : goal.read_file-requires-clause-none_lent
read_file-requires-clause-none_lent g c = λ tells. (c.files.invariant.came.goes tells).lent (c.requires.none_lent tells)

pub read_file-requires-clause-there : goal.read_file-requires-clause-there
read_file-requires-clause-there g c = λ tells.
    let image = (g.D.Disk.shown c.args.disk.now).told.image in
    let numbers = are_numbers image c.deref.result.now Main 1 c.in_ok-mains.mains.items c.deref-main-items.result.now
    (g.met.D.Disk.well c.args.disk.now tells).once (c.deref.ensures.value ∙ c.in_ok-files.ensures.files tells)
    c.in_ok-mains.ensures c.deref-main-items.ensures.value in
    number_len image (g.D.Disk.shown c.files.disk).told.image Main 1 _ _ _ numbers c.files-test.true (c.files.invariant.image tells)

pub read_file-requires-clause-hint : goal.read_file-requires-clause-hint
read_file-requires-clause-hint g c = λ tells.
    len_at_now (g.D.Disk.shown c.args.disk.now).told.image (g.D.Disk.shown c.files.disk).told.image c.deref-2.result.now (hint _)
    c.copied-hint_size.result (g.met.D.Disk.well c.args.disk.now tells).once
    (c.deref-2.ensures.value ∙ c.in_ok-files.ensures.files tells) (c.files.invariant.image tells)
    (c.copied-hint_size.ensures ∙ c.get.ensures.value ∙ c.in_ok-hints.ensures _)

pub files-preserved : goal.files-preserved
files-preserved g c = record {
  came = came_trans _ _ _ _ c.files.invariant.came c.read_file.ensures.course.came;
  image = λ tells. c.read_file.ensures.image tells ∙ c.files.invariant.image tells;
  fit = λ fit. c.in_ok-this.ensures.fit (c.files.invariant.fit fit);
  kept =
      subst (λ (fs : List FileFound). KeepsFound fs c.args.learned.now.keys.entries c.read_file.new.learned.keys.entries)
      (sym c.in_ok-push.ensures.items)
      (found_more c.files.found.items c.in_ok-this.this _ _ _ c.files.invariant.kept c.in_ok-this.ensures.kept);
  ids =
      ap found_ids c.in_ok-push.ensures.items
      ∙ ids_more _ _ _ c.files.found.items c.in_ok-this.this c.files-test.true c.files.invariant.ids
      (ap (λ (f : FileId). f.0) c.in_ok-this.ensures.file);
  uncounted = subst (AllByRecursion IsUncounted) (sym c.in_ok-push.ensures.items)
      (AllByRecursion-push IsUncounted c.files.found.items c.in_ok-this.this c.files.invariant.uncounted c.in_ok-this.ensures.uncounted);
  found = λ tells.
      let image = (g.D.Disk.shown c.args.disk.now).told.image in
      let this = subst (λ (i : Image). IsFound (at i) c.in_ok-this.this) (c.files.invariant.image tells)
      (c.in_ok-this.ensures.found tells) in
      subst (AllByRecursion (IsFound (at image))) (sym c.in_ok-push.ensures.items)
      (AllByRecursion-push (IsFound (at image)) c.files.found.items c.in_ok-this.this (c.files.invariant.found tells) this);
  synced = λ tells.
      subst (AllByRecursion (λ (f : FileFound). IsSyncedFile (g.D.Disk.shown c.read_file.new.disk).told (main f.row.id.0)))
      (sym c.in_ok-push.ensures.items)
      (synced_more (g.D.Disk.shown c.files.disk).told (g.D.Disk.shown c.read_file.new.disk).told c.files.found.items c.in_ok-this.this _
      c.in_ok-this.ensures.file (c.in_ok-this.ensures.synced tells) (c.files.invariant.synced tells));
  read = λ tells books reads tell.
      let image = (g.D.Disk.shown c.args.disk.now).told.image in
      let numbers = are_numbers image c.deref.result.now Main 1 c.in_ok-mains.mains.items c.deref-main-items.result.now
      (g.met.D.Disk.well c.args.disk.now tells).once (c.deref.ensures.value ∙ c.in_ok-files.ensures.files tells)
      c.in_ok-mains.ensures c.deref-main-items.ensures.value in
      let scanned = scanned_in image (g.D.Disk.shown c.files.disk).told.image books _ c.in_ok-this.this.row.total c.files.learned
      c.read_file.new.learned (from_low 1 _ c.files.main-index _ numbers.rise c.files-test.true)
      (c.requires.no_list tells) (c.files.invariant.image tells) _
      (numbers.there c.files.main-index _ c.files-test.true) reads tell
      (c.in_ok-this.ensures.read tells) in
      subst (λ (fs : List FileFound). HaveRead books fs c.args.learned.now c.read_file.new.learned) (sym c.in_ok-push.ensures.items)
      (have_read_one books c.files.found.items c.in_ok-this.this _ c.args.learned.now c.files.learned c.read_file.new.learned
      c.in_ok-this.ensures.file (c.files.invariant.read tells books reads tell) scanned);
}

pub returns-in_err-this-clause-course : goal.returns-in_err-this-clause-course
returns-in_err-this-clause-course g c = course_after _ _ _ _ _ c.files.invariant.came (search rules)

pub returns-in_err-push-clause-course : goal.returns-in_err-push-clause-course
returns-in_err-push-clause-course g c =
    course_memory _ _ _ _ (came_trans _ _ _ _ c.files.invariant.came c.read_file.ensures.course.came)
    c.from_residual-in_err-push.ensures.1

pub returns-clause-rise : goal.returns-clause-rise
returns-clause-rise g c =
    found_rise 1 c.in_ok-mains.mains.items c.deref-main-items.result.now c.files.main-index c.files.found.items
    (c.in_ok-mains.ensures).rise c.deref-main-items.ensures.value c.files-test.false c.files.invariant.ids

pub returns-clause-found : goal.returns-clause-found
returns-clause-found g c = λ tells.
    let image = (g.D.Disk.shown c.args.disk.now).told.image in
    let numbers = are_numbers image c.deref.result.now Main 1 c.in_ok-mains.mains.items c.deref-main-items.result.now
    (g.met.D.Disk.well c.args.disk.now tells).once (c.deref.ensures.value ∙ c.in_ok-files.ensures.files tells)
    c.in_ok-mains.ensures c.deref-main-items.ensures.value in
    found_all image c.deref-main-items.result.now c.files.main-index c.files.found.items numbers c.files-test.false
    c.files.invariant.ids (c.files.invariant.found tells)

pub returns-clause-synced : goal.returns-clause-synced
returns-clause-synced g c = λ tells. synced_rows (g.D.Disk.shown c.files.disk).told c.files.found.items (c.files.invariant.synced tells)
