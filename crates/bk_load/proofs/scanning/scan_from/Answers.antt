use Rattle.std.proofs.Common.{◌≡◌, ◌∙◌, ◌-◌, Some, ap, arith, drop, length, refl, sym}
use Rattle.bk_base.specs.declared.names.Name.{Name}
use Rattle.bk_disk.specs.Told.{at, range_of}
use Rattle.bk_files.specs.Scan.{IsTold}
use Rattle.bk_image.specs.Readings.{main}
use Rattle.bk_load.proofs.Courses.{came_refl, course_ok}
use Rattle.bk_load.proofs.Listings.{rest_range, rest_within}
use Rattle.bk_load.proofs.Places.{within_at, within_none}
use Rattle.bk_load.proofs.Scans.{scan_is, scan_nothing}
use Rattle.bk_load.proofs.Tidied.{data_needed}
use Rattle.bk_load.proofs.scanning.scan_from.Goals as goal

pub view_file-requires : goal.view_file-requires
view_file-requires g c = λ tells.
    let there = c.requires.there tells in
    rw c.named.ensures (record {
      within = rest_within (g.D.Disk.shown c.args.disk.now).told.image (main c.args.file.0) there.0 c.args.from c.args.len there.1 there.2
          c.requires.inside;
      needed = data_needed (at (g.D.Disk.shown c.args.disk.now).told.image) c.args.file.0 (c.requires.needed tells c.if-from-len.false);
    })

pub returns-then-from-len-clause-course : goal.returns-then-from-len-clause-course
returns-then-from-len-clause-course g c = course_ok _ _ _ _ (came_refl _ _)

pub returns-then-from-len-clause-scanned : goal.returns-then-from-len-clause-scanned
returns-then-from-len-clause-scanned g c = λ tells bytes writes there are.
    let known = c.requires.there tells in
    let both : Some known.0 ≡ Some bytes = sym known.1 ∙ there in
    let is : known.0 ≡ bytes = cc both in
    scan_nothing c.args.file c.args.from c.args.len bytes writes c.args.learned.now c.if-from-len.true
    (ap length (sym is) ∙ known.2) are

pub returns-clause-scanned : goal.returns-clause-scanned
returns-clause-scanned g c = λ tells bytes writes there are.
    let image = (g.D.Disk.shown c.args.disk.now).told.image in
    let known = c.requires.there tells in
    let both : Some known.0 ≡ Some bytes = sym known.1 ∙ there in
    let is : known.0 ≡ bytes = cc both in
    let long : length bytes ≡ c.args.len = ap length (sym is) ∙ known.2 in
    let shown = g.met.D.Disk.views_tell tells in
    let told : IsTold g.D.View.View.tells (g.D.View.View.left c.in_ok-view.view) (g.D.View.View.rest c.in_ok-view.view) =
    record { shown = shown; whole = g.met.D.View.View.told_rest c.in_ok-view.view shown } in
    let found = rw c.from-scan.ensures at (c.in_ok-learn_records.ensures.scanned told) in
    let text : g.D.View.View.left c.in_ok-view.view ≡ drop c.args.from bytes =
    c.in_ok-view.ensures.bytes tells ∙ ap (λ (n : Name). range_of n c.args.from (c.args.len - c.args.from) image) c.named.ensures
    ∙ rest_range image (main c.args.file.0) bytes c.args.from c.args.len there long in
    rw c.place.ensures.place
    (scan_is c.args.file c.args.from bytes _ writes found.0 _ _ _ text found.1 are found.2)

pub returns-then-from-len-clause-kept : goal.returns-then-from-len-clause-kept
returns-then-from-len-clause-kept g c = within_none c.args.file c.args.len c.args.learned.now.keys.entries

pub returns-clause-kept : goal.returns-clause-kept
returns-clause-kept g c =
    let inside = c.requires.inside in
    let kept = rw c.from-scan.ensures at c.in_ok-learn_records.ensures.kept in
    within_at _ c.args.file _ c.args.len _ _ refl (omega (arith, inside)) kept
