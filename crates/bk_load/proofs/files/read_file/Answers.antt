use Rattle.std.proofs.Common.{◌≡◌, ◌∙◌, ℕ, Some, ap, length, refl, rules, sym, subst}
use Rattle.std.specs.Option.{is_some, option_map}
use Rattle.bk_disk.specs.Told.{Image, at}
use Rattle.bk_image.specs.Readings.{hint, main}
use Rattle.bk_load.specs.Found.{IsJudged, TrueIfThere}
use Rattle.bk_load.specs.Hints.{HasTaken}
use Rattle.bk_load.specs.Tidying.{NeedsScan}
use Rattle.bk_load.proofs.Courses.{came_trans, course_after, course_ok}
use Rattle.bk_load.proofs.Listings.{map_some}
use Rattle.bk_load.proofs.Places.{found_one, within_more}
use Rattle.bk_load.proofs.ReadFiles.{file_read, needs_scan, ours}
use Rattle.bk_load.proofs.files.read_file.Goals as goal

pub sync_file-requires : goal.sync_file-requires
sync_file-requires g c = λ tells.
    let there = map_some _ _ (c.requires.there tells) in
    rw c.named.ensures
    (ours (g.D.Disk.shown c.args.disk.now).told (main c.args.file.0) (g.met.D.Disk.well c.args.disk.now tells) (c.requires.none_lent tells)
    (ap is_some there.1))

pub read_hint_if_there-requires : goal.read_hint_if_there-requires
read_hint_if_there-requires g c = λ tells.
    ap (λ (i : Image). option_map length (at i (hint c.args.file.0))) (c.sync_file.ensures.image tells) ∙ c.requires.hint tells

pub scan_from-requires-clause-there : goal.scan_from-requires-clause-there
scan_from-requires-clause-there g c = λ tells.
    let there = map_some _ _ (c.requires.there tells) in
    let image = c.read_hint_if_there.ensures.image tells ∙ c.sync_file.ensures.image tells in
    (there.0, ap (λ (i : Image). at i (main c.args.file.0)) image ∙ there.1, there.2)

pub scan_from-requires-clause-needed : goal.scan_from-requires-clause-needed
scan_from-requires-clause-needed g c = λ tells short.
    let there = map_some _ _ (c.requires.there tells) in
    let image = c.read_hint_if_there.ensures.image tells ∙ c.sync_file.ensures.image tells in
    let judged = subst (λ (i : Image). IsJudged (at i (hint c.args.file.0)) c.args.len c.in_ok-verdict.verdict)
    (c.sync_file.ensures.image tells) (c.in_ok-verdict.ensures.judged tells) in
    subst (λ (i : Image). NeedsScan (at i) c.args.file.0) (sym image)
    (needs_scan (at (g.D.Disk.shown c.args.disk.now).told.image) c.args.file.0 there.0 c.args.len c.in_ok-verdict.verdict
    c.requires.first (c.requires.no_list tells) there.1 there.2 judged (λ e. short (c.covered_by-from.ensures ∙ e)))

pub returns-clause-found : goal.returns-clause-found
returns-clause-found g c = λ tells.
    let there = map_some _ _ (c.requires.there tells) in
    let judged = subst (λ (i : Image). IsJudged (at i (hint c.args.file.0)) c.args.len c.in_ok-verdict.verdict)
    (c.sync_file.ensures.image tells) (c.in_ok-verdict.ensures.judged tells) in
    record { bytes = there.0; there = there.1; len = sym there.2; judged = judged }

pub returns-clause-read : goal.returns-clause-read
returns-clause-read g c = λ tells bytes writes is are tells_truth.
    let there = map_some _ _ (c.requires.there tells) in
    let both : Some there.0 ≡ Some bytes = sym there.1 ∙ is in
    let one : there.0 ≡ bytes = cc both in
    let long : length bytes ≡ c.args.len = ap length (sym one) ∙ there.2 in
    let image = c.read_hint_if_there.ensures.image tells ∙ c.sync_file.ensures.image tells in
    let truth = subst (λ (i : Image). TrueIfThere (at i (hint c.args.file.0)) c.args.len writes) (sym (c.sync_file.ensures.image tells))
    (subst (λ (n : ℕ). TrueIfThere (at (g.D.Disk.shown c.args.disk.now).told.image (hint c.args.file.0)) n writes) long tells_truth) in
    let taken = c.in_ok-verdict.ensures.taken tells writes truth are.fit in
    let taken_from = subst (λ (n : ℕ). HasTaken c.args.file writes n c.args.learned.now c.read_hint_if_there.new.learned)
    (sym c.covered_by-from.ensures) taken in
    file_read c.args.file bytes writes c.covered_by-from.result _ _ _ _ taken_from are
    (λ behind. c.in_ok-total.ensures.scanned tells bytes taken_from.later
    (ap (λ (i : Image). at i (main c.args.file.0)) image ∙ is) behind)

pub returns-in_err-verdict-clause-course : goal.returns-in_err-verdict-clause-course
returns-in_err-verdict-clause-course g c = course_after _ _ _ _ _ c.sync_file.ensures.course.came (search rules)

pub returns-in_err-total-clause-course : goal.returns-in_err-total-clause-course
returns-in_err-total-clause-course g c =
    course_after _ _ _ _ _ (came_trans _ _ _ _ c.sync_file.ensures.course.came c.read_hint_if_there.ensures.course.came) (search rules)

pub returns-clause-course : goal.returns-clause-course
returns-clause-course g c =
    course_ok _ _ _ _
    (came_trans _ _ _ _ (came_trans _ _ _ _ c.sync_file.ensures.course.came c.read_hint_if_there.ensures.course.came)
    c.scan_from.ensures.course.came)

pub returns-clause-kept : goal.returns-clause-kept
returns-clause-kept g c =
    found_one _ c.args.file c.args.len _ _ refl refl
    (within_more c.args.file c.args.len _ _ _ c.in_ok-verdict.ensures.kept c.in_ok-total.ensures.kept)
