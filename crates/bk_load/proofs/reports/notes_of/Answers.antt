use Rattle.std.proofs.Common.{ap, ◌∙◌}
use Rattle.bk_load.proofs.ReportRows.{notes_no, notes_yes}
use Rattle.bk_load.proofs.reports.notes_of.Goals.{in-Some+in_ok-push, in_default}
use Rattle.bk_load.proofs.reports.notes_of.Goals as goal

pub loop-file-preserved : goal.loop-file-preserved
loop-file-preserved c =
    elim c.match-file.branch [
      | in-Some+in_ok-push w ↦ notes_yes c.args.files.now c.loop-file.file-index c.loop-file.notes.items c.match-file.notes.items
          w.in-Some.verdict c.loop-file-test.true c.loop-file.invariant w.in-Some.is
          (ap (λ v. v.items) w.notes-is ∙ w.in_ok-push.ensures.items)
      | in_default w ↦ notes_no c.args.files.now c.loop-file.file-index c.loop-file.notes.items c.match-file.notes.items
          c.loop-file-test.true c.loop-file.invariant w.in_default.is (ap (λ v. v.items) w.notes-is)
    ]
