use Rattle.std.proofs.Common.{ap, ◌∙◌}
use Rattle.bk_load.proofs.ReportRows.{torn_no, torn_yes}
use Rattle.bk_load.proofs.reports.torn_of.Goals.{then-row+in_ok-push, else-row}
use Rattle.bk_load.proofs.reports.torn_of.Goals as goal

pub loop-file-preserved : goal.loop-file-preserved
loop-file-preserved c =
    elim c.if-row.branch [
      | then-row+in_ok-push w ↦ torn_yes c.args.files.now c.loop-file.file-index c.loop-file.torn.items c.if-row.torn.items
          c.loop-file-test.true c.loop-file.invariant w.if-row.true (ap (λ v. v.items) w.torn-is ∙ w.in_ok-push.ensures.items)
      | else-row w ↦ torn_no c.args.files.now c.loop-file.file-index c.loop-file.torn.items c.if-row.torn.items
          c.loop-file-test.true c.loop-file.invariant w.if-row.false (ap (λ v. v.items) w.torn-is)
    ]
