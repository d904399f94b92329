use Rattle.std.proofs.Common.{arith, ap, sym, ◌∙◌}
use Rattle.bk_files.specs.Files.{Seen}
use Rattle.bk_store.proofs.RowEdits.{counts_alone, rows_added}
use Rattle.bk_store.proofs.counting.add_version.Goals as goal

pub returns-in-Some-clause-rows : goal.returns-in-Some-clause-rows
returns-in-Some-clause-rows g c =
    rows_added c.args.version c.args.files.now.catalog.rows c.count.new.self.catalog.rows c.in-Some.row
    c.saturating_add-live.result c.saturating_add-refs.result
    c.if-version.false (sym c.row.ensures ∙ c.in-Some.is) (ap (λ (s : Seen). s.catalog.rows) c.count.ensures.counts)
    (λ fits. omega (arith, fits, c.saturating_add-live.ensures, c.from.ensures))
    (λ fits. omega (arith, fits, c.saturating_add-refs.ensures))

pub returns-in-Some-clause-alone : goal.returns-in-Some-clause-alone
returns-in-Some-clause-alone g c =
    counts_alone g.D.Disk.tells c.args.files.now c.count.new.self c.args.version.file.0 c.saturating_add-live.result
    c.saturating_add-refs.result c.count.ensures.counts
    c.count.ensures.consistent c.count.ensures.scratch c.count.ensures.synced
