use Rattle.std.proofs.Common.{ap, sym, ◌∙◌, ◌-◌, ℕ}
use Rattle.bk_files.specs.Catalog.{edited, with_counts}
use Rattle.bk_files.specs.Files.{Seen}
use Rattle.bk_store.proofs.RowEdits.{counts_alone, rows_taken}
use Rattle.bk_store.proofs.counting.take_version.Goals as goal

pub returns-in-Some-clause-rows : goal.returns-in-Some-clause-rows
returns-in-Some-clause-rows g c =
    rows_taken c.args.version c.args.files.now.catalog.rows c.count.new.self.catalog.rows c.in-Some.row c.args.refs
    c.if-version.false (sym c.row.ensures ∙ c.in-Some.is)
    (ap (λ (s : Seen). s.catalog.rows) c.count.ensures.counts
    ∙ ap (λ (n : ℕ). edited c.args.version.file.0 (with_counts n c.saturating_sub.result) c.args.files.now.catalog.rows)
    (c.saturating_sub-live.ensures ∙ ap (λ (n : ℕ). c.in-Some.row.live - n) c.from.ensures)
    ∙ ap (λ (n : ℕ). edited c.args.version.file.0 (with_counts (c.in-Some.row.live - c.args.version.size) n)
    c.args.files.now.catalog.rows) c.saturating_sub.ensures)

pub returns-in-Some-clause-alone : goal.returns-in-Some-clause-alone
returns-in-Some-clause-alone g c =
    counts_alone g.D.Disk.tells c.args.files.now c.count.new.self c.args.version.file.0
    c.saturating_sub-live.result c.saturating_sub.result c.count.ensures.counts
    c.count.ensures.consistent c.count.ensures.scratch c.count.ensures.synced
