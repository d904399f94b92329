use Rattle.std.proofs.Common.{◌∙◌, ap, sym}
use Rattle.bk_files.specs.Catalog.{edited, with_counts}
use Rattle.bk_files.specs.Files.{Seen, rows_of}
use Rattle.bk_store.proofs.RowEdits.{counts_alone}
use Rattle.bk_store.proofs.Sweeping.{taken_row}
use Rattle.bk_store.proofs.counting.take_refs.Goals as goal

pub returns-in-Some-clause-rows : goal.returns-in-Some-clause-rows
returns-in-Some-clause-rows g c =
    let r = c.in-Some.row in
    let now = ap (λ (s : Seen). rows_of s) c.count.ensures.counts
    ∙ ap (λ n. edited c.args.version.file.0 (with_counts r.live n) (rows_of c.args.files.now)) c.saturating_sub.ensures in
    taken_row c.args.version (rows_of c.args.files.now) (rows_of c.count.new.self) r c.if-version.false (sym c.row.ensures ∙ c.in-Some.is) now

pub returns-in-Some-clause-alone : goal.returns-in-Some-clause-alone
returns-in-Some-clause-alone g c =
    counts_alone g.D.Disk.tells c.args.files.now c.count.new.self c.args.version.file.0 c.in-Some.row.live c.saturating_sub.result
    c.count.ensures.counts c.count.ensures.consistent c.count.ensures.scratch c.count.ensures.synced
