use Rattle.std.proofs.Common.{◌∙◌, sym}
use Rattle.bk_files.proofs.RowEdits.{no_row, row_at}
use Rattle.bk_files.proofs.catalog.Catalog.row.Goals as goal

pub returns-in_err-place : goal.returns-in_err-place
returns-in_err-place c =
    c.from_residual.ensures
    ∙ no_row c.args.file.0 c.args.self.now.rows.items
    (sym (rw c.deref.ensures.value at c.find.ensures.place) ∙ c.in_err-place.was)

pub returns : goal.returns
returns c =
    row_at c.args.file.0 c.args.self.now.rows.items c.in_ok-place.place c.index.result.now
    (sym (rw c.deref.ensures.value at c.find.ensures.place) ∙ c.in_ok-place.was) c.index.ensures
