use Rattle.std.proofs.Common.{ℕ, ◌+◌, get_or, min, sym, ap, ◌∙◌}
use Rattle.bk_load.specs.Counting.{top}
use Rattle.bk_load.proofs.Counted.{a_row, no_row_counted, put_counted}
use Rattle.bk_load.proofs.counting.count.Goals as goal

pub returns-in-Some : goal.returns-in-Some
returns-in-Some c =
    put_counted c.args.version c.args.rows.now c.in-Some.place c.saturating_add-row.result c.saturating_add-row-in-Some.result
    (sym c.place_of.ensures ∙ c.in-Some.is) c.if-version.false
    (c.saturating_add-row.ensures
    ∙ ap (λ (n : ℕ). min ((get_or c.args.rows.now c.in-Some.place a_row).live + n) top) c.from.ensures) c.saturating_add-row-in-Some.ensures

pub returns-in_default : goal.returns-in_default
returns-in_default c =
    no_row_counted c.args.version c.args.rows.now (sym c.place_of.ensures ∙ c.in_default.is) c.if-version.false
