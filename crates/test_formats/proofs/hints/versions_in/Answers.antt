use Rattle.std.specs.Option.{option_map}
use Rattle.bk_base.specs.declared.writes.Version.{Version}
use Rattle.bk_hint.specs.declared.rows.HintRow.{HintRow}
use Rattle.bk_laws.specs.Hint.{Hinted, RowsLeft}
use Rattle.bk_hint.specs.Passing.{Gives, Reading}
use Rattle.std.proofs.Common.{ℕ, List, Option, sym, subst}
use Rattle.std.proofs.lemmas.Result.{IfOk-at_ok}
use Rattle.bk_hint.proofs.RoundTrips.{good_rows}
use Rattle.bk_hint.proofs.RowsLeftBehind.{left_after}
use Rattle.test_formats.proofs.hints.versions_in.Goals as goal

pub loop-init : goal.loop-init
loop-init g c =
    let bytes = c.args.bytes.now in
    let found = c.in-Good.ensures in
    let rows = found.0 in (
      c.in-Good.covered,
      rows,
      subst (λ (r : Reading). RowsLeft bytes r.at c.in-Good.covered rows) (sym c.new-reader.ensures)
          (good_rows bytes c.args.len c.in-Good.covered rows found.1),
    )

-- what a row tells of its record
abbrev hinted : Option HintRow → Option (Version × List ℕ)
hinted = option_map (λ x. (x.version, x.key))

pub loop-preserved : goal.loop-preserved
loop-preserved g c =
    let bytes = c.args.bytes.now in
    let (covered, rows, left) = c.loop.invariant in
    let gives = IfOk-at_ok (λ (row : Option HintRow). (covered : ℕ) (rows : List Hinted) →
    RowsLeft bytes c.loop.reader.at covered rows →
    Gives bytes c.loop.reader c.next.new.self (hinted row) covered rows) c.expect.ensures c.next.ensures.ok in
    let later = left_after bytes c.loop.reader c.next.new.self (hinted c.expect.result) covered rows left
    (gives covered rows left) in
    (covered, later.0, later.1)
