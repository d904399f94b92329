use Rattle.std.specs.Option.{option_map}
use Rattle.bk_hint.proofs.RowsLeftBehind.{left_after}
use Rattle.bench_formats.proofs.hints.rows_in.Goals as goal

pub loop-preserved : goal.loop-preserved
loop-preserved c =
    let covered = c.loop.invariant.0 in
    let rows = c.loop.invariant.1 in
    let left = c.loop.invariant.2 in
    let later = left_after c.args.bytes.now c.loop.reader c.next_borrowed.new.self
    (option_map (λ x. (x.0, x.1.now)) c.next_borrowed.result)
    covered rows left (c.next_borrowed.ensures covered rows left) in
    (covered, later.0, later.1)
