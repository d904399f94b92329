use Rattle.bk_hint.specs.Passing.{HasSize}
use Rattle.bench_formats.proofs.hints.written.Given as goal

-- the row keeps its size
abbrev pub invariant-loop-i : goal.invariant-loop-i
invariant-loop-i l = HasSize l.row.version l.row.key
