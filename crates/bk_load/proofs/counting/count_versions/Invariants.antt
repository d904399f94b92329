use Rattle.std.proofs.Common.{◌≡◌, take}
use Rattle.bk_load.specs.Counting.{RowsRise, all_counted}
use Rattle.bk_load.proofs.counting.count_versions.Given as goal

abbrev pub invariant-loop-position : goal.invariant-loop-position
invariant-loop-position l = (l.rows ≡ all_counted (take l.position l.keydir.entries) l.initial.rows) × RowsRise 0 l.rows
