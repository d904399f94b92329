use Rattle.std.proofs.Common.{◌≡◌, min, take, count_by}
use Rattle.bk_load.specs.Found.{is_scanned}
use Rattle.bk_load.proofs.reports.count_scanned.Given as goal

abbrev pub invariant-loop-file : goal.invariant-loop-file
invariant-loop-file l = l.count ≡ min (count_by is_scanned (take l.file-index l.files)) 4294967295
