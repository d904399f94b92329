use Rattle.std.proofs.Common.{◌≡◌, ◌++◌, take}
use Rattle.std.specs.List.{flat_map}
use Rattle.bk_report.specs.Report.{torn_of}
use Rattle.bk_report.proofs.report.write_torn_of.Given as goal

abbrev pub invariant-loop-torn : goal.invariant-loop-torn
invariant-loop-torn l = l.out.items ≡ l.initial.out.items ++ flat_map (torn_of l.id.0) (take l.torn-index l.all)
