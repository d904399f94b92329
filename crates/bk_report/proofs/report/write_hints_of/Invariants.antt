use Rattle.std.proofs.Common.{◌≡◌, ◌++◌, take}
use Rattle.std.specs.List.{flat_map}
use Rattle.bk_report.specs.Report.{hint_of}
use Rattle.bk_report.proofs.report.write_hints_of.Given as goal

abbrev pub invariant-loop-note : goal.invariant-loop-note
invariant-loop-note l = l.out.items ≡ l.initial.out.items ++ flat_map (hint_of l.id.0) (take l.note-index l.notes)
