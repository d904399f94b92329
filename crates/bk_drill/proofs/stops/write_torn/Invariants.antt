use Rattle.std.proofs.Common.{◌≡◌, ◌++◌, map, take}
use Rattle.bk_drill.specs.Drills.{text_of}
use Rattle.bk_drill.specs.Lines.{line_of_torn}
use Rattle.bk_drill.proofs.stops.write_torn.Given as goal

abbrev pub invariant-loop-file : goal.invariant-loop-file
invariant-loop-file l = l.text.items ≡ l.initial.text.items ++ text_of (map line_of_torn (take l.file-index l.torn))
