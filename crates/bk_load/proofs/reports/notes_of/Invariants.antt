use Rattle.std.proofs.Common.{◌≡◌, take}
use Rattle.bk_load.specs.Found.{notes_in}
use Rattle.bk_load.proofs.reports.notes_of.Given as goal

abbrev pub invariant-loop-file : goal.invariant-loop-file
invariant-loop-file l = l.notes.items ≡ notes_in (take l.file-index l.files)
