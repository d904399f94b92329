use Rattle.std.proofs.Common.{◌≡◌, take}
use Rattle.bk_load.specs.Directory.{greatest_in}
use Rattle.bk_load.proofs.directory.greatest_id.Given as goal

abbrev pub invariant-loop-file : goal.invariant-loop-file
invariant-loop-file l = l.greatest ≡ greatest_in (take l.file-index l.files)
