use Rattle.std.proofs.Common.{◌≡◌, take}
use Rattle.bk_load.specs.Found.{torn_in}
use Rattle.bk_load.proofs.reports.torn_of.Given as goal

abbrev pub invariant-loop-file : goal.invariant-loop-file
invariant-loop-file l = l.torn.items ≡ torn_in (take l.file-index l.files)
