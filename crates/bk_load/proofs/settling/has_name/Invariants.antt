use Rattle.std.proofs.Common.{take}
use Rattle.bk_load.specs.Directory.{IsListed}
use Rattle.bk_load.proofs.settling.has_name.Given as goal

abbrev pub invariant-loop-file : goal.invariant-loop-file
invariant-loop-file l = IsListed (take l.file-index l.files) l.name → ⊥
