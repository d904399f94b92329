use Rattle.std.proofs.Common.{◌≡◌, take}
use Rattle.bk_load.specs.Directory.{len_in}
use Rattle.bk_load.proofs.settings_file.length_of.Given as goal

abbrev pub invariant-loop-file : goal.invariant-loop-file
invariant-loop-file l = l.len ≡ len_in (take l.file-index l.files) l.name
