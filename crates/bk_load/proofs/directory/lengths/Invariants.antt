use Rattle.std.proofs.Common.{◌≡◌, ℕ, nat_cmp, take}
use Rattle.std.specs.BTreeMap.{get}
use Rattle.bk_load.specs.Directory.{len_in}
use Rattle.bk_load.proofs.directory.lengths.Given as goal

abbrev pub invariant-loop-file : goal.invariant-loop-file
invariant-loop-file l = (q : ℕ) → get nat_cmp l.lengths q ≡ len_in (take l.file-index l.files) (record { id = q; kind = l.kind })
