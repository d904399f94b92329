use Rattle.std.proofs.Common.{◌≡◌, length}
use Rattle.bk_script.specs.Script.{taken}
use Rattle.test_formats.proofs.scripts.read_all.Given as goal

abbrev pub invariant-lines : goal.invariant-lines
invariant-lines g l = (taken l.reader ≡ taken l.initial.reader) × (l.reader.most ≡ l.initial.reader.most)

abbrev pub decreases-lines : goal.decreases-lines
decreases-lines g l = length l.reader.rest
