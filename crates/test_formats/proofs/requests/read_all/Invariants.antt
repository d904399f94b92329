use Rattle.std.proofs.Common.{◌≡◌, length}
use Rattle.bk_wire.specs.Stream.{taken}
use Rattle.test_formats.proofs.requests.read_all.Given as goal

abbrev pub invariant-requests : goal.invariant-requests
invariant-requests g l = (taken l.reader ≡ taken l.initial.reader) × (l.reader.most ≡ l.initial.reader.most)

abbrev pub decreases-requests : goal.decreases-requests
decreases-requests g l = length l.reader.rest
