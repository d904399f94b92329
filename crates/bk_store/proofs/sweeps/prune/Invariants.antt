use Rattle.std.proofs.Common.{length}
use Rattle.bk_keydir.specs.Keydir.{versions_at}
use Rattle.bk_store.proofs.Sweeping.{PruneSoFar}
use Rattle.bk_store.proofs.sweeps.prune.Given as goal

abbrev pub invariant-loop-version : goal.invariant-loop-version
invariant-loop-version g l =
    PruneSoFar g.D.Disk.tells l.position l.fn.files l.fn.keydir l.files l.keydir l.pruned

abbrev pub decreases-loop-version : goal.decreases-loop-version
decreases-loop-version g l = length (versions_at l.position l.keydir.entries)
