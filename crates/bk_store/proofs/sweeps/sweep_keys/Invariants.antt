use Rattle.bk_store.proofs.Sweeping.{SweepSoFar}
use Rattle.bk_store.proofs.sweeps.sweep_keys.Given as goal

abbrev pub invariant-loop-visit : goal.invariant-loop-visit
invariant-loop-visit g l =
    SweepSoFar g.D.Disk.tells l.from l._visit l.fn.files l.fn.keydir l.files l.keydir l.position l.pruned l.dropped
