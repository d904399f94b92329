use Rattle.bk_list.proofs.Gathers.{Loop, pairs_left}
use Rattle.bk_list.proofs.gathering.gather.Given as goal

abbrev pub invariant-pairs : goal.invariant-pairs
invariant-pairs g l = Loop l.slot l.fn.store g.D.Disk.tells l.store l.keys.items

abbrev pub decreases-pairs : goal.decreases-pairs
decreases-pairs g l = pairs_left l.store l.slot
