use Rattle.std.proofs.Common.{◌≡◌, ◌≤◌, sum_by, take}
use Rattle.bk_store.specs.Sweeps.{has_put}
use Rattle.bk_store.proofs.sweeps.count_puts.Given as goal

abbrev pub invariant-loop-position : goal.invariant-loop-position
invariant-loop-position l = (l.puts ≡ sum_by has_put (take l.position l.keydir.entries)) × (l.puts ≤ l.position)
