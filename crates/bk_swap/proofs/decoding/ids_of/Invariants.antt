use Rattle.std.proofs.Common.{◌≡◌, ◌++◌, length}
use Rattle.bk_swap.specs.Lists.{ids_in, numbers}
use Rattle.bk_swap.proofs.decoding.ids_of.Given as goal

-- the ids so far and those of the rest are those of all
abbrev pub invariant-loop-id : goal.invariant-loop-id
invariant-loop-id l = numbers l.ids.items ++ ids_in l.rest ≡ ids_in l.bytes

abbrev pub decreases-loop-id : goal.decreases-loop-id
decreases-loop-id l = length l.rest
