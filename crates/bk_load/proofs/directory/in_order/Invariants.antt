use Rattle.std.proofs.Common.{◌≡◌, ◌++◌}
use Rattle.bk_load.proofs.Numbering.{numbered_of}
use Rattle.bk_load.proofs.directory.in_order.Given as goal

abbrev pub invariant-loop-id : goal.invariant-loop-id
invariant-loop-id l =
    numbered_of l.fn.least l.initial.id-iterator ≡ l.numbered.items ++ numbered_of l.fn.least l.id-iterator
