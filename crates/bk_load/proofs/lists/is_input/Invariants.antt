use Rattle.std.proofs.Common.{take}
use Rattle.bk_load.specs.Lists.{IsInputOf}
use Rattle.bk_load.proofs.lists.is_input.Given as goal

abbrev pub invariant-loop-standing : goal.invariant-loop-standing
invariant-loop-standing l = IsInputOf (take l.standing-index l.lists) l.file.0 → ⊥
