use Rattle.std.proofs.Common.{◌≡◌, None, take}
use Rattle.std.specs.List.{fold}
use Rattle.bk_keydir.specs.Slots.{higher}
use Rattle.bk_keydir.proofs.slots.highest.Given as goal

abbrev pub invariant-loop-slot : goal.invariant-loop-slot
invariant-loop-slot l = l.found ≡ fold higher None (take l.slot-index l.slots)
