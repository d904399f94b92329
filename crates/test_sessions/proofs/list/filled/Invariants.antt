use Rattle.std.proofs.Common.{◌≡◌, false}
use Rattle.bk_keydir.specs.Slots.{has_open}
use Rattle.test_sessions.proofs.list.filled.Given as goal

abbrev pub invariant-loop-event : goal.invariant-loop-event
invariant-loop-event g l = has_open l.store.keys.slots ≡ false
