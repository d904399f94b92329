use Rattle.std.proofs.Common.{◌≤◌, length, arith, sym}
use Rattle.std.proofs.lemmas.List.{set_past}
use Rattle.bk_keydir.specs.Slots.{slot_at, stepped}
use Rattle.bk_keydir.proofs.slots.Slots.step.Goals as goal

pub returns-then-place-lt64 : goal.returns-then-place-lt64
returns-then-place-lt64 c =
    rw (c.put.ensures, c.moved_past-moved.ensures, c.from-place.ensures, ← c.self.view_is)

pub returns-else-place-lt64 : goal.returns-else-place-lt64
returns-else-place-lt64 c =
    let slots = c.self.inside.slots in
    let long : length slots ≤ c.args.slot =
    omega (arith, c.self.invariant.0, c.if-place-lt64.false, c.from-place.ensures) in
    rw (← c.self.view_is) (sym (set_past slots c.args.slot (stepped c.args.position (slot_at slots c.args.slot)) long))
