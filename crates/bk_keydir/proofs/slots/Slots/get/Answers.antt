use Rattle.std.proofs.Common.{◌≤◌, None, length, arith, sym}
use Rattle.std.proofs.lemmas.List.{get_or_past}
use Rattle.bk_keydir.proofs.slots.Slots.get.Goals as goal

pub returns-else-place-lt64 : goal.returns-else-place-lt64
returns-else-place-lt64 c =
    let long : length c.self.inside.slots ≤ c.args.slot =
    omega (arith, c.self.invariant.0, c.if-place-lt64.false, c.from-place.ensures) in
    rw (← c.self.view_is) (sym (get_or_past c.self.inside.slots c.args.slot None long))

pub returns-then-place-lt64 : goal.returns-then-place-lt64
returns-then-place-lt64 c = rw (← c.self.view_is, c.from-place.ensures)
