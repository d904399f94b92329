use Rattle.std.proofs.Common.{◌≤◌, None, length, arith, sym}
use Rattle.std.proofs.lemmas.List.{set_past}
use Rattle.bk_keydir.proofs.slots.Slots.close.Goals as goal

pub returns-else-place-lt64 : goal.returns-else-place-lt64
returns-else-place-lt64 c =
    let long : length c.self.inside.slots ≤ c.args.slot =
    omega (arith, c.self.invariant.0, c.if-place-lt64.false, c.from-place.ensures) in
    rw (← c.self.view_is) (sym (set_past c.self.inside.slots c.args.slot None long))
