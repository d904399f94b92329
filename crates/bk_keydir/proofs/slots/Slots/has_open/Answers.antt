use Rattle.bk_keydir.proofs.SlotLemmas.{has_open-highest}
use Rattle.bk_keydir.proofs.slots.Slots.has_open.Goals as goal

pub returns : goal.returns
returns c =
    rw (← c.self.view_is, has_open-highest c.self.inside.slots, ← c.self.invariant.1, c.is_some.ensures)
