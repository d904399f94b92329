use Rattle.bk_keydir.proofs.SlotLemmas.{reaches-highest}
use Rattle.bk_keydir.proofs.slots.Slots.reach.Goals as goal

pub returns-in-Some : goal.returns-in-Some
returns-in-Some c =
    rw (← c.self.view_is, reaches-highest c.self.inside.slots c.args.seq.0, ← c.self.invariant.1, c.in-Some.is)

pub returns-in-None : goal.returns-in-None
returns-in-None c =
    rw (← c.self.view_is, reaches-highest c.self.inside.slots c.args.seq.0, ← c.self.invariant.1, c.in-None.is)
