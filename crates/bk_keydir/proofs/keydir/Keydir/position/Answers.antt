use Rattle.std.proofs.Common.{sym, ◌∙◌}
use Rattle.bk_keydir.proofs.KeptLemmas.{keys_of-shown}
use Rattle.bk_keydir.proofs.keydir.Keydir.position.Goals as goal

pub returns-in-Some-clause-place : goal.returns-in-Some-clause-place
returns-in-Some-clause-place c =
    rw (← c.self.view_is, keys_of-shown c.self.inside.keys.entries) (sym c.in-Some.is ∙ c.get_index_of.ensures.index)

pub returns-in-None-clause-place : goal.returns-in-None-clause-place
returns-in-None-clause-place c =
    rw (← c.self.view_is, keys_of-shown c.self.inside.keys.entries) (sym c.in-None.is ∙ c.get_index_of.ensures.index)
