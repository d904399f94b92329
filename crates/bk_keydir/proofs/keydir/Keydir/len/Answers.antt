use Rattle.bk_keydir.proofs.KeptLemmas.{keys_of-shown}
use Rattle.bk_keydir.proofs.keydir.Keydir.len.Goals as goal

pub returns-clause-distinct : goal.returns-clause-distinct
returns-clause-distinct c = rw (← c.self.view_is, keys_of-shown c.self.inside.keys.entries) c.len.ensures.unique
