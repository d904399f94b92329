use Rattle.bk_keydir.proofs.KeptLemmas.{chain_if, versions_of-shown}
use Rattle.bk_keydir.proofs.keydir.Keydir.kept.Goals as goal

pub returns-clause-versions : goal.returns-clause-versions
returns-clause-versions c =
    rw (← c.self.view_is, c.get.ensures.value) (versions_of-shown c.args.key.now c.self.inside.keys.entries)

pub returns-clause-chain : goal.returns-clause-chain
returns-clause-chain c =
    chain_if c.args.key.now c.self.inside.keys.entries c.get.result c.self.invariant.0 c.get.ensures.value
