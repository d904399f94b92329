use Rattle.bk_exchange.proofs.Causes.{caused}
use Rattle.bk_exchange.proofs.laws.refusals_are_caused.Goals as goal

pub returns : goal.returns
returns c = λ d p x lines line. caused d p x lines line
