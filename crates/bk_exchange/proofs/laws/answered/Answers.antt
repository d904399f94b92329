use Rattle.bk_exchange.proofs.EndFacts.{closed}
use Rattle.bk_exchange.proofs.laws.answered.Goals as goal

pub returns : goal.returns
returns c = λ d p x is. closed d p x is
