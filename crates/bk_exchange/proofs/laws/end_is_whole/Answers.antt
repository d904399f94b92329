use Rattle.bk_exchange.proofs.WholeListings.{end_is_whole}
use Rattle.bk_exchange.proofs.laws.end_is_whole.Goals as goal

pub returns : goal.returns
returns c = λ d p x lines n. end_is_whole d p x lines n
