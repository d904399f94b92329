use Rattle.bk_swap.proofs.Stopping.{one_stop as law}
use Rattle.bk_swap.proofs.laws.one_stop.Goals as goal

pub returns : goal.returns
returns c = law
