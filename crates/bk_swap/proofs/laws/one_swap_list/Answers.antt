use Rattle.bk_swap.proofs.Texts.{one_list}
use Rattle.bk_swap.proofs.laws.one_swap_list.Goals as goal

pub returns : goal.returns
returns c = one_list
