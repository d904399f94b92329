use Rattle.bk_image.proofs.Winners.{winner_is}
use Rattle.bk_image.proofs.laws.greatest_seq_wins.Goals as goal

pub returns : goal.returns
returns c = λ log key w. winner_is log key w
