use Rattle.bk_load.proofs.ReadFiles.{synced_none_lent}
use Rattle.bk_load.proofs.laws.synced_lends_nothing.Goals as goal

pub returns : goal.returns
returns c = λ t synced. synced_none_lent t synced
