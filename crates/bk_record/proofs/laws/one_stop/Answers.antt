use Rattle.bk_record.proofs.Answering.{one_stop as law}
use Rattle.bk_record.proofs.laws.one_stop.Goals as goal

pub returns : goal.returns
returns c = law
