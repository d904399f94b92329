use Rattle.bk_wire.proofs.ReplyLaws.{back}
use Rattle.bk_wire.proofs.laws.read_back.Goals as goal

pub returns : goal.returns
returns c = back
