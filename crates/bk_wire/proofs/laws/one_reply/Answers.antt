use Rattle.bk_wire.proofs.ReplyLaws.{same_reply}
use Rattle.bk_wire.proofs.laws.one_reply.Goals as goal

pub returns : goal.returns
returns c = same_reply
