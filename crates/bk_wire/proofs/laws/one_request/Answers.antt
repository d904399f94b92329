use Rattle.bk_wire.proofs.RequestLaws.{same_request}
use Rattle.bk_wire.proofs.laws.one_request.Goals as goal

pub returns : goal.returns
returns c = same_request
