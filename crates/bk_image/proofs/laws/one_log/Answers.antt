use Rattle.bk_image.proofs.OneLog.{one_log}
use Rattle.bk_image.proofs.laws.one_log.Goals as goal

pub returns : goal.returns
returns c = λ r books other log more. one_log r books other log more
