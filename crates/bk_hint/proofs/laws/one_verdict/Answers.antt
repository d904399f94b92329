use Rattle.bk_hint.proofs.Answering.{one_verdict as law}
use Rattle.bk_hint.proofs.laws.one_verdict.Goals as goal

pub returns : goal.returns
returns c = law
