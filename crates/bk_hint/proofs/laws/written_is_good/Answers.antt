use Rattle.bk_hint.proofs.RoundTrips.{written_is_good as law}
use Rattle.bk_hint.proofs.laws.written_is_good.Goals as goal

pub returns : goal.returns
returns c = law
