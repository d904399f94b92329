use Rattle.bk_hint.proofs.RoundTrips.{rows_are_good as law}
use Rattle.bk_hint.proofs.laws.rows_are_good.Goals as goal

pub returns : goal.returns
returns c = law
