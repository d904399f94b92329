use Rattle.bk_hint.proofs.RoundTrips.{told_again as law}
use Rattle.bk_hint.proofs.laws.told_again.Goals as goal

pub returns : goal.returns
returns c = law
