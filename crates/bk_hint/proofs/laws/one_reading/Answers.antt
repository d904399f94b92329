use Rattle.bk_hint.proofs.RoundTrips.{one_reading as law}
use Rattle.bk_hint.proofs.laws.one_reading.Goals as goal

pub returns : goal.returns
returns c = law
