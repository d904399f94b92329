use Rattle.bk_hint.proofs.RoundTrips.{told_records as law}
use Rattle.bk_hint.proofs.laws.told_records.Goals as goal

pub returns : goal.returns
returns c = law
