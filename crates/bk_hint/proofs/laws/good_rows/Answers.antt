use Rattle.bk_hint.proofs.RoundTrips.{good_rows as law}
use Rattle.bk_hint.proofs.laws.good_rows.Goals as goal

pub returns : goal.returns
returns c = law
