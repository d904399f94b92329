use Rattle.bk_hint.proofs.RoundTrips.{added_is_sound as law}
use Rattle.bk_hint.proofs.laws.added_is_sound.Goals as goal

pub returns : goal.returns
returns c = law
