use Rattle.bk_record.proofs.Codec.{one_record as law}
use Rattle.bk_record.proofs.laws.one_record.Goals as goal

pub returns : goal.returns
returns c = law
