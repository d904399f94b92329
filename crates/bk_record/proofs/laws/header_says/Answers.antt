use Rattle.bk_record.proofs.Codec.{reads}
use Rattle.bk_record.proofs.laws.header_says.Goals as goal

pub returns : goal.returns
returns c = λ bytes w rest stands. let r = reads bytes w rest stands in (r.sound, r.size)
