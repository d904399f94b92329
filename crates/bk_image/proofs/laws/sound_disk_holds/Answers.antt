use Rattle.bk_image.proofs.HoldsOpening.{holds_opens}
use Rattle.bk_image.proofs.laws.sound_disk_holds.Goals as goal

pub returns : goal.returns
returns c = λ t log last sound no_list absent. holds_opens sound no_list absent
