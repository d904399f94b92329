use Rattle.bk_image.proofs.HoldsCrashes.{holds_now}
use Rattle.bk_image.proofs.laws.image_has_prefix.Goals as goal

pub returns : goal.returns
returns c = λ t active last kept log tried holds. holds_now holds
