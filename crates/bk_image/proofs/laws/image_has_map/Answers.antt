use Rattle.bk_image.proofs.HoldsCrashes.{holds_map}
use Rattle.bk_image.proofs.laws.image_has_map.Goals as goal

pub returns : goal.returns
returns c = λ t active last kept log holds. holds_map holds
