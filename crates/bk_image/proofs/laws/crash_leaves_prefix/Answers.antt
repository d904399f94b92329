use Rattle.bk_image.proofs.HoldsCrashes.{holds_prefix}
use Rattle.bk_image.proofs.laws.crash_leaves_prefix.Goals as goal

pub returns : goal.returns
returns c = λ t active last kept log tried holds. holds_prefix holds
