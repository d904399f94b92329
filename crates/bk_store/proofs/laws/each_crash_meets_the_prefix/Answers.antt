use Rattle.bk_image.proofs.HoldsCrashes.{holds_prefix}
use Rattle.bk_store.proofs.laws.each_crash_meets_the_prefix.Goals as goal

pub returns : goal.returns
returns c = λ v o h tried s. holds_prefix s.content.disk.holds
