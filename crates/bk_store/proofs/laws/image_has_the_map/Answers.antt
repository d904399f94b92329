use Rattle.bk_image.proofs.HoldsCrashes.{holds_now}
use Rattle.bk_store.proofs.laws.image_has_the_map.Goals as goal

pub returns : goal.returns
returns c = λ v o h tried s. holds_now s.content.disk.holds
