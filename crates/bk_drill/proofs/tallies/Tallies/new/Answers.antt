use Rattle.bk_drill.proofs.Keeping.{zeros}
use Rattle.bk_drill.proofs.tallies.Tallies.new.Goals as goal

pub returns-in-Ok : goal.returns-in-Ok
returns-in-Ok c = zeros c.in-Ok.counts.items c.in-Ok.ensures.items
