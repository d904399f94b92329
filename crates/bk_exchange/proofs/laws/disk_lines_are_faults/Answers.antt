use Rattle.bk_exchange.specs.Points.{point_of}
use Rattle.bk_exchange.proofs.Causes.{session_faults}
use Rattle.bk_exchange.proofs.laws.disk_lines_are_faults.Goals as goal

pub returns : goal.returns
returns c = λ d tells most h h2 t end s. session_faults d (point_of d.opening h) end s.transcript s.said
