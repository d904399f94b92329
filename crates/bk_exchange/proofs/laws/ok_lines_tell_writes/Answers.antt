use Rattle.bk_exchange.specs.Points.{point_of}
use Rattle.bk_exchange.proofs.OkLines.{session_tells}
use Rattle.bk_exchange.proofs.laws.ok_lines_tell_writes.Goals as goal

pub returns : goal.returns
returns c = λ d tells most h h2 t end s. session_tells d (point_of d.opening h) end s.transcript s.said
