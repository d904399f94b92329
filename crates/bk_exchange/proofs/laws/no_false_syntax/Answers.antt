use Rattle.bk_exchange.specs.Exchanges.{requests_of}
use Rattle.bk_exchange.specs.Sessions.{exchanges}
use Rattle.bk_exchange.proofs.EndFacts.{none_there}
use Rattle.bk_exchange.proofs.laws.no_false_syntax.Goals as goal

pub returns : goal.returns
returns c = λ d tells most at h h2 t request rest s told stands.
    none_there most at (requests_of (exchanges s.transcript)) t.input t.left request rest
    (s.reads told) s.offset stands
