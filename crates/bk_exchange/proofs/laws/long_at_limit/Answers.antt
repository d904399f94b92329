use Rattle.bk_exchange.specs.Exchanges.{requests_of}
use Rattle.bk_exchange.specs.Sessions.{exchanges}
use Rattle.bk_exchange.proofs.EndFacts.{at_limit}
use Rattle.bk_exchange.proofs.laws.long_at_limit.Goals as goal

pub returns : goal.returns
returns c = λ d tells most h h2 t end s part told is cut all.
    at_limit most end (requests_of (exchanges s.transcript)) t.input t.left part
    (s.reads told) is cut all
