use Rattle.bk_exchange.specs.Exchanges.{requests_of}
use Rattle.bk_exchange.specs.Sessions.{exchanges}
use Rattle.bk_exchange.proofs.EndFacts.{end_read}
use Rattle.bk_exchange.proofs.laws.end_says.Goals as goal

pub returns-clause-read : goal.returns-clause-read
returns-clause-read c = λ d tells most h h2 t s told.
    end_read most (requests_of (exchanges s.transcript)) t.input t.left (s.reads told)

pub returns-clause-written : goal.returns-clause-written
returns-clause-written c = λ d tells most h h2 t s told. s.writes told
