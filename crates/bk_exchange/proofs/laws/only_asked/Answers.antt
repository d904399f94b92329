use Rattle.bk_laws.specs.History.{log_of}
use Rattle.bk_exchange.specs.Sessions.{exchanges}
use Rattle.bk_exchange.proofs.OneCaller.{asked_or_there, log_gains}
use Rattle.bk_exchange.proofs.laws.only_asked.Goals as goal

pub returns : goal.returns
returns c = λ d tells most h h2 t end first tried s w one there.
    asked_or_there d h2 (exchanges s.transcript) (log_of d.opening h) w
    (log_gains d tells most h h2 t end first tried s one) there
