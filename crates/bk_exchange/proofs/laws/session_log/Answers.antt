use Rattle.bk_exchange.proofs.OneCaller.{log_gains}
use Rattle.bk_exchange.proofs.laws.session_log.Goals as goal

pub returns : goal.returns
returns c = λ d tells most h h2 t end first tried s one. log_gains d tells most h h2 t end first tried s one
