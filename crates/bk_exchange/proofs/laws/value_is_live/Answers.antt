use Rattle.bk_exchange.proofs.LiveReplies.{none_live, none_put, value_live}
use Rattle.bk_exchange.proofs.laws.value_is_live.Goals as goal

pub returns-clause-value : goal.returns-clause-value
returns-clause-value c = λ d p x key value. value_live d p x key value

pub returns-clause-none : goal.returns-clause-none
returns-clause-none c = λ d p x key. none_live d p x key

pub returns-clause-no_put : goal.returns-clause-no_put
returns-clause-no_put c = λ d p x key. none_put d p x key
