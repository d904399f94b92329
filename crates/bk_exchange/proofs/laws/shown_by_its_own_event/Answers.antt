use Rattle.bk_exchange.proofs.OwnEvents.{disk_is_its_own, read_is_its_own}
use Rattle.bk_exchange.proofs.laws.shown_by_its_own_event.Goals as goal

pub returns-clause-disk : goal.returns-clause-disk
returns-clause-disk c = λ d p x is own. disk_is_its_own d p x is own

pub returns-clause-read : goal.returns-clause-read
returns-clause-read c = λ d p x is own. read_is_its_own d p x is own
