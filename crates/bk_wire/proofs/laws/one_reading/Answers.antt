use Rattle.bk_wire.proofs.ReplyLaws.{one_of_three, none_in_partial, none_in_bad, bad_not_partial}
use Rattle.bk_wire.proofs.laws.one_reading.Goals as goal

pub returns-clause-each : goal.returns-clause-each
returns-clause-each c = one_of_three

pub returns-clause-partial : goal.returns-clause-partial
returns-clause-partial c = none_in_partial

pub returns-clause-bad : goal.returns-clause-bad
returns-clause-bad c = λ bytes never. (none_in_bad bytes never, bad_not_partial bytes never)
