use Rattle.bk_script.proofs.Standing.{same_answer, unended_none}
use Rattle.bk_script.proofs.laws.one_answer.Goals as goal

pub returns-clause-one : goal.returns-clause-one
returns-clause-one c = same_answer

pub returns-clause-unended : goal.returns-clause-unended
returns-clause-unended c = unended_none
