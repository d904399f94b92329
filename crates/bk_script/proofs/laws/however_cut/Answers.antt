use Rattle.bk_script.proofs.Standing.{stands_still, refused_still}
use Rattle.bk_script.proofs.laws.however_cut.Goals as goal

pub returns-clause-stands : goal.returns-clause-stands
returns-clause-stands c = stands_still

pub returns-clause-refused : goal.returns-clause-refused
returns-clause-refused c = refused_still
