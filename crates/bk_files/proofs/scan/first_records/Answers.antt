use Rattle.bk_files.proofs.FirstRecords.{first-all, first-go_on, first-more}
use Rattle.bk_files.proofs.scan.first_records.Goals as goal

pub returns-clause-one_more : goal.returns-clause-one_more
returns-clause-one_more c = first-more

pub returns-clause-go_on : goal.returns-clause-go_on
returns-clause-go_on c = first-go_on

pub returns-clause-all : goal.returns-clause-all
returns-clause-all c = first-all
