use Rattle.bk_record.proofs.FileRecords.{one_list}
use Rattle.bk_record.proofs.laws.one_list_of_records.Goals as goal

pub returns : goal.returns
returns c = λ bytes v w. one_list v w bytes
