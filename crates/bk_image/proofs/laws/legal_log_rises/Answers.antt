use Rattle.bk_image.proofs.LegalLogs.{legal_log}
use Rattle.bk_image.proofs.laws.legal_log_rises.Goals as goal

pub returns : goal.returns
returns c = λ o h. legal_log o h
