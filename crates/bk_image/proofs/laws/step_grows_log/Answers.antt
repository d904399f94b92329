use Rattle.bk_image.proofs.LegalLogs.{log_grows}
use Rattle.bk_image.proofs.laws.step_grows_log.Goals as goal

pub returns : goal.returns
returns c = λ o h step. log_grows o h step
