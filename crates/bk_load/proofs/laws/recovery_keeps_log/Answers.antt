use Rattle.bk_load.proofs.KeptLogs.{recovery_keeps_log as crash, tidied_sound}
use Rattle.bk_load.proofs.laws.recovery_keeps_log.Goals as goal

pub returns-clause-crash : goal.returns-clause-crash
returns-clause-crash c = crash

pub returns-clause-now : goal.returns-clause-now
returns-clause-now c = λ t u log goes sound. tidied_sound t.image u.image log goes.tidied sound
