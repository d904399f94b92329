use Rattle.bk_base.proofs.NameTexts.{same_name}
use Rattle.bk_base.proofs.names.one_text.Goals as goal

pub returns : goal.returns
returns c = same_name
