use Rattle.bk_script.proofs.OneLine.{same_text}
use Rattle.bk_script.proofs.laws.one_line.Goals as goal

pub returns : goal.returns
returns c = same_text
