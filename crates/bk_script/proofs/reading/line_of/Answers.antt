use Rattle.std.proofs.Common.{sym, ◌∙◌}
use Rattle.bk_script.specs.Words.{head_of}
use Rattle.bk_script.proofs.Actions.{first_word, head_fits, line_split, none_is_some}
use Rattle.bk_script.proofs.reading.line_of.Goals as goal

pub returns-in-None : goal.returns-in-None
returns-in-None c = λ line fit same.
    let head = first_word _ _ _ _ _ c.in-Some.ensures.cases.0 (sym (line_split line) ∙ same) in
    none_is_some (head_of line)
    (c.in-None.ensures.only (head_of line) (head_fits line fit) head.0)
