use Rattle.std.proofs.Common.{sym, ◌∙◌}
use Rattle.bk_script.specs.Words.{verb_of}
use Rattle.bk_script.proofs.Actions.{action_split, first_word, none_is_some}
use Rattle.bk_script.proofs.reading.action_of.Goals as goal

pub returns-in-None : goal.returns-in-None
returns-in-None c = λ action fit same.
    let head = first_word _ _ _ _ _ c.in-Some.ensures.cases.0 (sym (action_split action) ∙ same) in
    none_is_some (verb_of action) (c.in-None.ensures.only (verb_of action) head.0)
