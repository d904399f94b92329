use Rattle.std.proofs.Common.{ap, ◌∙◌}
use Rattle.bk_script.specs.Words.{now_of}
use Rattle.bk_script.proofs.Texts.{read_split}
use Rattle.bk_script.proofs.reading.read_line.Goals as goal

pub returns : goal.returns
returns c =
    read_split c.line_of.result _ c.args.bytes.now (ap now_of c.as_slice.ensures.value ∙ c.in_ok-words.ensures)
    c.line_of.ensures
