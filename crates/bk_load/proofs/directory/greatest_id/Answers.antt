use Rattle.std.proofs.Common.{◌∙◌, ap}
use Rattle.std.proofs.lemmas.List.{take_all}
use Rattle.bk_load.specs.Directory.{greatest_in}
use Rattle.bk_load.proofs.Lengths.{greatest_put}
use Rattle.bk_load.proofs.directory.greatest_id.Goals as goal

pub loop-file-preserved : goal.loop-file-preserved
loop-file-preserved c =
    c.max-greatest.ensures ∙ greatest_put _ _ _ _ c.loop-file-test.true c.loop-file.invariant

pub returns : goal.returns
returns c = c.loop-file.invariant ∙ ap greatest_in (take_all _ _ c.loop-file-test.false)
