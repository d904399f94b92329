use Rattle.std.proofs.Common.{arith}
use Rattle.std.proofs.lemmas.List.{length-take}
use Rattle.bk_script.proofs.Fronts.{first_found}
use Rattle.bk_script.proofs.reader.first_line.Goals as goal

pub returns-in-Some : goal.returns-in-Some
returns-in-Some c =
    first_found c.args.bytes.now c.min.result c.in-Some.end _ (omega (arith, c.min.ensures))
    (omega (arith, length-take c.min.result c.args.bytes.now)) c.in-Some.ensures.0 c.in-Some.ensures.1
