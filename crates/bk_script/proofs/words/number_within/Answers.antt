use Rattle.std.proofs.Common.{◌<◌, ◌^◌, ◌∙◌, sym, arith}
use Rattle.std.proofs.lemmas.Fmt.{decimal_injective}
use Rattle.bk_script.proofs.words.number_within.Goals as goal

pub returns-then-number-least : goal.returns-then-number-least
returns-then-number-least c = λ n within same.
    let fits : n < 2 ^ 64 = omega (arith, within.1, c.ranges.most.fits) in
    let one = decimal_injective n c.in_ok-number.number fits c.in_ok-number.ensures.0 (same ∙ sym c.in_ok-number.ensures.1) in
    grind arith
