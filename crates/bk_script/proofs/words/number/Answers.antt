use Rattle.std.proofs.Common.{Ok, subst, ◌≡◌}
use Rattle.std.specs.Str.Parse.{ParsesUnsigned}
use Rattle.bk_script.proofs.Numbers.{number_found, number_again, number_is_utf8, number_begins}
use Rattle.bk_script.proofs.words.number.Goals as goal

pub returns-then-not-begins_as_number : goal.returns-then-not-begins_as_number
returns-then-not-begins_as_number c = λ n fits same.
    let begins = c.begins_as_number.ensures.1 (number_begins c.args.word.now n fits same) in
    cc

pub returns-in_default : goal.returns-in_default
returns-in_default c = λ n fits same.
    let utf8 = number_is_utf8 c.args.word.now n fits same in
    c.in_default.ensures.cases.0 utf8

pub returns-in-Ok-parse : goal.returns-in-Ok-parse
returns-in-Ok-parse c =
    let begins = c.begins_as_number.ensures.0 cc in
    let parsed =
    subst (λ t. ParsesUnsigned 64 10 t c.parse.result) c.in-Ok.ensures.cases.0 c.parse.ensures.value.0 in
    number_found c.args.word.now c.parse.result c.in-Ok-parse.number begins parsed c.in-Ok-parse.is

pub returns-in-Err : goal.returns-in-Err
returns-in-Err c = λ n fits same.
    let parsed =
    subst (λ t. ParsesUnsigned 64 10 t c.parse.result) c.in-Ok.ensures.cases.0 c.parse.ensures.value.0 in
    let again : c.parse.result ≡ Ok n = number_again c.args.word.now c.parse.result n parsed fits same in
    cc
