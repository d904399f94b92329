use Rattle.std.proofs.Common.{Some, ◌∙◌, sym, ap}
use Rattle.bk_base.proofs.NameTexts.{differs, numbered, not_whole, parts_are}
use Rattle.bk_base.proofs.names.Name.read.Goals as goal

pub returns-in_err-number-clause-only : goal.returns-in_err-number-clause-only
returns-in_err-number-clause-only c = λ name listed e.
    let is = numbered c.args.text.now name (differs _ _ c.if-eq.ensures) listed e in
    absurd (not_whole c.args.text.now c.split_once.result c.split_once.ensures.cases name is c.in_err-number.was)

pub returns-in_err-id-clause-only : goal.returns-in_err-id-clause-only
returns-in_err-id-clause-only c = λ name listed e.
    let is = numbered c.args.text.now name (differs _ _ c.if-eq.ensures) listed e in
    let parts = parts_are c.args.text.now c.split_once.result c.split_once.ensures.cases name is _ c.in_ok-number.was in
    let none = c.in_err-id.ensures.only name.id is.number parts.0 in
    absurd cc

pub returns-in_err-kind-clause-only : goal.returns-in_err-kind-clause-only
returns-in_err-kind-clause-only c = λ name listed e.
    let is = numbered c.args.text.now name (differs _ _ c.if-eq.ensures) listed e in
    let parts = parts_are c.args.text.now c.split_once.result c.split_once.ensures.cases name is _ c.in_ok-number.was in
    let none = c.in_err-kind.ensures.only name.kind (is.ends ∙ ap Some (sym parts.1)) in
    absurd cc
