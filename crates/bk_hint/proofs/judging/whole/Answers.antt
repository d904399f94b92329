use Rattle.std.proofs.Common.{arith, refl}
use Rattle.std.proofs.lemmas.Bool.{false≢true}
use Rattle.bk_hint.proofs.HintTexts.{parts, not_rows, not_mark, found_whole}
use Rattle.bk_hint.proofs.judging.whole.Goals as goal

pub returns-in_err-front : goal.returns-in_err-front
returns-in_err-front c =
    rw c.from_residual.ensures
    (λ covered rows crc hint. omega (
      arith,
      (parts c.args.bytes.now covered rows crc hint).long,
      c.in_err-front.ensures.cases,
    ))

pub returns-in_err-walk : goal.returns-in_err-walk
returns-in_err-walk c =
    rw c.from_residual-in_err-walk.ensures
    (not_rows c.args.bytes.now c.in_ok-front.front.now c.in_ok-front.mark.now c.read-mark.result
    c.in_ok-front.ensures.cases.0 c.in_ok-front.ensures.cases.1 c.read-mark.ensures c.in_err-walk.ensures)

pub returns-then-not-is_mark : goal.returns-then-not-is_mark
returns-then-not-is_mark c =
    let found = c.in_ok-walk.ensures in
    not_mark c.args.bytes.now c.in_ok-front.front.now c.in_ok-front.mark.now c.read-mark.result
    c.in_ok-front.ensures.cases.0 c.in_ok-front.ensures.cases.1 c.read-mark.ensures
    c.in_ok-walk.walk.rows found.0 found.1 found.2.number
    (λ is. false≢true (c.if-not-is_mark.ensures.1 is))

pub returns : goal.returns
returns c =
    let found = c.in_ok-walk.ensures in
    found_whole c.args.bytes.now c.in_ok-front.front.now c.in_ok-front.mark.now c.read-mark.result
    c.in_ok-front.ensures.cases.0 c.in_ok-front.ensures.cases.1 c.read-mark.ensures
    c.in_ok-walk.walk.rows c.in_ok-walk.walk.crc c.in_ok-walk.walk.first_bad found.0
    (λ i. omega (arith, c.type_inv.bytes i)) (omega (arith, c.in_ok-front.ensures.cases.2)) (omega arith)
    found.1 found.2 found.3 (c.if-not-is_mark.ensures.0 refl)
