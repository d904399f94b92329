use Rattle.std.proofs.Common.{◌≡◌, length, get_or, ap, arith}
use Rattle.bk_base.proofs.NameTexts.{no_first, first_is, number_found, number_begins, number_again, kept_number, kept_none}
use Rattle.bk_base.proofs.names.file_number.Goals as goal

pub returns-in_err-first-clause-only : goal.returns-in_err-first-clause-only
returns-in_err-first-clause-only c = λ id fits e.
    let begins = number_begins c.args.text.now id fits e in
    let none = no_first c.as_bytes.result.now c.in_err-first.ensures.value in
    let same = ap length c.as_bytes.ensures.value in
    absurd (omega arith)

pub returns-then-branch-lt-LEAST_FIRST_DIGIT-clause-only : goal.returns-then-branch-lt-LEAST_FIRST_DIGIT-clause-only
returns-then-branch-lt-LEAST_FIRST_DIGIT-clause-only c = λ id fits e.
    let begins = number_begins c.args.text.now id fits e in
    let first = first_is c.as_bytes.result.now _ c.in_ok-first.ensures.value in
    let same = ap (λ bs. get_or bs 0 0) c.as_bytes.ensures.value in
    absurd (omega arith)

pub returns-in_err-id-clause-only : goal.returns-in_err-id-clause-only
returns-in_err-id-clause-only c = λ id fits e.
    absurd (kept_none c.parse.result id c.in_err-id.ensures.value (number_again c.args.text.now c.parse.result id c.parse.ensures.value.0 fits e))

pub returns-then-id-gt-LAST_FILE-clause-only :
    goal.returns-then-id-gt-LAST_FILE-clause-only
returns-then-id-gt-LAST_FILE-clause-only c = λ id fits e.
    let again = number_again c.args.text.now c.parse.result id c.parse.ensures.value.0 fits e in
    let kept = kept_number c.parse.result c.in_ok-id.id c.in_ok-id.ensures.value in
    let same : c.in_ok-id.id ≡ id = cc in
    absurd (omega arith)

pub returns-clause-found : goal.returns-clause-found
returns-clause-found c =
    let first = first_is c.as_bytes.result.now _ c.in_ok-first.ensures.value in
    let same = ap (λ bs. get_or bs 0 0) c.as_bytes.ensures.value in
    let kept = kept_number c.parse.result c.in_ok-id.id c.in_ok-id.ensures.value in
    let found = number_found c.args.text.now c.parse.result c.in_ok-id.id c.parse.ensures.value.0 (omega arith) kept in
    ((found.0, c.if-id-gt-LAST_FILE.false), found.1)

pub returns-clause-only : goal.returns-clause-only
returns-clause-only c = λ id fits e.
    let again = number_again c.args.text.now c.parse.result id c.parse.ensures.value.0 fits e in
    let kept = kept_number c.parse.result c.in_ok-id.id c.in_ok-id.ensures.value in
    cc
