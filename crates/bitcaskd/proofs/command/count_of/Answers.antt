use Rattle.std.proofs.Common.{◌≡◌, ◌∙◌, ap, arith, codes, get_or, length, sym, Some}
use Rattle.std.specs.Fmt.{decimal}
use Rattle.std.proofs.lemmas.Fmt.{decimal_digit, decimal_injective}
use Rattle.std.proofs.lemmas.Slice.Eq.{bytes_eq-Decides}
use Rattle.bk_base.proofs.NameTexts.{differs, first_is, kept_none, kept_number, no_first, number_again, number_begins, number_found}
use Rattle.bitcaskd.proofs.WordLaws.{as_file}
use Rattle.bitcaskd.proofs.command.count_of.Goals as goal

pub returns-then-eq-clause-found : goal.returns-then-eq-clause-found
returns-then-eq-clause-found c =
    let is : c.args.text.now ≡ codes "0" = (bytes_eq-Decides _ _).0 (sym c.if-eq.ensures) in
    (omega arith, is ∙ sym (decimal_digit 0 (omega arith)))

pub returns-then-eq-clause-only : goal.returns-then-eq-clause-only
returns-then-eq-clause-only c = λ count fits e.
    let is : c.args.text.now ≡ codes "0" = (bytes_eq-Decides _ _).0 (sym c.if-eq.ensures) in
    let zero_is : decimal 0 ≡ codes "0" = decimal_digit 0 (omega arith) in
    ap (λ n. Some n) (decimal_injective 0 count (omega arith) (omega (arith, fits)) (zero_is ∙ sym is ∙ e))

pub returns-in_err-first-clause-only : goal.returns-in_err-first-clause-only
returns-in_err-first-clause-only c = λ count fits e.
    let file = as_file c.args.text.now count (differs _ _ c.if-eq.ensures) fits e in
    let begins = number_begins c.args.text.now count file e in
    let none = no_first c.as_bytes.result.now c.in_err-first.ensures.value in
    let same = ap length c.as_bytes.ensures.value in
    absurd (omega arith)

pub returns-then-branch-lt-LEAST_FIRST_DIGIT-clause-only : goal.returns-then-branch-lt-LEAST_FIRST_DIGIT-clause-only
returns-then-branch-lt-LEAST_FIRST_DIGIT-clause-only c = λ count fits e.
    let file = as_file c.args.text.now count (differs _ _ c.if-eq.ensures) fits e in
    let begins = number_begins c.args.text.now count file e in
    let first = first_is c.as_bytes.result.now _ c.in_ok-first.ensures.value in
    let same = ap (λ bs. get_or bs 0 0) c.as_bytes.ensures.value in
    absurd (omega arith)

pub returns-in_err-count-clause-only : goal.returns-in_err-count-clause-only
returns-in_err-count-clause-only c = λ count fits e.
    let file = as_file c.args.text.now count (differs _ _ c.if-eq.ensures) fits e in
    absurd (kept_none c.parse.result count c.in_err-count.ensures.value
    (number_again c.args.text.now c.parse.result count c.parse.ensures.value.0 file e))

pub returns-then-count-gt-MOST_PAIRS-clause-only : goal.returns-then-count-gt-MOST_PAIRS-clause-only
returns-then-count-gt-MOST_PAIRS-clause-only c = λ count fits e.
    let file = as_file c.args.text.now count (differs _ _ c.if-eq.ensures) fits e in
    let again = number_again c.args.text.now c.parse.result count c.parse.ensures.value.0 file e in
    let kept = kept_number c.parse.result c.in_ok-count.count c.in_ok-count.ensures.value in
    let same : c.in_ok-count.count ≡ count = cc in
    absurd (omega arith)

pub returns-clause-found : goal.returns-clause-found
returns-clause-found c =
    let first = first_is c.as_bytes.result.now _ c.in_ok-first.ensures.value in
    let same = ap (λ bs. get_or bs 0 0) c.as_bytes.ensures.value in
    let kept = kept_number c.parse.result c.in_ok-count.count c.in_ok-count.ensures.value in
    let found = number_found c.args.text.now c.parse.result c.in_ok-count.count c.parse.ensures.value.0 (omega arith) kept in
    (c.if-count-gt-MOST_PAIRS.false, found.1)

pub returns-clause-only : goal.returns-clause-only
returns-clause-only c = λ count fits e.
    let file = as_file c.args.text.now count (differs _ _ c.if-eq.ensures) fits e in
    let again = number_again c.args.text.now c.parse.result count c.parse.ensures.value.0 file e in
    let kept = kept_number c.parse.result c.in_ok-count.count c.in_ok-count.ensures.value in
    cc
