-- The decimal text of a number, as `parse` reads it.
use Rattle.std.proofs.Common.{◌≡◌, ◌≢◌, ℕ, zero, suc, ◌^◌, ◌<◌, List, length, get_or, Result, Ok, sym, ap, ◌∙◌, arith, IsUtf8, inl, inr, subst}
use Rattle.std.specs.Fmt.{decimal}
use Rattle.std.specs.Str.Parse.{AllDigits, ParsesUnsigned, digits_value}
use Rattle.std.proofs.lemmas.Fmt.{decimal-digits_value, decimal_digit, first_decimal, decimal_nonempty, parse-decimal, IsAscii-decimal, digits_decimal}
use Rattle.std.proofs.lemmas.Result.{OkIff-at_ok}
use Rattle.std.proofs.lemmas.Str.{IsUtf8-from_ascii}
use Rattle.bk_script.specs.Words.{BeginsAsNumber}
use Rattle.std.proofs.lemmas.Str.Parse.{IsNumeralModel, numerals_by_value, tells_digits, digit_at, parse_plain}

pub numerals : IsNumeralModel (AllDigits 10) (digits_value 10)
numerals = numerals_by_value (AllDigits 10) tells_digits

-- what `parse` read of a text without a sign and without leading zeros
pub number_found : {E : Type 0} (bs : List ℕ) (r : Result ℕ E) (n : ℕ) → BeginsAsNumber bs
    → ParsesUnsigned 64 10 bs r → r ≡ Ok n → (n < 2 ^ 64) × (decimal n ≡ bs)
number_found bs r n begins parsed ok =
    let answer = OkIff-at_ok r _ _ n (parse_plain numerals 64 bs r parsed (no_sign begins)) ok in
    let below : digits_value 10 bs < 2 ^ 64 = answer.0.2 in
    let same : decimal n ≡ bs =
    ap decimal answer.1 ∙ decimal-digits_value numerals bs answer.0.0 answer.0.1 (no_zero begins) below in
    (omega (arith, answer.1), same)
  where
    no_sign : BeginsAsNumber bs → get_or bs 0 0 ≢ 43
    no_sign (inl alone) = λ e. omega (arith, ap (λ (x : List ℕ). get_or x 0 0) alone)
    no_sign (inr digit) = λ e. omega arith

    no_zero : BeginsAsNumber bs → get_or bs 0 0 ≡ 48 → length bs ≡ 1
    no_zero (inl alone) = λ e. ap length alone
    no_zero (inr digit) = λ e. absurd (omega arith)

-- and is read as that number
pub number_again : {E : Type 0} (bs : List ℕ) (r : Result ℕ E) (n : ℕ) → ParsesUnsigned 64 10 bs r → n < 2 ^ 64
    → decimal n ≡ bs → r ≡ Ok n
number_again bs r n parsed fits e = parse-decimal 64 n bs r fits fits (sym e) parsed

pub number_is_utf8 : (bs : List ℕ) (n : ℕ) → n < 2 ^ 64 → decimal n ≡ bs → IsUtf8 bs
number_is_utf8 bs n fits e = subst IsUtf8 e (IsUtf8-from_ascii (decimal n) (IsAscii-decimal n fits))

pub number_begins : (bs : List ℕ) (n : ℕ) → n < 2 ^ 64 → decimal n ≡ bs → BeginsAsNumber bs
number_begins bs zero fits e = inl (sym e ∙ decimal_digit 0 (omega arith))
number_begins bs (suc n) fits e =
    let some = decimal_nonempty (suc n) fits in
    let digit = digit_at (decimal (suc n)) 0 (digits_decimal numerals (suc n) fits) some in
    let first = first_decimal (suc n) (omega arith) fits in
    let same = ap (λ (x : List ℕ). get_or x 0 0) e in
    inr (omega (arith, same, first), omega (arith, same, digit.1))
