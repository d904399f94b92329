-- Numbers below a bound, and hexadecimal numbers, are codes; so is one code behind another.
use Rattle.std.proofs.Common.{◌≡◌, ℕ, zero, suc, ◌+◌, ◌-◌, ◌*◌, ◌/◌, ◌%◌, ◌^◌, ◌<◌, ◌≤◌, true, false, cond, List, [], ◌∷◌, ◌++◌, Result, decimal, Ok, Err, refl, ap, ◌∙◌, inl, inr, arith, lit<, lt-ltb, le-ltb, le-leb, leb-true}
use Rattle.std.proofs.lemmas.Bool.{and_from, and_parts, and_right, cases_lt, lt-leb}
use Rattle.std.proofs.lemmas.Grind.{pow_more}
use Rattle.std.specs.Char.{is_ascii_digit}
use Rattle.std.specs.Fmt.{digit_glyph}
use Rattle.bk_laws.specs.Wire.{hex_of}
use Rattle.bk_wire.specs.declared.stops.Stop.{Stop}
use Rattle.bk_wire.specs.declared.stops.Stop.TheVariants.{Short, Bad}
use Rattle.bk_wire.specs.Reading.{literal_at, number_at, made}
use Rattle.bk_wire.specs.ReplyReading.{is_hex_letter, digit_at, hex_digits_at, hex_at, both}
use Rattle.bk_wire.proofs.Codes.{IsCode, chosen, same_found, joined, done_code, recoded}
use Rattle.bk_wire.proofs.Choices.{made_code}
use Rattle.bk_wire.proofs.FieldCodes.{literal_code, number_code}

-- ---- one code behind another

module _ {A B : Type 0} {text1 : A → List ℕ} {fits1 : A → Type 0} {read1 : List ℕ → Result (A × List ℕ) Stop}
    {text2 : B → List ℕ} {fits2 : B → Type 0} {read2 : List ℕ → Result (B × List ℕ) Stop}
    (one : IsCode text1 fits1 read1) (two : IsCode text2 fits2 read2) where
  second_code : (a : A) → IsCode (λ (x : A × B). text2 x.1) (λ x. fits2 x.1 × (x.0 ≡ a))
      (λ bytes. made (λ b. (a, b)) (read2 bytes))
  second_code a =
      made_code (λ b. (a, b)) (λ (x : A × B). text2 x.1) (λ x. fits2 x.1 × (x.0 ≡ a)) two
      (λ b fit. (fit, refl))
      (λ x h. (x.1, ap (λ (y : A). (y, x.1)) h.1, h.0))
      (λ b _. refl)

  pub both_code : IsCode (λ (x : A × B). text1 x.0 ++ text2 x.1) (λ x. fits1 x.0 × fits2 x.1) (both read1 read2)
  both_code =
      recoded (λ x h. (h.0, h.1.0)) (λ x fit. (fit.0, (fit.1, refl))) (λ x _. refl)
      (joined (λ (x : A × B). x.0) text1 fits1 read1 (λ x. text2 x.1) (λ a x. fits2 x.1 × (x.0 ≡ a))
      (λ a bytes. made (λ b. (a, b)) (read2 bytes)) one (λ a _. second_code a) (λ a x h. h.1))

-- ---- numbers below a bound

pub below_code : (bound end : ℕ) → bound - 1 < 10 ^ 64 → 9 ≤ bound - 1 → end < 48
    → IsCode (λ n. decimal n ++ end ∷ []) (λ n. n < bound) (number_at 0 (bound - 1) end)
below_code bound end small high apart =
    recoded (λ n h. omega (arith, h.1, high)) (λ n less. (omega arith, omega (arith, less))) (λ n _. refl)
    (number_code 0 (bound - 1) end small (omega arith) high apart)

-- ---- hexadecimal digits

low_glyph : (d : ℕ) → d < 10 → digit_glyph false d ≡ 48 + d
low_glyph d less = rw (lt-ltb d 10 less) refl

high_glyph : (d : ℕ) → 10 ≤ d → digit_glyph false d ≡ 87 + d
high_glyph d more = rw (le-ltb d 10 more) refl

low_again : (d : ℕ) (rest : List ℕ) → d < 10 → digit_at (digit_glyph false d ∷ rest) ≡ Ok (d, rest)
unfolding digit_at
low_again d rest less =
    let is = low_glyph d less in
    let digit : is_ascii_digit (48 + d) ≡ true =
    and_from _ _ (le-leb 48 (48 + d) (omega arith)) (le-leb (48 + d) 57 (omega (arith, less))) in
    let back : 48 + d - 48 ≡ d = omega arith in
    rw (is, digit) (ap (λ (n : ℕ). Ok (n, rest)) back)

high_again : (d : ℕ) (rest : List ℕ) → 10 ≤ d → d < 16 → digit_at (digit_glyph false d ∷ rest) ≡ Ok (d, rest)
unfolding digit_at
high_again d rest more less =
    let is = high_glyph d more in
    let other : is_ascii_digit (87 + d) ≡ false = and_right _ _ (lt-leb (87 + d) 57 (omega (arith, more))) in
    let letter : is_hex_letter (87 + d) ≡ true =
    and_from _ _ (le-leb 97 (87 + d) (omega (arith, more))) (le-leb (87 + d) 102 (omega (arith, less))) in
    let back : 87 + d - 87 ≡ d = omega arith in
    rw (is, other, letter) (ap (λ (n : ℕ). Ok (n, rest)) back)

digit_again : (d : ℕ) (rest : List ℕ) → d < 16 → digit_at ((digit_glyph false d ∷ []) ++ rest) ≡ Ok (d, rest)
digit_again d rest less =
    elim (cases_lt d 10) [
      | inl low ↦ low_again d rest low
      | inr high ↦ high_again d rest high less
    ]

digit_whole : (bytes : List ℕ) (d : ℕ) (rest : List ℕ) → digit_at bytes ≡ Ok (d, rest)
    → (d < 16) × (bytes ≡ (digit_glyph false d ∷ []) ++ rest)
unfolding digit_at
digit_whole [] d rest e = cc
digit_whole (b ∷ bytes) d rest e =
    elim (chosen (is_ascii_digit b) (Ok (b - 48, bytes)) (cond (is_hex_letter b) (Ok (b - 87, bytes)) (Err Bad))
    (Ok (d, rest)) e) [
      | inl digit ↦ (
          let parts = and_parts _ _ digit.0 in
          let low = leb-true 48 b parts.0 in
          let high = leb-true b 57 parts.1 in
          let same = same_found (b - 48) d bytes rest digit.1 in
          let byte : digit_glyph false d ≡ b =
          low_glyph d (omega (arith, low, high, same.0)) ∙ omega (arith, low, same.0) in
          (omega (arith, low, high, same.0), rw (byte, same.1) refl))
      | inr other ↦ elim (chosen (is_hex_letter b) (Ok (b - 87, bytes)) (Err Bad) (Ok (d, rest)) other.1) [
        | inl letter ↦ (
            let parts = and_parts _ _ letter.0 in
            let low = leb-true 97 b parts.0 in
            let high = leb-true b 102 parts.1 in
            let same = same_found (b - 87) d bytes rest letter.1 in
            let byte : digit_glyph false d ≡ b =
            high_glyph d (omega (arith, low, same.0)) ∙ omega (arith, low, same.0) in
            (omega (arith, low, high, same.0), rw (byte, same.1) refl))
        | inr refused ↦ cc
      ]
    ]

digit_short : (bytes : List ℕ) → digit_at bytes ≡ Err Short
    → (d : ℕ) × (more : List ℕ) × (d < 16) × (bytes ++ more ≡ digit_glyph false d ∷ [])
unfolding digit_at
digit_short [] e = (0, digit_glyph false 0 ∷ [], lit< tt, refl)
digit_short (b ∷ bytes) e =
    elim (chosen (is_ascii_digit b) (Ok (b - 48, bytes)) (cond (is_hex_letter b) (Ok (b - 87, bytes)) (Err Bad))
    (Err Short) e) [
      | inl digit ↦ cc
      | inr other ↦ elim (chosen (is_hex_letter b) (Ok (b - 87, bytes)) (Err Bad) (Err Short) other.1) [
        | inl letter ↦ cc
        | inr refused ↦ cc
      ]
    ]

digit_stays : (bytes more : List ℕ) → digit_at bytes ≡ Err Bad → digit_at (bytes ++ more) ≡ Err Bad
unfolding digit_at
digit_stays [] more e = cc
digit_stays (b ∷ bytes) more e =
    elim (chosen (is_ascii_digit b) (Ok (b - 48, bytes)) (cond (is_hex_letter b) (Ok (b - 87, bytes)) (Err Bad))
    (Err Bad) e) [
      | inl digit ↦ cc
      | inr other ↦ elim (chosen (is_hex_letter b) (Ok (b - 87, bytes)) (Err Bad) (Err Bad) other.1) [
        | inl letter ↦ cc
        | inr refused ↦ rw (other.0, refused.0)
      ]
    ]

digit_code : IsCode (λ d. digit_glyph false d ∷ []) (λ d. d < 16) digit_at
digit_code = record {
  some = (0, lit< tt);
  whole = λ bytes d rest all e. digit_whole bytes d rest e;
  again = digit_again;
  short = λ bytes all e. digit_short bytes e;
  stays = λ bytes more all e. digit_stays bytes more e;
}

-- ---- hexadecimal numbers

-- the last digit of a number that has the digits of m before it
last_code : (m : ℕ) → IsCode (λ n. digit_glyph false (n % 16) ∷ []) (λ n. n / 16 ≡ m)
    (λ bytes. made (λ d. m * 16 + d) (digit_at bytes))
last_code m =
    made_code (λ d. m * 16 + d) (λ n. digit_glyph false (n % 16) ∷ []) (λ n. n / 16 ≡ m) digit_code
    (λ d less. omega (arith, less))
    (λ n is. (n % 16, omega (arith, is), omega arith))
    (λ d less.
    let rest : d ≡ (m * 16 + d) % 16 = omega (arith, less) in
    ap (λ (k : ℕ). digit_glyph false k ∷ []) rest)

more_below : (n k : ℕ) → n / 16 < 16 ^ k → n < 16 ^ suc k
more_below n k less =
    let next : k + 1 ≡ suc k = omega arith in
    omega (arith, less, ap (λ j. 16 ^ j) next, pow_more 16 k)

fewer_below : (n k : ℕ) → n < 16 ^ suc k → n / 16 < 16 ^ k
fewer_below n k less =
    let next : k + 1 ≡ suc k = omega arith in
    omega (arith, less, ap (λ j. 16 ^ j) next, pow_more 16 k)

hex_digits_code : (k : ℕ) → IsCode (hex_of k) (λ n. n < 16 ^ k) (hex_digits_at k)
unfolding hex_of hex_digits_at
hex_digits_code zero =
    recoded (λ n is. omega (arith, is)) (λ n less. omega (arith, less)) (λ n _. refl) (done_code 0)
hex_digits_code (suc k) =
    recoded (λ n h. more_below n k h.0) (λ n less. (fewer_below n k less, refl)) (λ n _. refl)
    (joined (λ n. n / 16) (hex_of k) (λ n. n < 16 ^ k) (hex_digits_at k)
    (λ n. digit_glyph false (n % 16) ∷ []) (λ m n. n / 16 ≡ m)
    (λ m bytes. made (λ d. m * 16 + d) (digit_at bytes))
    (hex_digits_code k) (λ m _. last_code m) (λ m n is. is))

-- the byte that ends a number
ended_code : (end n : ℕ) → IsCode (λ (m : ℕ). end ∷ []) (λ m. m ≡ n) (λ bytes. made (λ _. n) (literal_at (end ∷ []) bytes))
ended_code end n =
    made_code (λ _. n) (λ (m : ℕ). end ∷ []) (λ m. m ≡ n) (literal_code (end ∷ [])) (λ _ _. refl)
    (λ m is. (tt, is, tt)) (λ _ _. refl)

pub hex_code : (end : ℕ) → IsCode (λ n. hex_of 8 n ++ end ∷ []) (λ n. n < 2 ^ 32) (hex_at end)
unfolding hex_at
hex_code end =
    recoded (λ n h. h.0) (λ n less. (less, refl)) (λ n _. refl)
    (joined (λ (n : ℕ). n) (hex_of 8) (λ n. n < 16 ^ 8) (hex_digits_at 8)
    (λ (n : ℕ). end ∷ []) (λ m n. n ≡ m) (λ m bytes. made (λ _. m) (literal_at (end ∷ []) bytes))
    (hex_digits_code 8) (λ m _. ended_code end m) (λ m n is. is))
