-- Literals, numbers and pieces are codes.
use Rattle.std.proofs.Common.{◌≡◌, ℕ, ◌+◌, ◌-◌, ◌*◌, ◌/◌, ◌%◌, ◌^◌, ◌<◌, ◌≤◌, true, false, cond, ◌==◌, ltb, List, [], ◌∷◌, ◌++◌, length, take, drop, replicate, decimal, Ok, Err, refl, sym, ap, ◌∙◌, inl, inr, arith, append_assoc, append-nil, eq-eqb, ne_eqb, eqb-true, lt-ltb, le-ltb, le-leb, leb-true, ltb-true, ltb-false, take-append-drop, length-append}
use Rattle.std.proofs.lemmas.Bool.{and_parts, and_from}
use Rattle.std.proofs.lemmas.List.{take_at, drop_at, length-take-le, length-replicate}
use Rattle.std.proofs.lemmas.Fmt.{decimal_digit, decimal_step_wide, decimal_by_steps_wide}
use Rattle.bk_base.specs.Bounds.{AreBytes}
use Rattle.bk_base.proofs.Bytes.{AreBytes-append, AreBytes-take, AreBytes-zeros}
use Rattle.bk_wire.specs.declared.stops.Stop.TheVariants.{Short, Bad}
use Rattle.bk_wire.specs.Reading.{literal_at, goes_on, digits_at, begins, number_at, piece_at}
use Rattle.bk_wire.proofs.Codes.{IsCode, chosen, same_found}

literal_whole : (text bytes : List ℕ) (x : Unit {0}) (rest : List ℕ)
    → literal_at text bytes ≡ Ok (x, rest) → bytes ≡ text ++ rest
unfolding literal_at
literal_whole [] bytes x rest e = (same_found tt x bytes rest e).1
literal_whole (c ∷ text) [] x rest e = cc
literal_whole (c ∷ text) (b ∷ bytes) x rest e =
    elim (chosen (b == c) (literal_at text bytes) (Err Bad) (Ok (x, rest)) e) [
      | inl same ↦ (let tail = literal_whole text bytes x rest same.1 in let head = eqb-true b c same.0 in cc)
      | inr other ↦ cc
    ]

literal_again : (text rest : List ℕ) → literal_at text (text ++ rest) ≡ Ok (tt, rest)
unfolding literal_at
literal_again [] rest = refl
literal_again (c ∷ text) rest = rw (eq-eqb c c refl) (literal_again text rest)

literal_short : (text bytes : List ℕ) → literal_at text bytes ≡ Err Short → (more : List ℕ) × (bytes ++ more ≡ text)
unfolding literal_at
literal_short [] bytes e = cc
literal_short (c ∷ text) [] e = (c ∷ text, refl)
literal_short (c ∷ text) (b ∷ bytes) e =
    elim (chosen (b == c) (literal_at text bytes) (Err Bad) (Err Short) e) [
      | inl same ↦ (let (more, tail) = literal_short text bytes same.1 in let head = eqb-true b c same.0 in (more, cc))
      | inr other ↦ cc
    ]

literal_stays : (text bytes more : List ℕ) → literal_at text bytes ≡ Err Bad → literal_at text (bytes ++ more) ≡ Err Bad
unfolding literal_at
literal_stays [] bytes more e = cc
literal_stays (c ∷ text) [] more e = cc
literal_stays (c ∷ text) (b ∷ bytes) more e =
    elim (chosen (b == c) (literal_at text bytes) (Err Bad) (Err Bad) e) [
      | inl same ↦ rw same.0 (literal_stays text bytes more same.1)
      | inr other ↦ rw other.0
    ]

pub literal_code : (text : List ℕ) → IsCode (λ (x : Unit {0}). text) (λ (x : Unit {0}). Unit {0}) (literal_at text)
literal_code text = record {
  some = (tt, tt);
  whole = λ bytes x rest all e. (tt, literal_whole text bytes x rest e);
  again = λ x rest fit. literal_again text rest;
  short = λ bytes all e. let (more, split) = literal_short text bytes e in (tt, more, tt, split);
  stays = λ bytes more all e. literal_stays text bytes more e;
}

-- a text whose first byte is another
pub literal_apart : (c d : ℕ) (text bytes : List ℕ) → (d ≡ c → ⊥) → literal_at (c ∷ text) (d ∷ bytes) ≡ Err Bad
unfolding literal_at
literal_apart c d text bytes apart = rw (ne_eqb d c apart)

-- what the test of a further digit says
record GoesOn (most n b : ℕ) : Type 0 where
  above : 0 < n
  low : 48 ≤ b
  high : b ≤ 57
  fits : n * 10 + (b - 48) ≤ most

goes_on_parts : (most n b : ℕ) → goes_on most n b ≡ true → GoesOn most n b
goes_on_parts most n b e =
    let one = and_parts _ _ e in
    let two = and_parts _ _ one.1 in
    let three = and_parts _ _ two.0 in
    record {
      above = ltb-true 0 n one.0;
      low = leb-true 48 b three.0;
      high = leb-true b 57 three.1;
      fits = leb-true (n * 10 + (b - 48)) most two.1;
    }

goes_on_from : (most n b : ℕ) → GoesOn most n b → goes_on most n b ≡ true
goes_on_from most n b h =
    and_from _ _ (lt-ltb 0 n h.above)
    (and_from _ _ (and_from _ _ (le-leb 48 b h.low) (le-leb b 57 h.high))
    (le-leb (n * 10 + (b - 48)) most h.fits))

-- a further digit
decimal_more : (most n b : ℕ) → GoesOn most n b → most < 10 ^ 64 → decimal (n * 10 + (b - 48)) ≡ decimal n ++ b ∷ []
decimal_more most n b h small =
    let step = decimal_step_wide (n * 10 + (b - 48)) (omega arith) (omega arith) in
    let front : (n * 10 + (b - 48)) / 10 ≡ n = omega arith in
    let last : 48 + (n * 10 + (b - 48)) % 10 ≡ b = omega arith in
    step ∙ ap (λ k. decimal k ++ (48 + (n * 10 + (b - 48)) % 10) ∷ []) front ∙ ap (λ d. decimal n ++ d ∷ []) last

-- where the digits of n stand before the bytes
record Read (least most end n : ℕ) (text rest : List ℕ) : Type 0 where
  low : least ≤ n
  high : n ≤ most
  split : text ≡ decimal n ++ end ∷ rest

module _ (most end : ℕ) (small : most < 10 ^ 64) where
  digits_whole : (n : ℕ) (bytes : List ℕ) (m : ℕ) (rest : List ℕ) → n ≤ most
      → digits_at most end n bytes ≡ Ok (m, rest) → Read n most end m (decimal n ++ bytes) rest
  unfolding digits_at
  digits_whole n [] m rest fits e = cc
  digits_whole n (b ∷ bytes) m rest fits e =
      elim (chosen (b == end) (Ok (n, bytes))
      (cond (goes_on most n b) (digits_at most end (n * 10 + (b - 48)) bytes) (Err Bad))
      (Ok (m, rest)) e) [
        | inl ended ↦ (
            let same = same_found n m bytes rest ended.1 in
            let last = eqb-true b end ended.0 in
            record {
              low = omega (arith, same.0);
              high = omega (arith, same.0);
              split =
                  (let number = same.0 in let after = same.1 in cc);
            })
        | inr other ↦ elim
            (chosen (goes_on most n b) (digits_at most end (n * 10 + (b - 48)) bytes) (Err Bad)
            (Ok (m, rest)) other.1) [
              | inl further ↦ (
                  let digit = goes_on_parts most n b further.0 in
                  let read = digits_whole (n * 10 + (b - 48)) bytes m rest digit.fits further.1 in
                  record {
                    low = omega arith;
                    high = read.high;
                    split = sym (append_assoc (decimal n) (b ∷ []) bytes)
                        ∙ ap (λ t. t ++ bytes) (sym (decimal_more most n b digit small)) ∙ read.split;
                  })
              | inr refused ↦ cc
            ]
      ]

  digits_short : (n : ℕ) (bytes : List ℕ) → n ≤ most → digits_at most end n bytes ≡ Err Short
      → (m : ℕ) × (more : List ℕ) × Read n most end m ((decimal n ++ bytes) ++ more) []
  unfolding digits_at
  digits_short n [] fits e =
      (n, end ∷ [], record { low = omega arith; high = fits; split = ap (λ t. t ++ end ∷ []) (append-nil (decimal n)) })
  digits_short n (b ∷ bytes) fits e =
      elim (chosen (b == end) (Ok (n, bytes))
      (cond (goes_on most n b) (digits_at most end (n * 10 + (b - 48)) bytes) (Err Bad))
      (Err Short) e) [
        | inl ended ↦ cc
        | inr other ↦ elim
            (chosen (goes_on most n b) (digits_at most end (n * 10 + (b - 48)) bytes) (Err Bad)
            (Err Short) other.1) [
              | inl further ↦ (
                  let digit = goes_on_parts most n b further.0 in
                  let (m, more, read) = digits_short (n * 10 + (b - 48)) bytes digit.fits further.1 in (
                    m,
                    more,
                    record {
                      low = omega arith;
                      high = read.high;
                      split = ap (λ t. t ++ more)
                          (sym (append_assoc (decimal n) (b ∷ []) bytes)
                          ∙ ap (λ t. t ++ bytes) (sym (decimal_more most n b digit small))) ∙ read.split;
                    },
                  ))
              | inr refused ↦ cc
            ]
      ]

  digits_stays : (n : ℕ) (bytes more : List ℕ) → digits_at most end n bytes ≡ Err Bad
      → digits_at most end n (bytes ++ more) ≡ Err Bad
  unfolding digits_at
  digits_stays n [] more e = cc
  digits_stays n (b ∷ bytes) more e =
      elim (chosen (b == end) (Ok (n, bytes))
      (cond (goes_on most n b) (digits_at most end (n * 10 + (b - 48)) bytes) (Err Bad)) (Err Bad) e) [
        | inl ended ↦ cc
        | inr other ↦ elim
            (chosen (goes_on most n b) (digits_at most end (n * 10 + (b - 48)) bytes) (Err Bad)
            (Err Bad) other.1) [
              | inl further ↦ rw (other.0, further.0) (digits_stays (n * 10 + (b - 48)) bytes more further.1)
              | inr refused ↦ rw (other.0, refused.0)
            ]
      ]

-- what the test of a first digit says
record Begins (least most b : ℕ) : Type 0 where
  low : 48 ≤ b
  high : b ≤ 57
  above : least ≤ b - 48
  fits : b - 48 ≤ most

begins_parts : (least most b : ℕ) → begins least most b ≡ true → Begins least most b
begins_parts least most b e =
    let one = and_parts _ _ e in
    let two = and_parts _ _ one.0 in
    let three = and_parts _ _ one.1 in
    record {
      low = leb-true 48 b two.0;
      high = leb-true b 57 two.1;
      above = leb-true least (b - 48) three.0;
      fits = leb-true (b - 48) most three.1;
    }

begins_from : (least most b : ℕ) → Begins least most b → begins least most b ≡ true
begins_from least most b h =
    and_from _ _ (and_from _ _ (le-leb 48 b h.low) (le-leb b 57 h.high))
    (and_from _ _ (le-leb least (b - 48) h.above) (le-leb (b - 48) most h.fits))

-- one digit is the text of its value
first_digit : (least most b : ℕ) → Begins least most b → decimal (b - 48) ≡ b ∷ []
first_digit least most b h =
    let whole : 48 + (b - 48) ≡ b = omega (arith, h.low) in
    decimal_digit (b - 48) (omega (arith, h.high)) ∙ ap (λ d. d ∷ []) whole

module _ (least most end : ℕ) (small : most < 10 ^ 64) (low : least ≤ 1) (high : 9 ≤ most) (apart : end < 48) where
  number_whole : (bytes : List ℕ) (m : ℕ) (rest : List ℕ)
      → number_at least most end bytes ≡ Ok (m, rest) → Read least most end m bytes rest
  unfolding number_at
  number_whole [] m rest e = cc
  number_whole (b ∷ bytes) m rest e =
      elim (chosen (begins least most b) (digits_at most end (b - 48) bytes) (Err Bad) (Ok (m, rest)) e) [
        | inl first ↦ (
            let begun = begins_parts least most b first.0 in
            let read = digits_whole most end small (b - 48) bytes m rest begun.fits first.1 in
            record {
              low = omega (arith, begun.above, read.low);
              high = read.high;
              split = ap (λ t. t ++ bytes) (sym (first_digit least most b begun)) ∙ read.split;
            })
        | inr refused ↦ cc
      ]

  number_short : (bytes : List ℕ) → number_at least most end bytes ≡ Err Short → (m : ℕ)
      × (more : List ℕ) × Read least most end m (bytes ++ more) []
  unfolding number_at
  number_short [] e = (most, decimal most ++ end ∷ [], record { low = omega arith; high = omega arith; split = refl })
  number_short (b ∷ bytes) e =
      elim (chosen (begins least most b) (digits_at most end (b - 48) bytes) (Err Bad) (Err Short) e) [
        | inl first ↦ (
            let begun = begins_parts least most b first.0 in
            let (m, more, read) = digits_short most end small (b - 48) bytes begun.fits first.1 in (
              m,
              more,
              record {
                low = omega (arith, begun.above, read.low);
                high = read.high;
                split = ap (λ t. (t ++ bytes) ++ more) (sym (first_digit least most b begun)) ∙ read.split;
              },
            ))
        | inr refused ↦ cc
      ]

  number_stays : (bytes more : List ℕ) → number_at least most end bytes ≡ Err Bad
      → number_at least most end (bytes ++ more) ≡ Err Bad
  unfolding number_at
  number_stays [] more e = cc
  number_stays (b ∷ bytes) more e =
      elim (chosen (begins least most b) (digits_at most end (b - 48) bytes) (Err Bad) (Err Bad) e) [
        | inl first ↦ rw first.0 (digits_stays most end small (b - 48) bytes more first.1)
        | inr refused ↦ rw refused.0
      ]

  -- after its digits a number is what was read
  abbrev Digits : ℕ → List ℕ → Type 0
  Digits n ds = least ≤ n → n ≤ most → (rest : List ℕ)
      → number_at least most end (ds ++ rest) ≡ digits_at most end n rest

  one_digit : (n : ℕ) → n < 10 → Digits n ((48 + n) ∷ [])
  unfolding number_at
  one_digit n one least_n most_n rest =
      let back : 48 + n - 48 ≡ n = omega arith in
      let begun : begins least most (48 + n) ≡ true =
      begins_from least most (48 + n)
      (record { low = omega arith; high = omega arith; above = omega arith; fits = omega arith }) in
      rw begun (ap (λ k. digits_at most end k rest) back)

  last_digit : (n d : ℕ) (rest : List ℕ) → GoesOn most n (48 + d) → d < 10
      → digits_at most end n ((48 + d) ∷ rest) ≡ digits_at most end (n * 10 + d) rest
  unfolding digits_at
  last_digit n d rest h one =
      let other : (48 + d == end) ≡ false = ne_eqb (48 + d) end (λ e. omega arith) in
      let back : n * 10 + (48 + d - 48) ≡ n * 10 + d = omega arith in
      rw (other, goes_on_from most n (48 + d) h) (ap (λ k. digits_at most end k rest) back)

  more_digits : (n : ℕ) (ds : List ℕ) → 10 ≤ n → Digits (n / 10) ds → Digits n (ds ++ ((48 + n % 10) ∷ []))
  more_digits n ds ten before least_n most_n rest =
      let whole : n / 10 * 10 + n % 10 ≡ n = omega arith in
      ap (λ t. number_at least most end t) (append_assoc ds ((48 + n % 10) ∷ []) rest)
      ∙ before (omega arith) (omega arith) ((48 + n % 10) ∷ rest)
      ∙ last_digit (n / 10) (n % 10) rest
      (record { above = omega arith; low = omega arith; high = omega arith; fits = omega arith })
      (omega arith)
      ∙ ap (λ k. digits_at most end k rest) whole

  ends : (n : ℕ) (rest : List ℕ) → digits_at most end n (end ∷ rest) ≡ Ok (n, rest)
  unfolding digits_at
  ends n rest = rw (eq-eqb end end refl)

  number_again : (n : ℕ) (rest : List ℕ) → (least ≤ n) × (n ≤ most)
      → number_at least most end ((decimal n ++ end ∷ []) ++ rest) ≡ Ok (n, rest)
  number_again n rest fits =
      ap (λ t. number_at least most end t) (append_assoc (decimal n) (end ∷ []) rest)
      ∙ decimal_by_steps_wide Digits one_digit more_digits n (omega arith) fits.0 fits.1 (end ∷ rest)
      ∙ ends n rest

  pub number_code : IsCode (λ n. decimal n ++ end ∷ []) (λ n. (least ≤ n) × (n ≤ most)) (number_at least most end)
  number_code = record {
    some = (most, (omega arith, omega arith));
    whole = λ bytes n rest all e.
        let read = number_whole bytes n rest e in
        ((read.low, read.high), read.split ∙ sym (append_assoc (decimal n) (end ∷ []) rest));
    again = number_again;
    short = λ bytes all e.
        let (n, more, read) = number_short bytes e in
        (n, more, (read.low, read.high), read.split);
    stays = λ bytes more all e. number_stays bytes more e;
  }

pub piece_code : (n : ℕ)
    → IsCode (λ (piece : List ℕ). piece) (λ piece. (length piece ≡ n) × AreBytes piece) (piece_at n)
unfolding piece_at
piece_code n = record {
  some = (replicate n 0, (length-replicate {A = ℕ} n 0, AreBytes-zeros n));
  whole = λ bytes piece rest all e.
      elim (chosen (ltb (length bytes) n) (Err Short) (Ok (take n bytes, drop n bytes)) (Ok (piece, rest)) e) [
        | inl less ↦ cc
        | inr enough ↦ (
            let same = same_found (take n bytes) piece (drop n bytes) rest enough.1 in
            let room = ltb-false (length bytes) n enough.0 in
            rw (← same.0) (
              (length-take-le n bytes room, AreBytes-take n bytes all),
              sym (take-append-drop n bytes) ∙ ap (λ t. take n bytes ++ t) same.1,
            ))
      ];
  again = λ piece rest fit.
      let room = le-ltb (length (piece ++ rest)) n (omega (arith, length-append piece rest, fit.0)) in
      rw (room, take_at piece rest n fit.0, drop_at piece rest n fit.0);
  short = λ bytes all e.
      elim (chosen (ltb (length bytes) n) (Err Short) (Ok (take n bytes, drop n bytes)) (Err Short) e) [
        | inl less ↦ (
            let room = ltb-true (length bytes) n less.0 in
            let more = replicate {A = ℕ} (n - length bytes) 0 in (
              bytes ++ more,
              more,
              (
                omega (
                  arith,
                  length-append bytes more,
                  length-replicate {A = ℕ} (n - length bytes) 0,
                ),
                AreBytes-append bytes more all (AreBytes-zeros (n - length bytes)),
              ),
              refl,
            ))
        | inr enough ↦ cc
      ];
  stays = λ bytes more all e.
      elim (chosen (ltb (length bytes) n) (Err Short) (Ok (take n bytes, drop n bytes)) (Err Bad) e) [
        | inl less ↦ cc
        | inr enough ↦ cc
      ];
}
