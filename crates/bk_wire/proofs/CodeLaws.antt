-- What a code says of the texts of its values: none begins another, and some bytes are the front of a text, a
-- text and a rest, or neither, however they go on.
use Rattle.std.proofs.Common.{◌≡◌, ℕ, ◌<◌, List, [], ◌++◌, ◌+◌, ◌-◌, length, drop, Result, Ok, Err, sym, ap, ◌∙◌, inl, inr, arith, append_assoc, append-nil, length-append}
use Rattle.std.proofs.lemmas.List.{nil_from_length, drop_at}
use Rattle.std.proofs.lemmas.Bool.{cases_lt}
use Rattle.bk_base.specs.Bounds.{AreBytes}
use Rattle.bk_wire.specs.declared.stops.Stop.{Stop}
use Rattle.bk_wire.specs.declared.stops.Stop.TheVariants.{Short, Bad}
use Rattle.bk_wire.proofs.Codes.{IsCode, same_found}

module _ {A : Type 0} {text : A → List ℕ} {fits : A → Type 0} {read : List ℕ → Result (A × List ℕ) Stop}
    (code : IsCode text fits read) where
  read_again : (bytes : List ℕ) (a : A) (rest : List ℕ) → fits a → bytes ≡ text a ++ rest → read bytes ≡ Ok (a, rest)
  read_again bytes a rest fit whole = ap read whole ∙ code.again a rest fit

  pub cut_off : (bytes : List ℕ) → AreBytes bytes → read bytes ≡ Err Short
      → (a : A) × (more : List ℕ) × fits a × (0 < length more) × (bytes ++ more ≡ text a)
  cut_off bytes all e =
      let (a, more, fit, goes_on) = code.short bytes all e in
      elim (cases_lt 0 (length more)) [
        | inl some ↦ (a, more, fit, some, goes_on)
        | inr none ↦ absurd (whole a more fit goes_on (omega (arith, none)))
      ]
    where
      whole : (a : A) (more : List ℕ) → fits a → bytes ++ more ≡ text a → length more ≡ 0 → ⊥
      whole a more fit goes_on none =
          let nothing = nil_from_length more none in
          let all_of : bytes ≡ text a ++ [] = sym (append-nil bytes)
          ∙ ap (λ m. bytes ++ m) (sym nothing) ∙ goes_on ∙ sym (append-nil (text a)) in
          let again = read_again bytes a [] fit all_of in
          cc

  pub never : (bytes : List ℕ) → AreBytes bytes → read bytes ≡ Err Bad → (more : List ℕ) (a : A)
      (rest : List ℕ) → fits a → bytes ++ more ≡ text a ++ rest → ⊥
  never bytes all e more a rest fit whole =
      let refused = code.stays bytes more all e in
      let again = read_again (bytes ++ more) a rest fit whole in
      cc

  -- no text begins another
  pub one_text : (a b : A) (xs ys : List ℕ) → fits a → fits b → text a ++ xs ≡ text b ++ ys → (a ≡ b) × (xs ≡ ys)
  one_text a b xs ys fit_a fit_b e =
      same_found a b xs ys (sym (code.again a xs fit_a) ∙ ap read e ∙ code.again b ys fit_b)

  -- the front of a text, and not all of it, has no text at its own front
  pub none_in_front : (bytes : List ℕ) (a : A) (more : List ℕ) (b : A) (rest : List ℕ) → fits a → 0 < length more
      → bytes ++ more ≡ text a → fits b → bytes ≡ text b ++ rest → ⊥
  none_in_front bytes a more b rest fit_a some goes_on fit_b whole =
      let together : text b ++ (rest ++ more) ≡ text a ++ [] =
      sym (append_assoc (text b) rest more)
      ∙ ap (λ t. t ++ more) (sym whole) ∙ goes_on ∙ sym (append-nil (text a)) in
      let same = one_text b a (rest ++ more) [] fit_b fit_a together in
      absurd (omega (arith, ap length same.1, length-append rest more, some))

  pub rest_length : (bytes : List ℕ) (a : A) (rest : List ℕ) → AreBytes bytes → read bytes ≡ Ok (a, rest)
      → length bytes ≡ length (text a) + length rest
  rest_length bytes a rest all e = ap length (code.whole bytes a rest all e).1 ∙ length-append (text a) rest

  -- where a text was found, and how many bytes it has
  pub found_here : (bytes : List ℕ) (a : A) (rest : List ℕ) → AreBytes bytes → read bytes ≡ Ok (a, rest)
      → fits a × (bytes ≡ text a ++ drop (length bytes - length rest) bytes)
      × (length bytes - length rest ≡ length (text a))
  found_here bytes a rest all e =
      let (fit, whole) = code.whole bytes a rest all e in
      let size : length bytes - length rest ≡ length (text a) = omega (arith, rest_length bytes a rest all e) in
      let after : drop (length bytes - length rest) bytes ≡ rest =
      ap (λ s. drop (length bytes - length rest) s) whole
      ∙ drop_at (text a) rest (length bytes - length rest) (sym size) in
      (fit, whole ∙ ap (λ r. text a ++ r) (sym after), size)
