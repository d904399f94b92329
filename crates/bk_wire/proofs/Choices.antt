-- One of several codes, by kinds: each kind has a code, and its reader refuses the texts of the later kinds.
use Rattle.std.proofs.Common.{◌≡◌, ℕ, zero, suc, ◌+◌, ◌<◌, ◌≤◌, Bool, true, false, cond, ◌==◌, ◌&&◌, ◌⊎◌, List, [], ◌∷◌, ◌++◌, Result, Ok, Err}
use Rattle.std.proofs.Common.{refl, ap, ◌∙◌, inl, inr, arith}
use Rattle.std.proofs.lemmas.Bool.{and_parts, cases_lt}
use Rattle.bk_base.specs.Bounds.{AreBytes}
use Rattle.bk_wire.specs.declared.stops.Stop.{Stop}
use Rattle.bk_wire.specs.declared.stops.Stop.TheVariants.{Short, Bad}
use Rattle.bk_wire.specs.Reading.{literal_at, made, or_else}
use Rattle.bk_wire.proofs.Codes.{IsCode, chosen, same_found, bind_ok, bind_err, recoded, either_code}

-- what is read is made into another value, by a code for the values that are made so
module _ {A B : Type 0} (make : B → A) {text1 : B → List ℕ} {fits1 : B → Type 0}
    {read1 : List ℕ → Result (B × List ℕ) Stop} (text : A → List ℕ) (fits : A → Type 0)
    (code : IsCode text1 fits1 read1) (to : (b : B) → fits1 b → fits (make b))
    (from : (a : A) → fits a → (b : B) × (a ≡ make b) × fits1 b)
    (same : (b : B) → fits1 b → text1 b ≡ text (make b)) where
  made_whole : (bytes : List ℕ) (a : A) (rest : List ℕ) → AreBytes bytes → made make (read1 bytes) ≡ Ok (a, rest)
      → fits a × (bytes ≡ text a ++ rest)
  made_whole bytes a rest all e =
      let (x, first, second) = bind_ok (read1 bytes) (λ x. Ok (make x.0, x.1)) (a, rest) e in
      let is = same_found (make x.0) a x.1 rest second in
      let (fit, split) = code.whole bytes x.0 x.1 all first in
      rw (← is.0) (to x.0 fit, split ∙ ap (λ t. t ++ x.1) (same x.0 fit) ∙ ap (λ r. text (make x.0) ++ r) is.1)

  made_again : (a : A) (rest : List ℕ) → fits a → made make (read1 (text a ++ rest)) ≡ Ok (a, rest)
  made_again a rest fit =
      let (b, is, fit1) = from a fit in
      rw (is, ← same b fit1, code.again b rest fit1) refl

  made_short : (bytes : List ℕ) → AreBytes bytes → made make (read1 bytes) ≡ Err Short
      → (a : A) × (more : List ℕ) × fits a × (bytes ++ more ≡ text a)
  made_short bytes all e =
      elim (bind_err (read1 bytes) (λ x. Ok (make x.0, x.1)) Short e) [
        | inl first ↦ (let (b, more, fit, split) =
            code.short bytes all first in (make b, more, to b fit, split ∙ same b fit))
        | inr second ↦ (let wrong = second.2 in cc)
      ]

  made_stays : (bytes more : List ℕ) → AreBytes bytes → made make (read1 bytes) ≡ Err Bad
      → made make (read1 (bytes ++ more)) ≡ Err Bad
  made_stays bytes more all e =
      elim (bind_err (read1 bytes) (λ x. Ok (make x.0, x.1)) Bad e) [
        | inl first ↦ rw (code.stays bytes more all first)
        | inr second ↦ (let wrong = second.2 in cc)
      ]

  pub made_code : IsCode text fits (λ bytes. made make (read1 bytes))
  made_code = record {
    some = (make code.some.0, to code.some.0 code.some.1);
    whole = made_whole;
    again = made_again;
    short = made_short;
    stays = made_stays;
  }

-- ---- kinds

module _ {A : Type 0} (text : A → List ℕ) (fits : A → Type 0) (kind : A → ℕ) where
  abbrev pub IsKind : ℕ → A → Type 0
  IsKind n a = fits a × (kind a ≡ n)

  abbrev pub IsFrom : ℕ → A → Type 0
  IsFrom n a = fits a × (n ≤ kind a)

  from_kind : (n : ℕ) (a : A) → IsKind n a ⊎ IsFrom (n + 1) a → IsFrom n a
  from_kind n a (inl is) = (is.0, omega (arith, is.1))
  from_kind n a (inr later) = (later.0, omega (arith, later.1))

  to_kind : (n : ℕ) (a : A) → IsFrom n a → IsKind n a ⊎ IsFrom (n + 1) a
  to_kind n a from =
      elim (cases_lt n (kind a)) [
        | inl later ↦ inr (from.0, omega (arith, later))
        | inr here ↦ inl (from.0, omega (arith, here, from.1))
      ]

  -- a kind, or a later one
  pub from_code : (n : ℕ) {read1 read2 : List ℕ → Result (A × List ℕ) Stop}
      → IsCode text (IsKind n) read1 → IsCode text (IsFrom (n + 1)) read2
      → ((a : A) (rest : List ℕ) → n < kind a → read1 (text a ++ rest) ≡ Err Bad)
      → IsCode text (IsFrom n) (λ bytes. or_else (read1 bytes) (read2 bytes))
  from_code n {read1} {read2} one two apart =
      recoded (from_kind n) (to_kind n) (λ a _. refl)
      (either_code text (IsKind n) (IsFrom (n + 1)) read1 read2 one two
      (λ a rest fit. apart a rest (omega (arith, fit.1))))

  -- the last kind
  pub last_code : (n : ℕ) {read : List ℕ → Result (A × List ℕ) Stop} → ((a : A) → kind a ≤ n)
      → IsCode text (IsKind n) read → IsCode text (IsFrom n) read
  last_code n last one =
      recoded (λ a is. (is.0, omega (arith, is.1)))
      (λ a from. (from.0, omega (arith, from.1, last a))) (λ a _. refl) one

-- ---- texts that differ

-- the bytes differ from the word at a place that both have
unfoldable pub refuses : List ℕ → List ℕ → Bool
refuses [] bytes = false
refuses (c ∷ word) [] = false
refuses (c ∷ word) (b ∷ bytes) = cond (b == c) (refuses word bytes) true

pub refused : (word bytes rest : List ℕ) → refuses word bytes ≡ true → literal_at word (bytes ++ rest) ≡ Err Bad
unfolding refuses literal_at
refused [] bytes rest e = cc
refused (c ∷ word) [] rest e = cc
refused (c ∷ word) (b ∷ bytes) rest e =
    elim (chosen (b == c) (refuses word bytes) true true e) [
      | inl same ↦ rw same.0 (refused word bytes rest same.1)
      | inr other ↦ rw other.0
    ]

-- a test that passes at each number below n
unfoldable pub all_below : ℕ → (ℕ → Bool) → Bool
all_below zero test = true
all_below (suc n) test = test n && all_below n test

pub below : (n : ℕ) (test : ℕ → Bool) (k : ℕ) → all_below n test ≡ true → k < n → test k ≡ true
unfolding all_below
below zero test k all lt = absurd (omega (arith, lt))
below (suc n) test k all lt =
    let parts = and_parts (test n) (all_below n test) all in
    elim (cases_lt k n) [
      | inl less ↦ below n test k parts.1 less
      | inr last ↦ (let is : k ≡ n = omega (arith, lt, last) in rw is parts.0)
    ]
