-- What a search finds.
use Rattle.std.proofs.Common.{◌≡◌, ℕ, suc, ◌+◌, Bool, List, [], ◌∷◌, sym, ◌∙◌, arith, subst, inl, inr}
use Rattle.std.specs.List.{position, position_from}
use Rattle.std.specs.declared.option.Option.TheVariants.{Some}
use Rattle.std.proofs.lemmas.Bool.{cases_Bool}
use Rattle.std.proofs.lemmas.Iterator.Adapters.{position_from-zero}
use Rattle.bk_base.specs.Places.{IsFirstOf}

found_from : {X : Type 0} (test : X → Bool) (j i : ℕ) (xs : List X) → position_from test j xs ≡ Some i
    → (k : ℕ) × (i ≡ j + k) × IsFirstOf test xs k
found_from test j i [] h = absurd (cc h)
found_from test j i (x ∷ xs) h =
    elim (cases_Bool (test x)) [
      | inl p ↦ let is : Some j ≡ Some i = rw p at h in
          let same_place : i ≡ j = cc is in
          (0, omega (arith, same_place), p)
      | inr p ↦ let k = found_from test (j + 1) i xs (rw p at h) in (suc k.0, omega (arith, k.1), (p, k.2))
    ]

pub found : {X : Type 0} (test : X → Bool) (xs : List X) (i : ℕ) → position test xs ≡ Some i → IsFirstOf test xs i
found test xs i is =
    let k = found_from test 0 i xs (sym (position_from-zero test xs) ∙ is) in
    let at_place : k.0 ≡ i = omega (arith, k.1) in
    subst (λ j. IsFirstOf test xs j) at_place k.2
