-- The test that each name stands once says so.
use Rattle.std.proofs.Common.{◌≡◌, true, false, IsTrue, List, [], ◌∷◌, refl, ◌∙◌, ap, arith, inl, inr}
use Rattle.std.proofs.lemmas.Bool.{cases_Bool}
use Rattle.bk_base.specs.declared.names.Name.{Name}
use Rattle.bk_disk.specs.Names.{same}
use Rattle.bk_disk.specs.Told.{Told, names, IsNotIn, IsOnce, IsWell}
use Rattle.bk_disk.proofs.Names.{same_refl, same_eq}
use Rattle.bk_disk.specs.Well.{stands_in, are_once, are_same, is_well}

not_in : (n : Name) (ms : List Name) → stands_in n ms ≡ false → IsNotIn n ms
not_in n [] h = tt
not_in n (m ∷ ms) h =
    elim (cases_Bool (same n m))
    [ inl p ↦ absurd (grind (arith, p, h)) | inr p ↦ (p, not_in n ms (grind (arith, p, h))) ]

in_none : (n : Name) (ms : List Name) → IsNotIn n ms → stands_in n ms ≡ false
in_none n [] h = refl
in_none n (m ∷ ms) h = rw h.0 (in_none n ms h.1)

once_from : (ns : List Name) → are_once ns ≡ true → IsOnce ns
once_from [] h = tt
once_from (n ∷ ns) h =
    elim (cases_Bool (stands_in n ns)) [
      | inl p ↦ absurd (grind (arith, p, h))
      | inr p ↦
          (not_in n ns p, once_from ns (grind (arith, p, h)))
    ]

once_to : (ns : List Name) → IsOnce ns → are_once ns ≡ true
once_to [] h = refl
once_to (n ∷ ns) h = rw (in_none n ns h.0) (once_to ns h.1)

same_from : (ms ns : List Name) → are_same ms ns ≡ true → ms ≡ ns
same_from [] [] h = refl
same_from [] (n ∷ ns) h = absurd (cc h)
same_from (m ∷ ms) [] h = absurd (cc h)
same_from (m ∷ ms) (n ∷ ns) h =
    elim (cases_Bool (same m n)) [
      | inl p ↦ ap (λ k. k ∷ ms) (same_eq m n p) ∙ ap (λ ks. n ∷ ks) (same_from ms ns (grind (arith, p, h)))
      | inr p ↦ absurd (grind (arith, p, h))
    ]

same_all : (ns : List Name) → are_same ns ns ≡ true
same_all [] = refl
same_all (n ∷ ns) = rw (same_refl n) (same_all ns)

pub from_test : (t : Told) → IsTrue (is_well t) → IsWell t
from_test t h =
    elim (cases_Bool (are_once (names t.image))) [
      | inl p ↦ record {
        once = once_from (names t.image) p;
        paired = same_from (names t.fronts) (names t.image) (grind (arith, p, h));
      }
      | inr p ↦ absurd (grind (arith, p, h))
    ]

pub to_test : (t : Told) → IsWell t → IsTrue (is_well t)
to_test t w = rw (once_to (names t.image) w.once, w.paired) (same_all (names t.image))
