-- The items of a loop over a slice, and those before.
use Rattle.std.proofs.Common.{◌≡◌, ◌⊎◌, ℕ, zero, suc, ◌+◌, ◌<◌, List, [], ◌∷◌, ◌++◌, length, get_or, take, refl, sym, ap, subst, ◌∙◌, inl, inr, arith}
use Rattle.std.proofs.lemmas.List.{take_more}
use Rattle.bk_base.specs.declared.numbers.FileId.{FileId}
use Rattle.bk_image.specs.Readings.{In}
use Rattle.bk_image.proofs.Lists.{in-append}
use Rattle.bk_swap.specs.Lists.{numbers}

pub in_get : {X : Type 0} (xs : List X) (i : ℕ) (d : X) → i < length xs → In (get_or xs i d) xs
in_get [] i d low = absurd (omega arith)
in_get (x ∷ xs) zero d low = inl refl
in_get (x ∷ xs) (suc i) d low = inr (in_get xs i d (omega arith))

pub in_numbers : (xs : List FileId) (i : ℕ) (d : FileId) → i < length xs → In (get_or xs i d).0 (numbers xs)
in_numbers [] i d low = absurd (omega arith)
in_numbers (x ∷ xs) zero d low = inl refl
in_numbers (x ∷ xs) (suc i) d low = inr (in_numbers xs i d (omega arith))

numbers_behind : (xs : List FileId) (x : FileId) → numbers (xs ++ x ∷ []) ≡ numbers xs ++ x.0 ∷ []
numbers_behind [] x = refl
numbers_behind (y ∷ ys) x = ap (λ (ns : List ℕ). y.0 ∷ ns) (numbers_behind ys x)

pub numbers_more : (xs : List FileId) (i : ℕ) (d : FileId) → i < length xs
    → numbers (take (i + 1) xs) ≡ numbers (take i xs) ++ (get_or xs i d).0 ∷ []
numbers_more xs i d low = ap numbers (take_more xs i d low) ∙ numbers_behind (take i xs) (get_or xs i d)

pub in_more : {X : Type 0} (x : X) (xs : List X) (i : ℕ) (d : X) → i < length xs → In x (take (i + 1) xs)
    → In x (take i xs) ⊎ (x ≡ get_or xs i d)
in_more x xs i d low is_in =
    elim (in-append x (take i xs) (get_or xs i d ∷ []) (subst (λ ys. In x ys) (take_more xs i d low) is_in)) [
      | inl before ↦ inl before
      | inr here ↦ inr (one here)
    ] where
      one : {X : Type 0} {x y : X} → In x (y ∷ []) → x ≡ y
      one (inl is) = is
      one (inr none) = absurd none

-- where a number stands among the ids
pub numbers_place : (xs : List FileId) (n : ℕ) (d : FileId) → In n (numbers xs)
    → (k : ℕ) × (k < length xs) × ((get_or xs k d).0 ≡ n)
numbers_place [] n d is_in = absurd is_in
numbers_place (x ∷ xs) n d (inl is) = (zero, omega arith, sym is)
numbers_place (x ∷ xs) n d (inr later) =
    let (k, low, is) = numbers_place xs n d later in (suc k, omega (arith, low), is)
