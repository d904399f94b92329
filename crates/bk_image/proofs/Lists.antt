-- What stands in a list.
use Rattle.std.proofs.Common.{List, [], ◌∷◌, ◌++◌, ◌⊎◌, inl, inr}
use Rattle.bk_image.specs.Readings.{In}

pub in-append_left : {X : Type 0} (x : X) (xs ys : List X) → In x xs → In x (xs ++ ys)
in-append_left x [] ys h = absurd h
in-append_left x (z ∷ xs) ys (inl is) = inl is
in-append_left x (z ∷ xs) ys (inr later) = inr (in-append_left x xs ys later)

pub in-append_right : {X : Type 0} (x : X) (xs ys : List X) → In x ys → In x (xs ++ ys)
in-append_right x [] ys h = h
in-append_right x (z ∷ xs) ys h = inr (in-append_right x xs ys h)

pub in-append : {X : Type 0} (x : X) (xs ys : List X) → In x (xs ++ ys) → In x xs ⊎ In x ys
in-append x [] ys h = inr h
in-append x (z ∷ xs) ys (inl is) = inl (inl is)
in-append x (z ∷ xs) ys (inr later) =
    elim (in-append x xs ys later) [ inl left ↦ inl (inr left) | inr right ↦ inr right ]
