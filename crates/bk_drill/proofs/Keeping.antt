-- Lists in which nothing is counted.
use Rattle.std.proofs.Common.{◌≡◌, ℕ, zero, suc, List, [], ◌∷◌, refl, inl, inr}
use Rattle.std.specs.List.{AllClonesOf}
use Rattle.bk_drill.specs.Loans.{tally_in}

-- each is 0, or a clone of it
pub zeros : (ys : List ℕ) → AllClonesOf (λ x y. y ≡ x) 0 ys → (n : ℕ) → tally_in ys n ≡ 0
zeros [] all n = refl
zeros (y ∷ ys) all zero = elim all.0 [ inl is ↦ is | inr clone ↦ clone ]
zeros (y ∷ ys) all (suc n) = zeros ys all.1 n
