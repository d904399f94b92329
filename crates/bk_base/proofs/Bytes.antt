-- Lists of bytes: their parts, and what is joined of them.
use Rattle.std.proofs.Common.{◌≡◌, ℕ, zero, suc, ◌+◌, ◌<◌, List, [], ◌∷◌, ◌++◌, length, replicate, take, drop, inl, inr, sym, ◌∙◌, arith}
use Rattle.std.proofs.Common.{get_or-append-add, take-append-drop}
use Rattle.std.specs.List.{All}
use Rattle.std.proofs.lemmas.Bool.{cases_lt}
use Rattle.std.proofs.lemmas.List.{drop-drop, length-take, length-replicate}
use Rattle.std.proofs.lemmas.List.{get_or-drop, get_or-take, get_or_past, get_or_default, get_or_append_left, get_or-replicate}
use Rattle.bk_base.specs.Bounds.{AreBytes}

pub AreBytes-append : (xs ys : List ℕ) → AreBytes xs → AreBytes ys → AreBytes (xs ++ ys)
AreBytes-append [] ys p q i = q i
AreBytes-append (x ∷ xs) ys p q zero = p 0
AreBytes-append (x ∷ xs) ys p q (suc i) = AreBytes-append xs ys (λ j. p (suc j)) q i

-- the front and the back of a joined list
pub AreBytes-front : (xs ys : List ℕ) → AreBytes (xs ++ ys) → AreBytes xs
AreBytes-front xs ys all i =
    elim (cases_lt i (length xs)) [
      | inl within ↦ omega (arith, get_or_append_left xs ys 0 i within, all i)
      | inr past ↦ omega (arith, get_or_past xs i 0 past)
    ]

pub AreBytes-back : (xs ys : List ℕ) → AreBytes (xs ++ ys) → AreBytes ys
AreBytes-back xs ys all i = omega (arith, get_or-append-add xs ys i 0, all (length xs + i))

pub AreBytes-drop : (n : ℕ) (bytes : List ℕ) → AreBytes bytes → AreBytes (drop n bytes)
AreBytes-drop n bytes h i = rw get_or-drop (h (n + i))

pub AreBytes-take : (n : ℕ) (bytes : List ℕ) → AreBytes bytes → AreBytes (take n bytes)
AreBytes-take n bytes h i =
    elim (cases_lt i n) [
      | inl lt ↦ rw (get_or-take n bytes i 0 lt) (h i)
      | inr le ↦ rw (get_or_past (take n bytes) i 0 (omega (arith, length-take n bytes))) (omega arith)
    ]

pub AreBytes-zeros : (n : ℕ) → AreBytes (replicate n 0)
AreBytes-zeros n i =
    elim (cases_lt i n) [
      | inl within ↦ omega (arith, get_or-replicate {A = ℕ} n i 0 0 within)
      | inr past ↦ omega (arith, get_or_past {X = ℕ} (replicate n 0) i 0 (omega (arith, length-replicate {A = ℕ} n 0)))
    ]

pub All-from_AreBytes : (bytes : List ℕ) → AreBytes bytes → All (λ b. b < 256) bytes
All-from_AreBytes bytes h i d below = rw (get_or_default bytes i d 0 below) (h i)

-- what stands at n, and then the rest
pub drop-cut : (n k : ℕ) (bytes x : List ℕ) → x ≡ take k (drop n bytes) → drop n bytes ≡ x ++ drop (n + k) bytes
drop-cut n k bytes x e = sym (take-append-drop k (drop n bytes)) ∙ (λ i. sym e i ++ drop-drop k n bytes i)
