-- How a read that comes in pieces fills a slice.
use Rattle.std.proofs.Common.{◌≡◌, ◌∙◌, ℕ, ◌+◌, ◌≤◌, List, ◌++◌, length, take, drop, refl, sym, ap, arith}
use Rattle.std.proofs.lemmas.List.{take-take, length-take-le}
use Rattle.std.proofs.lemmas.Slice.{take-put_mid}
use Rattle.std.proofs.Math.Seq.{take-append-add, take-add}
use borrow.Rule.Slice.PartMut.{put_mid}

-- a slice that is filled as far as n bytes behind a, where a read put them
pub filled : (a k n : ℕ) (xs ys left : List ℕ) → a ≤ length xs → length ys ≡ k → n ≤ k → take a xs ≡ take a left
    → take n ys ≡ take n (drop a left) → take (a + n) (put_mid a k xs ys) ≡ take (a + n) left
filled a k n xs ys left within long few same read =
    let few_more : a + n ≤ a + length ys = omega arith in
    let here : length (take a xs) ≡ a = length-take-le a xs within in
    sym (take-take (a + n) (a + length ys) (put_mid a k xs ys) few_more)
    ∙ ap (λ (l : List ℕ). take (a + n) l) (take-put_mid a k xs ys (a + length ys) refl within)
    ∙ ap (λ (m : ℕ). take (m + n) (take a xs ++ ys)) (sym here)
    ∙ take-append-add (take a xs) ys n
    ∙ ap (λ (l : List ℕ). l ++ take n ys) same
    ∙ ap (λ (l : List ℕ). take a left ++ l) read
    ∙ sym (take-add a n left)
