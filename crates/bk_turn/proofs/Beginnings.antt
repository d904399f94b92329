-- Beginnings of one list, the longer of two, and own steps.
use Rattle.std.proofs.Common.{◌≡◌, ◌==◌, ℕ, zero, suc, ◌<◌, ◌≤◌, Bool, true, false, List, [], ◌∷◌, ◌++◌, length, nat_lt, if◌then◌else◌, Some, slice_get, refl, ap, sym, ◌∙◌, arith, append_assoc, length-append, ◌⊎◌, inl, inr, ⊎_elim, ◌≢◌, eq-eqb, ne_eqb}
use Rattle.std.proofs.lemmas.List.{append-nil}
use Rattle.std.proofs.lemmas.List.Elements.{filter-append}
use Rattle.std.proofs.lemmas.Bool.Decides.{nat_tests}
use mathlib.Core.List.{IsPrefix}
use Rattle.bk_base.specs.declared.histories.Step.{Step}
use Rattle.bk_turn.specs.History.{own, longer}

module _ {A : Type 0} where
  -- each list begins with itself
  pub prefix_self : (xs : List A) → IsPrefix xs xs
  prefix_self xs = ([], append-nil xs)

  -- the empty list begins each list
  pub prefix_none : (xs : List A) → IsPrefix [] xs
  prefix_none xs = (xs, refl)

  pub prefix_trans : (xs ys zs : List A) → IsPrefix xs ys → IsPrefix ys zs → IsPrefix xs zs
  prefix_trans xs ys zs p q = (p.0 ++ q.0, sym (append_assoc xs p.0 q.0) ∙ (ap (λ w. w ++ q.0) p.1 ∙ q.1))

  -- what is added behind keeps a beginning
  pub prefix_more : (xs ys more : List A) → IsPrefix xs ys → IsPrefix xs (ys ++ more)
  prefix_more xs ys more p = (p.0 ++ more, sym (append_assoc xs p.0 more) ∙ ap (λ w. w ++ more) p.1)

  -- of two beginnings of one list the shorter begins the longer
  pub prefix_shorter : (xs ys zs : List A) → IsPrefix xs zs → IsPrefix ys zs → length xs ≤ length ys → IsPrefix xs ys
  prefix_shorter [] ys zs p q le = (ys, refl)
  prefix_shorter (x ∷ xs) [] zs p q le = absurd (omega arith)
  prefix_shorter (x ∷ xs) (y ∷ ys) [] p q le = absurd (cc (p.1))
  prefix_shorter (x ∷ xs) (y ∷ ys) (z ∷ zs) p q le =
      let heads : x ≡ y = cc (p.1, q.1) in
      let rest = prefix_shorter xs ys zs (p.0, cc (p.1)) (q.0, cc (q.1)) (omega arith) in
      (rest.0, cc (heads, rest.1))

  -- a beginning as long as the whole is the whole
  pub prefix_whole : (xs ys : List A) → IsPrefix xs ys → length ys ≤ length xs → xs ≡ ys
  prefix_whole [] [] p le = refl
  prefix_whole [] (y ∷ ys) p le = absurd (omega arith)
  prefix_whole (x ∷ xs) [] p le = absurd (cc (p.1))
  prefix_whole (x ∷ xs) (y ∷ ys) p le =
      let rest = prefix_whole xs ys (p.0, cc (p.1)) (omega arith) in cc (p.1, rest)

  pub prefix_length : (xs ys : List A) → IsPrefix xs ys → length xs ≤ length ys
  prefix_length xs ys p = omega (arith, sym (ap length p.1) ∙ length-append xs p.0)

  -- what stands in a beginning stands in the whole, at the same place
  pub prefix_get : (xs ys : List A) (k : ℕ) (x : A) → IsPrefix xs ys → slice_get xs k ≡ Some x → slice_get ys k ≡ Some x
  prefix_get [] ys k x p h = absurd cc
  prefix_get (y ∷ xs) [] k x p h = absurd (cc (p.1))
  prefix_get (y ∷ xs) (z ∷ ys) zero x p h = cc (p.1, h)
  prefix_get (y ∷ xs) (z ∷ ys) (suc k) x p h = prefix_get xs ys k x (p.0, cc (p.1)) h

  -- what stands in a list with one more stands in the list, or is the last
  pub get_snoc : (xs : List A) (k : ℕ) (x y : A) → slice_get (xs ++ x ∷ []) k ≡ Some y
      → (slice_get xs k ≡ Some y) ⊎ ((k ≡ length xs) × (x ≡ y))
  get_snoc [] zero x y h = inr (refl, cc)
  get_snoc [] (suc k) x y h = absurd cc
  get_snoc (z ∷ xs) zero x y h = inl h
  get_snoc (z ∷ xs) (suc k) x y h = ⊎_elim (λ a. inl a) (λ b. inr (ap suc b.0, b.1)) (get_snoc xs k x y h)

  pub get_last : (xs : List A) (x : A) → slice_get (xs ++ x ∷ []) (length xs) ≡ Some x
  get_last [] x = refl
  get_last (z ∷ xs) x = get_last xs x

  -- an empty list is the only one with no length
  pub no_length : (xs : List A) → length xs ≡ 0 → xs ≡ []
  no_length [] e = refl
  no_length (x ∷ xs) e = absurd (omega arith)

longer_cases : (b : Bool) (left right all : List Step) → nat_lt (length left) (length right) ≡ b
    → IsPrefix left all → IsPrefix right all
    → IsPrefix (if b then right else left) all × IsPrefix left (if b then right else left)
    × IsPrefix right (if b then right else left)
longer_cases true left right all is p q = let lt : length left < length right =
    grind (arith, nat_tests) in (q, prefix_shorter left right all p q (omega arith), prefix_self right)
longer_cases false left right all is p q = let le : length right ≤ length left =
    grind (arith, nat_tests) in (p, prefix_self left, prefix_shorter right left all q p le)

-- the longer of two beginnings is a beginning, and both begin it
pub longer_prefix : (left right all : List Step) → IsPrefix left all → IsPrefix right all
    → IsPrefix (longer left right) all × IsPrefix left (longer left right) × IsPrefix right (longer left right)
longer_prefix left right all p q = longer_cases (nat_lt (length left) (length right)) left right all refl p q

-- the own steps of what is added come behind the own steps
pub own-append : (n : ℕ) (xs ys : List Step) → own n (xs ++ ys) ≡ own n xs ++ own n ys
own-append n xs ys = filter-append (λ (step : Step). step.entry.caller == n) xs ys

-- what stands in a list stands below its length
pub get_below : {A : Type 0} (xs : List A) (k : ℕ) (x : A) → slice_get xs k ≡ Some x → k < length xs
get_below [] k x h = absurd cc
get_below (y ∷ xs) zero x h = omega arith
get_below (y ∷ xs) (suc k) x h = let r = get_below xs k x h in omega arith

-- a caller that no step names has no own steps
pub own_none : (n : ℕ) (xs : List Step)
    → ((k : ℕ) (step : Step) → slice_get xs k ≡ Some step → step.entry.caller ≢ n) → own n xs ≡ []
own_none n [] others = refl
own_none n (x ∷ xs) others =
    rw (ne_eqb x.entry.caller n (others 0 x refl)) (own_none n xs (λ k step at. others (suc k) step at))

-- the own steps of one step
pub own_one : (n : ℕ) (step : Step) → step.entry.caller ≡ n → own n (step ∷ []) ≡ step ∷ []
own_one n step e = rw (eq-eqb step.entry.caller n e) refl

pub own_other : (n : ℕ) (step : Step) → step.entry.caller ≢ n → own n (step ∷ []) ≡ []
own_other n step ne = rw (ne_eqb step.entry.caller n ne) refl
