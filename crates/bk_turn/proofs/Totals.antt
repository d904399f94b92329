-- What is added up over seats, and facts of each seat, after one seat has changed.
use Rattle.std.proofs.Common.{◌≡◌, ◌==◌, ◌≢◌, ℕ, zero, suc, ◌+◌, ◌<◌, ◌≤◌, Bool, true, false, List, [], ◌∷◌, ◌++◌, length, set, refl, ap, sym, ◌∙◌, subst, arith, ⊎_elim, eq-eqb, ne_eqb}
use mathlib.Core.Option.{some, some-injective, some-ne-none}
use lib.ListN.{get_elem?}
use Rattle.atomic_table.proofs.Lists.{at_set, at_snoc, set_here}
use Rattle.bk_turn.specs.declared.seats.Seated.{Seated}
use Rattle.bk_turn.specs.declared.seats.Stage.{Stage}
use Rattle.bk_turn.specs.declared.seats.Stage.TheVariants.{Fresh, Filling, Idle, Waiting, Holding, Gone}
use Rattle.bk_turn.specs.Seats.{total, one_if, is_live, is_new, has_slot, is_busy, Each, EachLive}

module _ {A : Type 0} (f : A → ℕ) where
  pub total-set : (l : List A) (k : ℕ) (v w : A) → get_elem? l k ≡ some v → total f (set l k w) + f v ≡ total f l + f w
  total-set [] k v w at = absurd (some-ne-none v (sym at))
  total-set (x ∷ xs) zero v w at = let is : f x ≡ f v = ap f (some-injective x v at) in omega arith
  total-set (x ∷ xs) (suc k) v w at = let r = total-set xs k v w at in omega arith

  pub total-snoc : (l : List A) (w : A) → total f (l ++ w ∷ []) ≡ total f l + f w
  total-snoc [] w = omega arith
  total-snoc (x ∷ xs) w = let r = total-snoc xs w in omega arith

  pub total-one : (l : List A) (k : ℕ) (v : A) → get_elem? l k ≡ some v → f v ≤ total f l
  total-one [] k v at = absurd (some-ne-none v (sym at))
  total-one (x ∷ xs) zero v at = let is : f x ≡ f v = ap f (some-injective x v at) in omega arith
  total-one (x ∷ xs) (suc k) v at = let r = total-one xs k v at in omega arith

  pub total-two : (l : List A) (k j : ℕ) (v w : A) → k ≢ j → get_elem? l k ≡ some v
      → get_elem? l j ≡ some w → f v + f w ≤ total f l
  total-two [] k j v w ne at at' = absurd (some-ne-none v (sym at))
  total-two (x ∷ xs) zero zero v w ne at at' = absurd (ne refl)
  total-two (x ∷ xs) zero (suc j) v w ne at at' = let is : f x ≡ f v =
      ap f (some-injective x v at) in let r = total-one xs j w at' in omega arith
  total-two (x ∷ xs) (suc k) zero v w ne at at' = let is : f x ≡ f w =
      ap f (some-injective x w at') in let r = total-one xs k v at in omega arith
  total-two (x ∷ xs) (suc k) (suc j) v w ne at at' = let r =
      total-two xs k j v w (λ e. ne (ap suc e)) at at' in omega arith

  pub total-zero : (l : List A) → ((k : ℕ) (v : A) → get_elem? l k ≡ some v → f v ≡ 0) → total f l ≡ 0
  total-zero [] each = refl
  total-zero (x ∷ xs) each = let h : f x ≡ 0 = each zero x refl in let r =
      total-zero xs (λ k v at. each (suc k) v at) in omega arith

module _ {A : Type 0} where
  -- a place of a list is below its length
  pub at_below : (l : List A) (k : ℕ) (v : A) → get_elem? l k ≡ some v → k < length l
  at_below [] k v at = absurd (some-ne-none v (sym at))
  at_below (x ∷ xs) zero v at = omega arith
  at_below (x ∷ xs) (suc k) v at = let r = at_below xs k v at in omega arith

  -- one value stands at a place
  pub at_once : (l : List A) (k j : ℕ) (v w : A) → get_elem? l k ≡ some v → get_elem? l j ≡ some w → k ≡ j → v ≡ w
  at_once l k j v w at at' e = some-injective v w (sym at ∙ (ap (get_elem? l) e ∙ at'))

  -- the changed one stands at its place
  pub set_at : (l : List A) (k : ℕ) (v w : A) → get_elem? l k ≡ some v → get_elem? (set l k w) k ≡ some w
  set_at l k v w at = set_here l k w (at_below l k v at)

pub one_if_same : (n m : ℕ) → n ≡ m → one_if (n == m) ≡ 1
one_if_same n m e = ap one_if (eq-eqb n m e)

pub one_if_not : (n m : ℕ) → n ≢ m → one_if (n == m) ≡ 0
one_if_not n m ne = ap one_if (ne_eqb n m ne)

pub one_if_most : (b : Bool) → one_if b ≤ 1
one_if_most true = omega arith
one_if_most false = omega arith

-- a fact of each seat holds after a change if it holds of each other seat and of the changed one
pub each_set : (P : Seated → Type 0) (l : List Seated) (id : ℕ) (w : Seated)
    → ((k : ℕ) (seat : Seated) → k ≢ id → get_elem? l k ≡ some seat → P seat) → P w → Each (set l id w) P
each_set P l id w others changed k seat at =
    ⊎_elim (λ hit. subst P hit.1 changed) (λ miss. others k seat miss.0 miss.1) (at_set l id k w seat at)

pub each_live_set : (P : Seated → Type 0) (l : List Seated) (id : ℕ) (w : Seated) → EachLive l P → P w
    → EachLive (set l id w) P
each_live_set P l id w each changed k seat at =
    ⊎_elim (λ hit live. subst P hit.1 changed) (λ miss live. each k seat miss.1 live)
    (at_set l id k w seat at)

-- and one more seat
pub each_snoc : (P : Seated → Type 0) (l : List Seated) (w : Seated) → Each l P → P w → Each (l ++ w ∷ []) P
each_snoc P l w each last k seat at = ⊎_elim (λ old. each k seat old) (λ new. subst P new last) (at_snoc l w seat k at)

pub each_live_snoc : (P : Seated → Type 0) (l : List Seated) (w : Seated) → EachLive l P → P w
    → EachLive (l ++ w ∷ []) P
each_live_snoc P l w each last k seat at =
    ⊎_elim (λ old live. each k seat old live) (λ new live. subst P new last) (at_snoc l w seat k at)

-- a seat that is new or has the slot is busy
pub new_busy : (st : Stage) → is_new st ≡ true → is_busy st ≡ 1
new_busy Fresh e = refl
new_busy Filling e = refl
new_busy Idle e = absurd cc
new_busy (Waiting t) e = absurd cc
new_busy (Holding t) e = absurd cc
new_busy Gone e = absurd cc

pub slot_busy : (st : Stage) → has_slot st ≡ true → is_busy st ≡ 1
slot_busy Fresh e = refl
slot_busy Filling e = refl
slot_busy Idle e = absurd cc
slot_busy (Waiting t) e = absurd cc
slot_busy (Holding t) e = refl
slot_busy Gone e = absurd cc

-- in a list of one there is no second place
pub one_place : {A : Type 0} (l : List A) (k j : ℕ) (v w : A) → length l ≡ 1 → get_elem? l k ≡ some v
    → get_elem? l j ≡ some w → k ≡ j
one_place l k j v w one at at' = let a = at_below l k v at in let b = at_below l j w at' in omega arith

-- a fact of the only seat
pub each_only : (P : Seated → Type 0) (w : Seated) → P w → Each (w ∷ []) P
each_only P w p zero seat at = subst P (some-injective w seat at) p
each_only P w p (suc k) seat at = absurd (some-ne-none seat (sym at))

-- a new seat was not joined away
pub new_lives : (st : Stage) → is_new st ≡ true → is_live st ≡ true
new_lives Fresh e = refl
new_lives Filling e = refl
new_lives Idle e = refl
new_lives (Waiting t) e = refl
new_lives (Holding t) e = refl
new_lives Gone e = absurd cc
