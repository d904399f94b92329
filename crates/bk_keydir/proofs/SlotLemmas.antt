-- What the slots see of a key's versions, by the epochs alone.
use Rattle.std.proofs.Common.{◌≡◌, ℕ, zero, suc, ◌<◌, ◌≤◌, ◌||◌, Bool, true, false, cond, List, [], ◌∷◌, Option, Some, None, refl, ◌∙◌, arith, inl, inr, slice_get, leb, ltb}
use Rattle.std.specs.Option.{is_some}
use Rattle.std.specs.List.{fold, list_any}
use Rattle.std.proofs.lemmas.Bool.{cases_Bool, eq-eqb}
use Rattle.std.proofs.lemmas.Bool.Decides.{nat_tests}
use Rattle.bk_base.specs.declared.numbers.Seq.{Seq}
use Rattle.bk_base.specs.declared.writes.Version.{Version}
use Rattle.bk_keydir.specs.declared.slots.Slot.{Slot}
use Rattle.bk_keydir.specs.Slots.{at_epoch, has_open, has_seq, higher, highest_of, is_seen, is_up_to, lies_in, reaches, reaches_in, sees, within}
use Rattle.bk_keydir.specs.Keydir.{FallsBelow}

same_any : {X : Type 0} (f g : X → Bool) → ((x : X) → f x ≡ g x) → (xs : List X) → list_any f xs ≡ list_any g xs
same_any f g h [] = refl
same_any f g h (x ∷ xs) = rw (h x, same_any f g h xs) refl

-- the highest epoch tells whether a fold is open, and whether one reaches a seq
open_from : (a : Option Seq) (slots : List (Option Slot)) → (is_some a || list_any is_some slots) ≡ is_some (fold higher a slots)
open_from None [] = refl
open_from (Some a) [] = refl
open_from None (None ∷ slots) = open_from None slots
open_from (Some a) (None ∷ slots) = open_from (Some a) slots
open_from None (Some s ∷ slots) = open_from (Some s.epoch) slots
open_from (Some a) (Some s ∷ slots) = open_from (Some (cond (ltb a.0 s.epoch.0) s.epoch a)) slots

pub has_open-highest : (slots : List (Option Slot)) → has_open slots ≡ is_some (highest_of slots)
has_open-highest slots = open_from None slots

greater : (q : ℕ) (a e : Seq) (r : Bool) → (leb q a.0 || (leb q e.0 || r)) ≡ (leb q (cond (ltb a.0 e.0) e a).0 || r)
greater q a e r =
    elim (cases_Bool (ltb a.0 e.0)) [
      | inl p ↦ rw p (elim (cases_Bool (leb q a.0)) [
        | inl h ↦ let k : leb q e.0 ≡ true = grind (arith, nat_tests, p, h) in rw (h, k) refl
        | inr h ↦ rw h refl
      ])
      | inr p ↦ rw p (elim (cases_Bool (leb q a.0)) [
        | inl h ↦ rw h refl
        | inr h ↦ let k : leb q e.0 ≡ false = grind (arith, nat_tests, p, h) in rw (h, k) refl
      ])
    ]

reaches_from : (q : ℕ) (a : Option Seq) (slots : List (Option Slot))
    → (is_up_to q a || list_any (reaches_in q) slots) ≡ is_up_to q (fold higher a slots)
reaches_from q None [] = refl
reaches_from q (Some a) [] = elim (cases_Bool (leb q a.0)) [ inl p ↦ rw p refl | inr p ↦ rw p refl ]
reaches_from q None (None ∷ slots) = reaches_from q None slots
reaches_from q (Some a) (None ∷ slots) = reaches_from q (Some a) slots
reaches_from q None (Some s ∷ slots) = reaches_from q (Some s.epoch) slots
reaches_from q (Some a) (Some s ∷ slots) =
    greater q a s.epoch (list_any (reaches_in q) slots) ∙ reaches_from q (Some (cond (ltb a.0 s.epoch.0) s.epoch a)) slots

pub reaches-highest : (slots : List (Option Slot)) (q : ℕ) → reaches slots q ≡ is_up_to q (highest_of slots)
reaches-highest slots q = reaches_from q None slots

-- a version with a seq from n on isn't among versions below n
pub unseen_below : (n q e : ℕ) (vs : List Version) → FallsBelow n vs → n ≤ q → has_seq q (at_epoch e vs) ≡ false
unseen_below n q e [] h le = refl
unseen_below n q e (v ∷ vs) h le =
    elim (cases_Bool (leb v.seq.0 e)) [
      | inl p ↦ rw p (grind (arith, nat_tests, h.0, le))
      | inr p ↦ rw p (unseen_below v.seq.0 q e vs h.1 (omega (arith, h.0, le)))
    ]

-- a fold sees the newest version where its epoch reaches the seq
newest_by : (v : Version) (vs : List Version) → FallsBelow v.seq.0 vs → (o : Option Slot)
    → sees (v ∷ vs) v.seq.0 o ≡ reaches_in v.seq.0 o
newest_by v vs h None = refl
newest_by v vs h (Some s) =
    elim (cases_Bool (leb v.seq.0 s.epoch.0)) [
      | inl p ↦ rw p (eq-eqb v.seq.0 v.seq.0 refl)
      | inr p ↦ rw p (unseen_below v.seq.0 v.seq.0 s.epoch.0 vs h (omega arith))
    ]

pub is_seen-newest : (slots : List (Option Slot)) (v : Version) (vs : List Version) → FallsBelow v.seq.0 vs
    → is_seen slots (v ∷ vs) v.seq.0 ≡ reaches slots v.seq.0
is_seen-newest slots v vs h = same_any (sees (v ∷ vs) v.seq.0) (reaches_in v.seq.0) (newest_by v vs h) slots

-- and an older one where its epoch lies from that seq on and below the next newer one
older_by : (n : ℕ) (vs : List Version) (i : ℕ) (w v : Version) → FallsBelow n vs → slice_get vs i ≡ Some w
    → slice_get vs (suc i) ≡ Some v → (o : Option Slot) → sees vs v.seq.0 o ≡ lies_in v.seq.0 w.seq.0 o
older_by n vs i w v h at next None = refl
older_by n [] i w v h at next (Some s) = absurd (cc at)
older_by n (x ∷ []) zero w v h at next (Some s) = absurd (cc next)
older_by n (x ∷ y ∷ vs) zero w v h at next (Some s) =
    let is_w : x ≡ w = cc at in
    let is_v : y ≡ v = cc next in
    let below : y.seq.0 < x.seq.0 = h.1.0 in
    let goal : sees (x ∷ y ∷ vs) y.seq.0 (Some s) ≡ lies_in y.seq.0 x.seq.0 (Some s) =
    elim (cases_Bool (leb x.seq.0 s.epoch.0)) [
      | inl p ↦ rw p (grind (arith, nat_tests, p, below))
      | inr p ↦ rw p (elim (cases_Bool (leb y.seq.0 s.epoch.0)) [
        | inl q ↦ rw q (grind (arith, nat_tests, p, q))
        | inr q ↦ rw q (unseen_below y.seq.0 y.seq.0 s.epoch.0 vs h.1.1 (omega arith))
      ])
    ] in
    rw (← is_w, ← is_v) goal
older_by n (x ∷ xs) (suc i) w v h at next (Some s) =
    elim (cases_Bool (leb x.seq.0 s.epoch.0)) [
      | inl p ↦
          let below : w.seq.0 < x.seq.0 = found_below x.seq.0 xs i w h.1 at in
          let far : v.seq.0 < x.seq.0 = found_below x.seq.0 xs (suc i) v h.1 next in
          rw p (grind (arith, nat_tests, p, below, far))
      | inr p ↦ rw p (older_by x.seq.0 xs i w v h.1 at next (Some s))
    ]
  where
    found_below : (m : ℕ) (ys : List Version) (j : ℕ) (u : Version) → FallsBelow m ys → slice_get ys j ≡ Some u → u.seq.0 < m
    found_below m [] j u g e = absurd (cc e)
    found_below m (y ∷ ys) zero u g e = let is : y ≡ u = cc e in rw (← is) g.0
    found_below m (y ∷ ys) (suc j) u g e = let k = found_below y.seq.0 ys j u g.1 e in omega (arith, k, g.0)

pub is_seen-older : (slots : List (Option Slot)) (n : ℕ) (vs : List Version) (i : ℕ) (w v : Version) → FallsBelow n vs
    → slice_get vs i ≡ Some w → slice_get vs (suc i) ≡ Some v → is_seen slots vs v.seq.0 ≡ within slots v.seq.0 w.seq.0
is_seen-older slots n vs i w v h at next =
    same_any (sees vs v.seq.0) (lies_in v.seq.0 w.seq.0) (older_by n vs i w v h at next) slots
