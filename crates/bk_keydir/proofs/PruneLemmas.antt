-- The older versions that no open fold sees.
use Rattle.std.proofs.Common.{◌≡◌, ℕ, zero, suc, ◌+◌, ◌-◌, ◌<◌, ◌≤◌, Bool, true, false, not, List, [], ◌∷◌, Option, Some, None, refl, sym, ap, ◌∙◌, arith, inl, inr, length, get_or, take, drop}
use Rattle.std.specs.List.{find, position, position_from, remove}
use Rattle.std.proofs.lemmas.Bool.{cases_Bool}
use Rattle.std.proofs.lemmas.List.{at_drop_more, drop_all, take_all}
use Rattle.std.proofs.lemmas.Iterator.Adapters.{position_from-zero}
use Rattle.std.proofs.lemmas.Option.{slice_get-get_or}
use Rattle.bk_base.specs.declared.writes.Version.{Version}
use Rattle.bk_base.specs.Places.{IsFirstOf}
use Rattle.bk_base.proofs.Places.{found}
use Rattle.bk_keydir.specs.declared.slots.Slot.{Slot}
use Rattle.bk_keydir.specs.Slots.{within}
use Rattle.bk_keydir.specs.Keydir.{is_unseen, left_by_prune, older_of, pruned, without_first}
use Rattle.bk_keydir.specs.Kept.{IsChain}
use Rattle.bk_keydir.proofs.SlotLemmas.{is_seen-older}

pub all_behind : (vs : List Version) → take (length vs - 1) (drop 1 vs) ≡ older_of vs
all_behind [] = refl
all_behind (v ∷ vs) = take_all (suc (length vs) - 1) vs (omega arith)

pub is_unseen_at : (slots : List (Option Slot)) (vs : List Version) (i : ℕ) (d : Version) → IsChain vs → i < length (older_of vs)
    → is_unseen slots vs (get_or (older_of vs) i d)
    ≡ not (within slots (get_or (older_of vs) i d).seq.0 (get_or vs i d).seq.0)
is_unseen_at slots [] i d h low = absurd h
is_unseen_at slots (v ∷ vs) i d h low =
    ap not (is_seen-older slots (v.seq.0 + 1) (v ∷ vs) i (get_or (v ∷ vs) i d) (get_or vs i d) (omega arith, h)
    (slice_get-get_or (v ∷ vs) i d (omega (arith, low))) (slice_get-get_or vs i d low))

-- a search from a place on: at a version that passes, past one that doesn't, and at the end
pub stops_at : (test : Version → Bool) (vs : List Version) (i : ℕ) (d : Version) → i < length vs → test (get_or vs i d) ≡ true
    → position_from test i (drop i vs) ≡ position_from test 0 vs → Some i ≡ position test vs
stops_at test vs i d low is so =
    let here : position_from test i (drop i vs) ≡ Some i =
    at_drop_more (λ ys. position_from test i ys) vs i d low ∙ rw is refl in
    sym here ∙ so ∙ sym (position_from-zero test vs)

pub goes_past : (test : Version → Bool) (vs : List Version) (i : ℕ) (d : Version) → i < length vs → test (get_or vs i d) ≡ false
    → position_from test i (drop i vs) ≡ position_from test 0 vs
    → position_from test (i + 1) (drop (i + 1) vs) ≡ position_from test 0 vs
goes_past test vs i d low is so =
    let here : position_from test i (drop i vs) ≡ position_from test (i + 1) (drop (i + 1) vs) =
    at_drop_more (λ ys. position_from test i ys) vs i d low ∙ rw is refl in
    sym here ∙ so

pub ends_at : (test : Version → Bool) (vs : List Version) (i : ℕ) → length vs ≤ i
    → position_from test i (drop i vs) ≡ position_from test 0 vs → None ≡ position test vs
ends_at test vs i high so =
    let here : position_from test i (drop i vs) ≡ None = ap (λ ys. position_from test i ys) (drop_all i vs high) in
    sym here ∙ so ∙ sym (position_from-zero test vs)

-- what a search found is taken, and nothing where it found none
taken : (test : Version → Bool) (vs : List Version) (i : ℕ) (d : Version) → IsFirstOf test vs i
    → (find test vs ≡ Some (get_or vs i d)) × (without_first test vs ≡ remove vs i)
taken test [] i d h = absurd h
taken test (v ∷ vs) zero d h = (rw h refl, rw h refl)
taken test (v ∷ vs) (suc i) d h =
    let k = taken test vs i d h.1 in (rw h.0 k.0, rw h.0 (ap (λ ws. v ∷ ws) k.1))

none_taken : (test : Version → Bool) (j : ℕ) (vs : List Version) → position_from test j vs ≡ None
    → (find test vs ≡ None) × (without_first test vs ≡ vs)
none_taken test j [] h = (refl, refl)
none_taken test j (v ∷ vs) h =
    elim (cases_Bool (test v)) [
      | inl p ↦ let is : Some j ≡ None = rw p at h in absurd (cc is)
      | inr p ↦ let k = none_taken test (j + 1) vs (rw p at h) in (rw p k.0, rw p (ap (λ ws. v ∷ ws) k.1))
    ]

pub pruned-some : (slots : List (Option Slot)) (vs : List Version) (i : ℕ) (v : Version) → IsChain vs
    → position (is_unseen slots vs) (older_of vs) ≡ Some i → v ≡ get_or vs (i + 1) v
    → (Some v ≡ pruned slots vs) × (remove vs (i + 1) ≡ left_by_prune slots vs)
pruned-some slots [] i v h at is = absurd h
pruned-some slots (w ∷ vs) i v h at is =
    let k = taken (is_unseen slots (w ∷ vs)) vs i v (found (is_unseen slots (w ∷ vs)) vs i at) in
    let next : i + 1 ≡ suc i = omega arith in
    let read : v ≡ get_or vs i v = rw next at is in
    (ap (λ x. Some x) read ∙ sym k.0, rw next (ap (λ ws. w ∷ ws) (sym k.1)))

pub pruned-none : (slots : List (Option Slot)) (vs : List Version) → IsChain vs
    → position (is_unseen slots vs) (older_of vs) ≡ None → (None ≡ pruned slots vs) × (vs ≡ left_by_prune slots vs)
pruned-none slots [] h at = absurd h
pruned-none slots (w ∷ vs) h at =
    let test = is_unseen slots (w ∷ vs) in
    let k = none_taken test 0 vs (sym (position_from-zero test vs) ∙ at) in
    (sym k.0, ap (λ ws. w ∷ ws) (sym k.1))

-- the only version of a list
pub one_left : (vs : List Version) (v : Version) → length vs ≡ 1 → v ≡ get_or vs 0 v → v ∷ [] ≡ vs
one_left [] v len is = absurd (omega (arith, len))
one_left (w ∷ []) v len is = ap (λ x. x ∷ []) is
one_left (w ∷ x ∷ vs) v len is = absurd (omega (arith, len))
