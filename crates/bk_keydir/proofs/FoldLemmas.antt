-- What a change of the entries leaves to an open fold.
use Rattle.std.proofs.Common.{◌≡◌, ℕ, zero, suc, ◌+◌, ◌<◌, ◌≤◌, ◌&&◌, Bool, true, false, List, [], ◌∷◌, ◌++◌, Option, Some, None, refl, sym, ap, ◌∙◌, subst, arith, inl, inr, length, map, take, drop, append_assoc, leb, eqb}
use Rattle.std.specs.List.{AllByRecursion, IsDistinct, list_any}
use Rattle.std.specs.Map.{keys_of}
use Rattle.std.specs.Option.{is_some}
use Rattle.std.specs.Str.{bytes_eq}
use Rattle.std.proofs.lemmas.Bool.{cases_Bool, eq-eqb, eqb-true}
use Rattle.std.proofs.lemmas.Bool.Decides.{nat_tests}
use Rattle.std.proofs.lemmas.List.{append-nil, map-append}
use Rattle.std.proofs.lemmas.Slice.Eq.{bytes_eq-Decides}
use Rattle.bk_base.specs.declared.numbers.FileId.{FileId}
use Rattle.bk_base.specs.declared.writes.Version.{Version}
use Rattle.bk_keydir.specs.declared.slots.Slot.{Slot}
use Rattle.bk_keydir.specs.Slots.{IsOpen, at_epoch, has_open, has_seq, is_seen, reaches, reaches_in, sees, slot_at}
use Rattle.bk_keydir.specs.Keydir.{Entry, edited, edited_at, is_put_of, is_unseen, keeps_newest, key_at, left_by_prune, moved, put_over, versions_at, versions_of, with_version, without_first}
use Rattle.bk_keydir.specs.Folds.{IsNextPair, MovedTo, SameTo, is_listed, listing, pair_if, pair_moved, seen_moved}
use Rattle.bk_keydir.specs.Kept.{AreChains, IsChain}
use Rattle.bk_keydir.proofs.SlotLemmas.{unseen_below}

-- What all slots fail, each open fold fails

any_false : (f : Option Slot → Bool) (slots : List (Option Slot)) (n : ℕ) (s : Slot) → list_any f slots ≡ false
    → slot_at slots n ≡ Some s → f (Some s) ≡ false
any_false f [] n s h at = absurd (cc at)
any_false f (x ∷ xs) zero s h at =
    elim (cases_Bool (f x)) [
      | inl p ↦ let is : true ≡ false = rw p at h in absurd (cc is)
      | inr p ↦ let is : x ≡ Some s = at in subst (λ o. f o ≡ false) is p
    ]
any_false f (x ∷ xs) (suc n) s h at =
    elim (cases_Bool (f x)) [
      | inl p ↦ let is : true ≡ false = rw p at h in absurd (cc is)
      | inr p ↦ any_false f xs n s (rw p at h) at
    ]

pub none_open : (slots : List (Option Slot)) (s : Slot) → has_open slots ≡ false → IsOpen slots s → ⊥
none_open slots s h o = let is : true ≡ false = any_false is_some slots o.0 s h o.1 in cc is

-- no fold reaches a seq exactly where each epoch is below it
pub below_from_reaches : (slots : List (Option Slot)) (q : ℕ) → reaches slots q ≡ false → (s : Slot) → IsOpen slots s → s.epoch.0 < q
below_from_reaches slots q h s o = let is : leb q s.epoch.0 ≡ false = any_false (reaches_in q) slots o.0 s h o.1 in grind (arith, nat_tests, is)

pub reaches_from_below : (slots : List (Option Slot)) (q : ℕ) → ((s : Slot) → IsOpen slots s → s.epoch.0 < q) → reaches slots q ≡ false
reaches_from_below [] q h = refl
reaches_from_below (None ∷ slots) q h = reaches_from_below slots q (λ s o. h s (suc o.0, o.1))
reaches_from_below (Some s ∷ slots) q h =
    let low : s.epoch.0 < q = h s (0, refl) in
    let is : leb q s.epoch.0 ≡ false = grind (arith, nat_tests, low) in
    rw is (reaches_from_below slots q (λ t o. h t (suc o.0, o.1)))

-- The same to a fold, key by key; keys behind are new, and it sees none of them

abbrev AreUnseen : ℕ → List Entry → Type 0
AreUnseen epoch es = AllByRecursion (λ (e : Entry). at_epoch epoch e.1 ≡ None) es

abbrev SameSeen : ℕ → List Entry → List Entry → Type 0
SameSeen epoch [] fs = AreUnseen epoch fs
SameSeen epoch (e ∷ es) [] = ⊥
SameSeen epoch (e ∷ es) (f ∷ fs) = (f.0 ≡ e.0) × (at_epoch epoch f.1 ≡ at_epoch epoch e.1) × SameSeen epoch es fs

same_seen-refl : (epoch : ℕ) (es : List Entry) → SameSeen epoch es es
same_seen-refl epoch [] = tt
same_seen-refl epoch (e ∷ es) = (refl, refl, same_seen-refl epoch es)

unseen_of : (epoch : ℕ) (key : List ℕ) (es : List Entry) → AreUnseen epoch es
    → at_epoch epoch (versions_of key es) ≡ None
unseen_of epoch key [] h = refl
unseen_of epoch key (e ∷ es) h =
    elim (cases_Bool (bytes_eq key e.0)) [
      | inl p ↦ rw p h.0
      | inr p ↦ rw p (unseen_of epoch key es h.1)
    ]

sees_same : (epoch : ℕ) (key : List ℕ) (es fs : List Entry) → SameSeen epoch es fs
    → at_epoch epoch (versions_of key fs) ≡ at_epoch epoch (versions_of key es)
sees_same epoch key [] fs h = unseen_of epoch key fs h
sees_same epoch key (e ∷ es) [] h = absurd h
sees_same epoch key (e ∷ es) (f ∷ fs) h =
    let keys : bytes_eq key f.0 ≡ bytes_eq key e.0 = ap (λ k. bytes_eq key k) h.0 in
    elim (cases_Bool (bytes_eq key e.0)) [
      | inl p ↦ rw (keys, p) h.1
      | inr p ↦ rw (keys, p) (sees_same epoch key es fs h.2)
    ]

lists_none : (ttl : ℕ) (s : Slot) (es : List Entry) → AreUnseen s.epoch.0 es → listing ttl s es ≡ []
lists_none ttl s [] h = refl
lists_none ttl s (e ∷ es) h = rw h.0 (lists_none ttl s es h.1)

unseen-drop : (epoch n : ℕ) (es : List Entry) → AreUnseen epoch es
    → AreUnseen epoch (drop n es)
unseen-drop epoch zero es h = h
unseen-drop epoch (suc n) [] h = tt
unseen-drop epoch (suc n) (e ∷ es) h = unseen-drop epoch n es h.1

unseen-take : (epoch n : ℕ) (es : List Entry) → AreUnseen epoch es
    → AreUnseen epoch (take n es)
unseen-take epoch zero es h = tt
unseen-take epoch (suc n) [] h = tt
unseen-take epoch (suc n) (e ∷ es) h = (h.0, unseen-take epoch n es h.1)

still_same : (ttl : ℕ) (s : Slot) (n : ℕ) (es fs : List Entry) → SameSeen s.epoch.0 es fs
    → listing ttl s (drop n fs) ≡ listing ttl s (drop n es)
still_same ttl s zero [] fs h = lists_none ttl s fs h
still_same ttl s (suc n) [] fs h = lists_none ttl s (drop (suc n) fs) (unseen-drop s.epoch.0 (suc n) fs h)
still_same ttl s n (e ∷ es) [] h = absurd h
still_same ttl s zero (e ∷ es) (f ∷ fs) h = rw (h.0, h.1, still_same ttl s zero es fs h.2) refl
still_same ttl s (suc n) (e ∷ es) (f ∷ fs) h = still_same ttl s n es fs h.2

listed_same : (ttl : ℕ) (s : Slot) (n : ℕ) (es fs : List Entry) → SameSeen s.epoch.0 es fs
    → listing ttl s (take n fs) ≡ listing ttl s (take n es)
listed_same ttl s zero es fs h = refl
listed_same ttl s (suc n) [] fs h = lists_none ttl s (take (suc n) fs) (unseen-take s.epoch.0 (suc n) fs h)
listed_same ttl s (suc n) (e ∷ es) [] h = absurd h
listed_same ttl s (suc n) (e ∷ es) (f ∷ fs) h = rw (h.0, h.1, listed_same ttl s n es fs h.2) refl

same_to : (s : Slot) (es fs : List Entry) → SameSeen s.epoch.0 es fs → SameTo s es fs
same_to s es fs h = record {
  sees = λ key. sees_same s.epoch.0 key es fs h;
  still = λ ttl. still_same ttl s s.cursor es fs h;
  listed = λ ttl. listed_same ttl s s.cursor es fs h;
}

pub same_to-refl : (s : Slot) (es : List Entry) → SameTo s es es
same_to-refl s es = same_to s es es (same_seen-refl s.epoch.0 es)

-- A put

seen_under : (slots : List (Option Slot)) (s : Slot) (v : Version) (vs : List Version) → IsOpen slots s → s.epoch.0 < v.seq.0
    → at_epoch s.epoch.0 (put_over slots v vs) ≡ at_epoch s.epoch.0 vs
seen_under slots s v [] o newer =
    let above : leb v.seq.0 s.epoch.0 ≡ false = grind (arith, nat_tests, newer) in rw above refl
seen_under slots s v (w ∷ vs) o newer =
    let above : leb v.seq.0 s.epoch.0 ≡ false = grind (arith, nat_tests, newer) in
    elim (cases_Bool (keeps_newest slots (w ∷ vs))) [
      | inl p ↦ rw (above, p) refl
      | inr p ↦
          let unseen : sees (w ∷ vs) w.seq.0 (Some s) ≡ false = any_false (sees (w ∷ vs) w.seq.0) slots o.0 s p o.1 in
          rw (above, p) (elim (cases_Bool (leb w.seq.0 s.epoch.0)) [
            | inl q ↦ let is : eqb w.seq.0 w.seq.0 ≡ false = rw q at unseen in
                let self : eqb w.seq.0 w.seq.0 ≡ true = eq-eqb w.seq.0 w.seq.0 refl in
                let wrong : true ≡ false = sym self ∙ is in absurd (cc wrong)
            | inr q ↦ rw q refl
          ])
    ]

put_seen : (slots : List (Option Slot)) (key : List ℕ) (s : Slot) (v : Version) (es : List Entry) → IsOpen slots s → s.epoch.0 < v.seq.0
    → SameSeen s.epoch.0 es (with_version slots key v es)
put_seen slots key s v [] o newer = (seen_under slots s v [] o newer, tt)
put_seen slots key s v (e ∷ es) o newer =
    elim (cases_Bool (bytes_eq key e.0)) [
      | inl p ↦ rw p (refl, seen_under slots s v e.1 o newer, same_seen-refl s.epoch.0 es)
      | inr p ↦ rw p (refl, refl, put_seen slots key s v es o newer)
    ]

pub same-put : (slots : List (Option Slot)) (key : List ℕ) (s : Slot) (v : Version) (es : List Entry) → IsOpen slots s → s.epoch.0 < v.seq.0
    → SameTo s es (with_version slots key v es)
same-put slots key s v es o newer = same_to s es (with_version slots key v es) (put_seen slots key s v es o newer)

-- A version that goes

without_unseen : (slots : List (Option Slot)) (s : Slot) (all vs : List Version) → IsOpen slots s
    → at_epoch s.epoch.0 all ≡ at_epoch s.epoch.0 vs
    → at_epoch s.epoch.0 (without_first (is_unseen slots all) vs) ≡ at_epoch s.epoch.0 vs
without_unseen slots s all [] o h = refl
without_unseen slots s all (v ∷ vs) o h =
    elim (cases_Bool (is_seen slots all v.seq.0)) [
      | inl p ↦ rw p (elim (cases_Bool (leb v.seq.0 s.epoch.0)) [
        | inl q ↦ rw q refl
        | inr q ↦ rw q (without_unseen slots s all vs o (rw q at h))
      ])
      | inr p ↦
          let unseen : sees all v.seq.0 (Some s) ≡ false = any_false (sees all v.seq.0) slots o.0 s p o.1 in
          rw p (elim (cases_Bool (leb v.seq.0 s.epoch.0)) [
            | inl q ↦ let here : at_epoch s.epoch.0 all ≡ Some v = rw q at h in
                let is : eqb v.seq.0 v.seq.0 ≡ false = rw here at unseen in
                let self : eqb v.seq.0 v.seq.0 ≡ true = eq-eqb v.seq.0 v.seq.0 refl in
                let wrong : true ≡ false = sym self ∙ is in absurd (cc wrong)
            | inr q ↦ rw q refl
          ])
    ]

seen_left : (slots : List (Option Slot)) (s : Slot) (vs : List Version) → IsOpen slots s
    → at_epoch s.epoch.0 (left_by_prune slots vs) ≡ at_epoch s.epoch.0 vs
seen_left slots s [] o = refl
seen_left slots s (v ∷ vs) o =
    elim (cases_Bool (leb v.seq.0 s.epoch.0)) [
      | inl q ↦ rw q refl
      | inr q ↦ let same : at_epoch s.epoch.0 (v ∷ vs) ≡ at_epoch s.epoch.0 vs = rw q refl in
          rw q (without_unseen slots s (v ∷ vs) vs o same)
    ]

prune_seen : (slots : List (Option Slot)) (s : Slot) (n : ℕ) (es : List Entry) → IsOpen slots s
    → SameSeen s.epoch.0 es (edited_at n (left_by_prune slots) es)
prune_seen slots s n [] o = tt
prune_seen slots s zero (e ∷ es) o = (refl, seen_left slots s e.1 o, same_seen-refl s.epoch.0 es)
prune_seen slots s (suc n) (e ∷ es) o = (refl, refl, prune_seen slots s n es o)

pub same-prune : (slots : List (Option Slot)) (s : Slot) (n : ℕ) (es : List Entry) → IsOpen slots s
    → SameTo s es (edited_at n (left_by_prune slots) es)
same-prune slots s n es o = same_to s es (edited_at n (left_by_prune slots) es) (prune_seen slots s n es o)

-- The next key

pub listing-at : (ttl : ℕ) (s : Slot) (n : ℕ) (es : List Entry) → n < length es
    → (key : List ℕ) × (key_at n es ≡ Some key)
    × (listing ttl s (drop n es) ≡ pair_if (is_listed ttl s (at_epoch s.epoch.0 (versions_at n es))) key (at_epoch s.epoch.0 (versions_at n es))
    ++ listing ttl s (drop (suc n) es))
    × (listing ttl s (take (suc n) es) ≡ listing ttl s (take n es)
    ++ pair_if (is_listed ttl s (at_epoch s.epoch.0 (versions_at n es))) key (at_epoch s.epoch.0 (versions_at n es)))
listing-at ttl s n [] low = absurd (omega (arith, low))
listing-at ttl s zero (e ∷ es) low = (e.0, refl, refl, append-nil (pair_if (is_listed ttl s (at_epoch s.epoch.0 e.1)) e.0 (at_epoch s.epoch.0 e.1)))
listing-at ttl s (suc n) (e ∷ es) low =
    let k = listing-at ttl s n es (omega (arith, low)) in
    let front = pair_if (is_listed ttl s (at_epoch s.epoch.0 e.1)) e.0 (at_epoch s.epoch.0 e.1) in
    let here = pair_if (is_listed ttl s (at_epoch s.epoch.0 (versions_at n es))) k.0 (at_epoch s.epoch.0 (versions_at n es)) in
    (k.0, k.1, k.2, ap (λ ps. front ++ ps) k.3 ∙ sym (append_assoc front (listing ttl s (take n es)) here))

none_listed : (b : Bool) (key : List ℕ) (seen : Option Version) → b ≡ false → pair_if b key seen ≡ []
none_listed b key None is = refl
none_listed b key (Some v) is = rw is refl

-- past a key that isn't listed
pub passes : (ttl : ℕ) (s : Slot) (n : ℕ) (es : List Entry) → n < length es
    → is_listed ttl s (at_epoch s.epoch.0 (versions_at n es)) ≡ false
    → (listing ttl s (drop (n + 1) es) ≡ listing ttl s (drop n es)) × (listing ttl s (take (n + 1) es) ≡ listing ttl s (take n es))
passes ttl s n es low is =
    let seen = at_epoch s.epoch.0 (versions_at n es) in
    let k = listing-at ttl s n es low in
    let none = none_listed (is_listed ttl s seen) k.0 seen is in
    let next : n + 1 ≡ suc n = omega arith in (
      rw next (sym (k.2 ∙ ap (λ ps. ps ++ listing ttl s (drop (suc n) es)) none)),
      rw next (k.3 ∙ ap (λ ps. listing ttl s (take n es) ++ ps) none ∙ append-nil (listing ttl s (take n es))),
    )

next_of : (ttl : ℕ) (s : Slot) (n : ℕ) (es : List Entry) (seen : Option Version) (key : List ℕ) → at_epoch s.epoch.0 (versions_at n es) ≡ seen
    → is_listed ttl s seen ≡ true → s.cursor ≤ n → key_at n es ≡ Some key
    → listing ttl s (drop s.cursor es) ≡ pair_if (is_listed ttl s seen) key seen ++ listing ttl s (drop (n + 1) es)
    → listing ttl s (take (n + 1) es) ≡ listing ttl s (take s.cursor es) ++ pair_if (is_listed ttl s seen) key seen
    → IsNextPair ttl s es n
next_of ttl s n es None key at is from keyed later earlier = absurd (cc is)
next_of ttl s n es (Some v) key at is from keyed later earlier = record {
  key = key;
  version = v;
  from = from;
  is_key = keyed;
  seen = at;
  listed = is;
  later = rw is at later;
  earlier = rw is at earlier;
}

pub is_next : (ttl : ℕ) (s : Slot) (n : ℕ) (es : List Entry) → n < length es
    → is_listed ttl s (at_epoch s.epoch.0 (versions_at n es)) ≡ true → s.cursor ≤ n
    → listing ttl s (drop n es) ≡ listing ttl s (drop s.cursor es) → listing ttl s (take n es) ≡ listing ttl s (take s.cursor es)
    → IsNextPair ttl s es n
is_next ttl s n es low is from still earlier =
    let seen = at_epoch s.epoch.0 (versions_at n es) in
    let k = listing-at ttl s n es low in
    let next : n + 1 ≡ suc n = omega arith in
    let here = pair_if (is_listed ttl s seen) k.0 seen in
    next_of ttl s n es seen k.0 refl is from k.1
    (rw next (sym still ∙ k.2))
    (rw next (k.3 ∙ ap (λ ps. ps ++ here) earlier))

-- A move: of each key the fold sees what it saw, but for the place

abbrev MovedSeen : List ℕ → ℕ → FileId → ℕ → ℕ → List Entry → List Entry → Type 0
MovedSeen key seq to at epoch [] [] = Unit {0}
MovedSeen key seq to at epoch [] (f ∷ fs) = ⊥
MovedSeen key seq to at epoch (e ∷ es) [] = ⊥
MovedSeen key seq to at epoch (e ∷ es) (f ∷ fs) = (f.0 ≡ e.0)
    × (at_epoch epoch f.1 ≡ seen_moved key seq to at e.0 (at_epoch epoch e.1)) × MovedSeen key seq to at epoch es fs

-- a version of another key, or with another seq, stays
stays_key : (key : List ℕ) (seq : ℕ) (to : FileId) (at : ℕ) (other : List ℕ) (o : Option Version) → bytes_eq key other ≡ false
    → o ≡ seen_moved key seq to at other o
stays_key key seq to at other None h = refl
stays_key key seq to at other (Some v) h = rw h refl

stays_seq : (key : List ℕ) (seq : ℕ) (to : FileId) (at : ℕ) (other : List ℕ) (o : Option Version) → bytes_eq key other ≡ true
    → has_seq seq o ≡ false → o ≡ seen_moved key seq to at other o
stays_seq key seq to at other None k h = refl
stays_seq key seq to at other (Some v) k h = rw (k, h) refl

seen_after : (key : List ℕ) (seq : ℕ) (to : FileId) (at epoch : ℕ) (other : List ℕ) (vs : List Version) → bytes_eq key other ≡ true
    → IsChain vs → is_put_of seq vs ≡ true
    → at_epoch epoch (moved seq to at vs) ≡ seen_moved key seq to at other (at_epoch epoch vs)
seen_after key seq to at epoch other [] k h is = absurd h
seen_after key seq to at epoch other (v ∷ vs) k h is =
    elim (cases_Bool (eqb v.seq.0 seq)) [
      | inl p ↦ rw is (elim (cases_Bool (leb v.seq.0 epoch)) [
        | inl q ↦ rw (q, k, p) refl
        | inr q ↦
            let same : v.seq.0 ≡ seq = eqb-true v.seq.0 seq p in
            let none : has_seq seq (at_epoch epoch vs) ≡ false = unseen_below v.seq.0 seq epoch vs h (omega (arith, same)) in
            rw q (stays_seq key seq to at other (at_epoch epoch vs) k none)
      ])
      | inr p ↦ let wrong : false ≡ true = rw p at is in absurd (cc wrong)
    ]

-- the keys that follow an equal one differ
others_differ : (key first : List ℕ) (ks : List (List ℕ)) → bytes_eq key first ≡ true
    → AllByRecursion (λ y. bytes_eq first y ≡ false) ks → AllByRecursion (λ y. bytes_eq key y ≡ false) ks
others_differ key first ks is h =
    let same : key ≡ first = (bytes_eq-Decides key first).0 is in
    rw same h

moved_none : (key : List ℕ) (seq : ℕ) (to : FileId) (at epoch : ℕ) (es : List Entry)
    → AllByRecursion (λ y. bytes_eq key y ≡ false) (keys_of es) → MovedSeen key seq to at epoch es es
moved_none key seq to at epoch [] h = tt
moved_none key seq to at epoch (e ∷ es) h =
    (refl, stays_key key seq to at e.0 (at_epoch epoch e.1) h.0, moved_none key seq to at epoch es h.1)

move_seen : (key : List ℕ) (seq : ℕ) (to : FileId) (at epoch : ℕ) (es : List Entry) → AreChains es
    → IsDistinct bytes_eq (keys_of es) → is_put_of seq (versions_of key es) ≡ true
    → MovedSeen key seq to at epoch es (edited key (moved seq to at) es)
unfolding IsDistinct
move_seen key seq to at epoch [] h distinct is = absurd (cc is)
move_seen key seq to at epoch (e ∷ es) h distinct is =
    elim (cases_Bool (bytes_eq key e.0)) [
      | inl p ↦ rw p (
        refl,
        seen_after key seq to at epoch e.0 e.1 p h.0 (rw p at is),
        moved_none key seq to at epoch es (others_differ key e.0 (keys_of es) p distinct.0),
      )
      | inr p ↦ rw p (
        refl,
        stays_key key seq to at e.0 (at_epoch epoch e.1) p,
        move_seen key seq to at epoch es h.1 distinct.1 (rw p at is),
      )
    ]

sees_moved : (key : List ℕ) (seq : ℕ) (to : FileId) (at epoch : ℕ) (other : List ℕ) (es fs : List Entry)
    → MovedSeen key seq to at epoch es fs
    → at_epoch epoch (versions_of other fs) ≡ seen_moved key seq to at other (at_epoch epoch (versions_of other es))
sees_moved key seq to at epoch other [] [] h = refl
sees_moved key seq to at epoch other [] (f ∷ fs) h = absurd h
sees_moved key seq to at epoch other (e ∷ es) [] h = absurd h
sees_moved key seq to at epoch other (e ∷ es) (f ∷ fs) h =
    let keys : bytes_eq other f.0 ≡ bytes_eq other e.0 = ap (λ k. bytes_eq other k) h.0 in
    elim (cases_Bool (bytes_eq other e.0)) [
      | inl p ↦
          let same : e.0 ≡ other = sym ((bytes_eq-Decides other e.0).0 p) in
          rw (keys, p) (subst (λ k. at_epoch epoch f.1 ≡ seen_moved key seq to at k (at_epoch epoch e.1)) same h.1)
      | inr p ↦ rw (keys, p) (sees_moved key seq to at epoch other es fs h.2)
    ]

pair_key : (key : List ℕ) (seq : ℕ) (to : FileId) (at : ℕ) (p : List ℕ × Version)
    → pair_moved key seq to at p ≡ (p.0, (pair_moved key seq to at p).1)
pair_key key seq to at p =
    elim (cases_Bool (bytes_eq key p.0 && eqb p.1.seq.0 seq)) [ inl q ↦ rw q refl | inr q ↦ rw q refl ]

listed_alike : (ttl : ℕ) (s : Slot) (key : List ℕ) (seq : ℕ) (to : FileId) (at : ℕ) (p : List ℕ × Version)
    → is_listed ttl s (Some (pair_moved key seq to at p).1) ≡ is_listed ttl s (Some p.1)
listed_alike ttl s key seq to at p =
    elim (cases_Bool (bytes_eq key p.0 && eqb p.1.seq.0 seq)) [ inl q ↦ rw q refl | inr q ↦ rw q refl ]

pair_after : (ttl : ℕ) (s : Slot) (key : List ℕ) (seq : ℕ) (to : FileId) (at : ℕ) (other : List ℕ) (o : Option Version)
    → pair_if (is_listed ttl s (seen_moved key seq to at other o)) other (seen_moved key seq to at other o)
    ≡ map (pair_moved key seq to at) (pair_if (is_listed ttl s o) other o)
pair_after ttl s key seq to at other None = refl
pair_after ttl s key seq to at other (Some v) =
    let alike = listed_alike ttl s key seq to at (other, v) in
    elim (cases_Bool (is_listed ttl s (Some v))) [
      | inl p ↦ rw (alike, p) (ap (λ x. x ∷ []) (sym (pair_key key seq to at (other, v))))
      | inr p ↦ rw (alike, p) refl
    ]

listing_moved : (ttl : ℕ) (s : Slot) (key : List ℕ) (seq : ℕ) (to : FileId) (at : ℕ) (es fs : List Entry)
    → MovedSeen key seq to at s.epoch.0 es fs → listing ttl s fs ≡ map (pair_moved key seq to at) (listing ttl s es)
listing_moved ttl s key seq to at [] [] h = refl
listing_moved ttl s key seq to at [] (f ∷ fs) h = absurd h
listing_moved ttl s key seq to at (e ∷ es) [] h = absurd h
listing_moved ttl s key seq to at (e ∷ es) (f ∷ fs) h =
    let seen = at_epoch s.epoch.0 e.1 in
    let here = pair_if (is_listed ttl s seen) e.0 seen in
    rw (h.0, h.1, pair_after ttl s key seq to at e.0 seen, listing_moved ttl s key seq to at es fs h.2)
    (sym (map-append (pair_moved key seq to at) here (listing ttl s es)))

moved-drop : (key : List ℕ) (seq : ℕ) (to : FileId) (at epoch n : ℕ) (es fs : List Entry) → MovedSeen key seq to at epoch es fs
    → MovedSeen key seq to at epoch (drop n es) (drop n fs)
moved-drop key seq to at epoch zero es fs h = h
moved-drop key seq to at epoch (suc n) [] [] h = tt
moved-drop key seq to at epoch (suc n) [] (f ∷ fs) h = absurd h
moved-drop key seq to at epoch (suc n) (e ∷ es) [] h = absurd h
moved-drop key seq to at epoch (suc n) (e ∷ es) (f ∷ fs) h = moved-drop key seq to at epoch n es fs h.2

moved-take : (key : List ℕ) (seq : ℕ) (to : FileId) (at epoch n : ℕ) (es fs : List Entry) → MovedSeen key seq to at epoch es fs
    → MovedSeen key seq to at epoch (take n es) (take n fs)
moved-take key seq to at epoch zero es fs h = tt
moved-take key seq to at epoch (suc n) [] [] h = tt
moved-take key seq to at epoch (suc n) [] (f ∷ fs) h = absurd h
moved-take key seq to at epoch (suc n) (e ∷ es) [] h = absurd h
moved-take key seq to at epoch (suc n) (e ∷ es) (f ∷ fs) h = (h.0, h.1, moved-take key seq to at epoch n es fs h.2)

pub moved_to : (key : List ℕ) (seq : ℕ) (to : FileId) (at : ℕ) (s : Slot) (es : List Entry) → AreChains es
    → IsDistinct bytes_eq (keys_of es) → is_put_of seq (versions_of key es) ≡ true
    → MovedTo key seq to at s es (edited key (moved seq to at) es)
moved_to key seq to at s es chains distinct is =
    let fs = edited key (moved seq to at) es in
    let h = move_seen key seq to at s.epoch.0 es chains distinct is in
    record {
      sees = λ other. sees_moved key seq to at s.epoch.0 other es fs h;
      still = λ ttl. listing_moved ttl s key seq to at (drop s.cursor es) (drop s.cursor fs)
          (moved-drop key seq to at s.epoch.0 s.cursor es fs h);
      listed = λ ttl. listing_moved ttl s key seq to at (take s.cursor es) (take s.cursor fs)
          (moved-take key seq to at s.epoch.0 s.cursor es fs h);
    }
