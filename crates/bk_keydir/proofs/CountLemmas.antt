-- By how much a change of the entries changes the counts of a file.
use Rattle.std.proofs.Common.{◌≡◌, ℕ, zero, suc, ◌+◌, ◌<◌, Bool, true, List, [], ◌∷◌, Option, refl, sym, ap, ◌∙◌, arith, inl, inr, length, get_or}
use Rattle.std.specs.List.{find, sum_by}
use Rattle.std.specs.Str.{bytes_eq}
use Rattle.std.proofs.lemmas.Bool.{cases_Bool}
use Rattle.std.proofs.lemmas.List.Sums.{sum_by-cons, sum_by-swap_remove}
use Rattle.bk_base.specs.declared.numbers.FileId.{FileId}
use Rattle.bk_base.specs.declared.writes.Version.{Version}
use Rattle.bk_keydir.specs.declared.slots.Slot.{Slot}
use Rattle.bk_keydir.specs.Keydir.{Entry, dropped_at, edited, edited_at, is_lone_gone, is_put_of, is_unseen, keeps_newest, left_by_prune, moved, newest_of, newest_placed, pruned, put_over, replaced, versions_at, versions_of, with_version, without_first, without_gone}
use Rattle.bk_keydir.specs.Counts.{MoveCounts, PruneCounts, PutCounts, SameCounts, bytes_if, bytes_in, live_of, one_if, one_in, refs_in, refs_of}

-- A put

refs_over : (file : ℕ) (slots : List (Option Slot)) (v : Version) (vs : List Version)
    → refs_in file (put_over slots v vs) + one_if file (replaced slots vs) ≡ refs_in file vs + one_in file v
refs_over file slots v [] = omega arith
refs_over file slots v (w ∷ vs) =
    elim (cases_Bool (keeps_newest slots (w ∷ vs))) [
      | inl p ↦ rw p (omega arith)
      | inr p ↦ rw p (omega arith)
    ]

live_put : (file : ℕ) (slots : List (Option Slot)) (key : List ℕ) (v : Version) (es : List Entry)
    → live_of file (with_version slots key v es) + bytes_if file (newest_of (versions_of key es)) ≡ live_of file es + bytes_in file v
live_put file slots key v [] = omega arith
live_put file slots key v (e ∷ es) =
    elim (cases_Bool (bytes_eq key e.0)) [
      | inl p ↦ rw p (omega arith)
      | inr p ↦ let k = live_put file slots key v es in rw p (omega (arith, k))
    ]

refs_put : (file : ℕ) (slots : List (Option Slot)) (key : List ℕ) (v : Version) (es : List Entry)
    → refs_of file (with_version slots key v es) + one_if file (replaced slots (versions_of key es)) ≡ refs_of file es + one_in file v
refs_put file slots key v [] = omega arith
refs_put file slots key v (e ∷ es) =
    elim (cases_Bool (bytes_eq key e.0)) [
      | inl p ↦ let k = refs_over file slots v e.1 in rw p (omega (arith, k))
      | inr p ↦ let k = refs_put file slots key v es in rw p (omega (arith, k))
    ]

pub put_counts : (slots : List (Option Slot)) (key : List ℕ) (v : Version) (es : List Entry)
    → PutCounts v (newest_of (versions_of key es)) (replaced slots (versions_of key es)) es (with_version slots key v es)
put_counts slots key v es = record {
  live = λ file. live_put file slots key v es;
  refs = λ file. refs_put file slots key v es;
}

-- A move

refs_after : (file seq : ℕ) (to : FileId) (at : ℕ) (vs : List Version) → is_put_of seq vs ≡ true
    → refs_in file (moved seq to at vs) + one_if file (newest_of vs) ≡ refs_in file vs + one_if file (newest_of (newest_placed to at vs))
refs_after file seq to at [] is = absurd (cc is)
refs_after file seq to at (v ∷ vs) is = rw is (omega arith)

live_after : (file seq : ℕ) (to : FileId) (at : ℕ) (vs : List Version) → is_put_of seq vs ≡ true
    → newest_of (moved seq to at vs) ≡ newest_of (newest_placed to at vs)
live_after file seq to at vs is = rw is refl

live_moved : (file : ℕ) (key : List ℕ) (seq : ℕ) (to : FileId) (at : ℕ) (es : List Entry) → is_put_of seq (versions_of key es) ≡ true
    → live_of file (edited key (moved seq to at) es) + bytes_if file (newest_of (versions_of key es))
    ≡ live_of file es + bytes_if file (newest_of (newest_placed to at (versions_of key es)))
live_moved file key seq to at [] is = absurd (cc is)
live_moved file key seq to at (e ∷ es) is =
    elim (cases_Bool (bytes_eq key e.0)) [
      | inl p ↦ let k = ap (λ o. bytes_if file o) (live_after file seq to at e.1 (rw p at is)) in rw p (omega (arith, k))
      | inr p ↦ let k = live_moved file key seq to at es (rw p at is) in rw p (omega (arith, k))
    ]

refs_moved : (file : ℕ) (key : List ℕ) (seq : ℕ) (to : FileId) (at : ℕ) (es : List Entry) → is_put_of seq (versions_of key es) ≡ true
    → refs_of file (edited key (moved seq to at) es) + one_if file (newest_of (versions_of key es))
    ≡ refs_of file es + one_if file (newest_of (newest_placed to at (versions_of key es)))
refs_moved file key seq to at [] is = absurd (cc is)
refs_moved file key seq to at (e ∷ es) is =
    elim (cases_Bool (bytes_eq key e.0)) [
      | inl p ↦ let k = refs_after file seq to at e.1 (rw p at is) in rw p (omega (arith, k))
      | inr p ↦ let k = refs_moved file key seq to at es (rw p at is) in rw p (omega (arith, k))
    ]

pub move_counts : (key : List ℕ) (seq : ℕ) (to : FileId) (at : ℕ) (es : List Entry) → is_put_of seq (versions_of key es) ≡ true
    → MoveCounts to at (versions_of key es) es (edited key (moved seq to at) es)
move_counts key seq to at es is = record {
  live = λ file. live_moved file key seq to at es is;
  refs = λ file. refs_moved file key seq to at es is;
}

-- A version that goes

refs_without : (file : ℕ) (test : Version → Bool) (vs : List Version)
    → refs_in file (without_first test vs) + one_if file (find test vs) ≡ refs_in file vs
refs_without file test [] = omega arith
refs_without file test (v ∷ vs) =
    elim (cases_Bool (test v)) [
      | inl p ↦ rw p (omega arith)
      | inr p ↦ let k = refs_without file test vs in rw p (omega (arith, k))
    ]

refs_left : (file : ℕ) (slots : List (Option Slot)) (vs : List Version)
    → refs_in file (left_by_prune slots vs) + one_if file (pruned slots vs) ≡ refs_in file vs
refs_left file slots [] = omega arith
refs_left file slots (v ∷ vs) = let k = refs_without file (is_unseen slots (v ∷ vs)) vs in omega (arith, k)

pub newest_left : (slots : List (Option Slot)) (vs : List Version) → newest_of (left_by_prune slots vs) ≡ newest_of vs
newest_left slots [] = refl
newest_left slots (v ∷ vs) = refl

live_pruned : (file : ℕ) (slots : List (Option Slot)) (n : ℕ) (es : List Entry)
    → live_of file (edited_at n (left_by_prune slots) es) ≡ live_of file es
live_pruned file slots n [] = refl
live_pruned file slots zero (e ∷ es) = ap (λ o. bytes_if file o + live_of file es) (newest_left slots e.1)
live_pruned file slots (suc n) (e ∷ es) = ap (λ m. bytes_if file (newest_of e.1) + m) (live_pruned file slots n es)

refs_pruned : (file : ℕ) (slots : List (Option Slot)) (n : ℕ) (es : List Entry)
    → refs_of file (edited_at n (left_by_prune slots) es) + one_if file (pruned slots (versions_at n es)) ≡ refs_of file es
refs_pruned file slots n [] = omega arith
refs_pruned file slots zero (e ∷ es) = let k = refs_left file slots e.1 in omega (arith, k)
refs_pruned file slots (suc n) (e ∷ es) = let k = refs_pruned file slots n es in omega (arith, k)

pub prune_counts : (slots : List (Option Slot)) (n : ℕ) (es : List Entry)
    → PruneCounts (pruned slots (versions_at n es)) es (edited_at n (left_by_prune slots) es)
prune_counts slots n es = record {
  live = λ file. live_pruned file slots n es;
  refs = λ file. refs_pruned file slots n es;
}

-- A key that is gone

gone_counts : (file : ℕ) (vs : List Version) → is_lone_gone vs ≡ true → (bytes_if file (newest_of vs) ≡ 0) × (refs_in file vs ≡ 0)
gone_counts file [] is = absurd (cc is)
gone_counts file (v ∷ []) is = (rw is refl, rw is refl)
gone_counts file (v ∷ w ∷ vs) is = absurd (cc is)

live_sum : (file : ℕ) (es : List Entry) → live_of file es ≡ sum_by (λ (e : Entry). bytes_if file (newest_of e.1)) es
live_sum file [] = refl
live_sum file (e ∷ es) =
    ap (λ m. bytes_if file (newest_of e.1) + m) (live_sum file es)
    ∙ sym (sum_by-cons (λ (x : Entry). bytes_if file (newest_of x.1)) e es)

refs_sum : (file : ℕ) (es : List Entry) → refs_of file es ≡ sum_by (λ (e : Entry). refs_in file e.1) es
refs_sum file [] = refl
refs_sum file (e ∷ es) =
    ap (λ m. refs_in file e.1 + m) (refs_sum file es) ∙ sym (sum_by-cons (λ (x : Entry). refs_in file x.1) e es)

versions_read : (n : ℕ) (es : List Entry) (d : Entry) → n < length es → (get_or es n d).1 ≡ versions_at n es
versions_read n [] d low = absurd (omega (arith, low))
versions_read zero (e ∷ es) d low = refl
versions_read (suc n) (e ∷ es) d low = versions_read n es d (omega (arith, low))

pub drop_counts : (n : ℕ) (es : List Entry) → n < length es → is_lone_gone (versions_at n es) ≡ true → SameCounts es (dropped_at n es)
drop_counts n es low is =
    let read = versions_read n es ([], []) low in
    record {
      live = λ file.
          let none : bytes_if file (newest_of (get_or es n ([], [])).1) ≡ 0 = rw read (gone_counts file (versions_at n es) is).0 in
          let k = sum_by-swap_remove (λ (e : Entry). bytes_if file (newest_of e.1)) es n ([], []) low in
          let before = live_sum file es in
          let after = live_sum file (dropped_at n es) in
          omega (arith, k, before, after, none);
      refs = λ file.
          let none : refs_in file (get_or es n ([], [])).1 ≡ 0 = rw read (gone_counts file (versions_at n es) is).1 in
          let k = sum_by-swap_remove (λ (e : Entry). refs_in file e.1) es n ([], []) low in
          let before = refs_sum file es in
          let after = refs_sum file (dropped_at n es) in
          omega (arith, k, before, after, none);
    }

live_kept : (file : ℕ) (es : List Entry) → live_of file (without_gone es) ≡ live_of file es
live_kept file [] = refl
live_kept file (e ∷ es) =
    elim (cases_Bool (is_lone_gone e.1)) [
      | inl p ↦ let none = (gone_counts file e.1 p).0 in let k = live_kept file es in rw p (omega (arith, none, k))
      | inr p ↦ rw p (ap (λ m. bytes_if file (newest_of e.1) + m) (live_kept file es))
    ]

refs_kept : (file : ℕ) (es : List Entry) → refs_of file (without_gone es) ≡ refs_of file es
refs_kept file [] = refl
refs_kept file (e ∷ es) =
    elim (cases_Bool (is_lone_gone e.1)) [
      | inl p ↦ let none = (gone_counts file e.1 p).1 in let k = refs_kept file es in rw p (omega (arith, none, k))
      | inr p ↦ rw p (ap (λ m. refs_in file e.1 + m) (refs_kept file es))
    ]

pub gone_same : (es : List Entry) → SameCounts es (without_gone es)
gone_same es = record { live = λ file. live_kept file es; refs = λ file. refs_kept file es }

pub same_counts : (es : List Entry) → SameCounts es es
same_counts es = record { live = λ file. refl; refs = λ file. refl }
