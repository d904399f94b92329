-- The table's entries, and what a keydir shows of them.
use Rattle.std.proofs.Common.{◌≡◌, ℕ, zero, suc, ◌+◌, ◌-◌, ◌<◌, ◌≤◌, Bool, false, not, List, [], ◌∷◌, Option, Some, None, refl, sym, ap, ◌∙◌, subst, arith, inl, inr, length, map, take, filter, slice_get, slice_set, get_or, is_some}
use Rattle.std.specs.Map.{keys_of, lookup}
use Rattle.std.specs.List.{find, position_or_len, swap_remove}
use Rattle.std.specs.Str.{bytes_eq}
use Rattle.std.specs.Borrow.{Bor}
use Rattle.std.specs.Option.{IfSome, option_copied}
use Rattle.std.proofs.lemmas.Bool.{cases_Bool}
use Rattle.std.proofs.lemmas.List.{get_or_default, length-map, map-set, take-map}
use Rattle.indexmap.specs.IndexMap.{insert_entry}
use Rattle.indexmap.specs.Layout.{set_value_at}
use Rattle.bk_base.specs.declared.numbers.FileId.{FileId}
use Rattle.bk_base.specs.declared.writes.Version.{Version}
use Rattle.bk_base.specs.Places.{IsFirstOf}
use Rattle.bk_keydir.specs.declared.kept.Kept.{Kept}
use Rattle.bk_keydir.specs.declared.slots.Slot.{Slot}
use Rattle.bk_keydir.specs.Kept.{AreChains, IsChain, all_shown, shown, versions_if, versions_in}
use Rattle.bk_keydir.specs.Keydir.{Entry, FallsBelow, IsNewerThan, dropped_at, edited, edited_at, is_lone_gone, is_put_of, is_unseen, keeps_newest, key_at, left_by_prune, moved, pruned, put_over, versions_at, versions_of, with_version, without_first, without_gone}

-- A look-up, and a read by position

pub versions_of-shown : (key : List ℕ) (es : List (List ℕ × Kept))
    → versions_of key (all_shown es) ≡ versions_if (lookup (bytes_eq key) es)
versions_of-shown key [] = refl
versions_of-shown key (e ∷ es) =
    elim (cases_Bool (bytes_eq key e.0)) [
      | inl p ↦ rw p refl
      | inr p ↦ rw p (versions_of-shown key es)
    ]

pub keys_of-shown : (es : List (List ℕ × Kept)) → keys_of (all_shown es) ≡ keys_of es
keys_of-shown [] = refl
keys_of-shown (e ∷ es) = ap (λ ks. e.0 ∷ ks) (keys_of-shown es)

pub length-shown : (es : List (List ℕ × Kept)) → length (all_shown es) ≡ length es
length-shown es = length-map es shown

pub versions_at-shown : (n : ℕ) (es : List (List ℕ × Kept)) (e : List ℕ × Kept) → slice_get es n ≡ Some e
    → (versions_at n (all_shown es) ≡ versions_in e.1) × (key_at n (all_shown es) ≡ Some e.0)
versions_at-shown n [] e at = absurd (cc at)
versions_at-shown zero (x ∷ es) e at = let is : x ≡ e = cc at in
    (ap (λ (y : List ℕ × Kept). versions_in y.1) is, ap (λ (y : List ℕ × Kept). Some y.0) is)
versions_at-shown (suc n) (x ∷ es) e at = versions_at-shown n es e at

pub versions_at-past : (n : ℕ) (es : List Entry) → length es ≤ n → versions_at n es ≡ []
versions_at-past n [] high = refl
versions_at-past zero (e ∷ es) high = absurd (omega (arith, high))
versions_at-past (suc n) (e ∷ es) high = versions_at-past n es (omega (arith, high))

-- Chains stay chains

pub chain_found : (key : List ℕ) (es : List (List ℕ × Kept)) (kept : Kept) → AreChains (all_shown es)
    → lookup (bytes_eq key) es ≡ Some kept → IsChain (versions_in kept)
chain_found key [] kept h at = absurd (cc at)
chain_found key (e ∷ es) kept h at =
    elim (cases_Bool (bytes_eq key e.0)) [
      | inl p ↦ let found : Some e.1 ≡ Some kept = rw p at at in
          let is : e.1 ≡ kept = cc found in
          subst (λ k. IsChain (versions_in k)) is h.0
      | inr p ↦ chain_found key es kept h.1 (rw p at at)
    ]

pub chain_at : (n : ℕ) (es : List (List ℕ × Kept)) (e : List ℕ × Kept) → AreChains (all_shown es) → slice_get es n ≡ Some e
    → IsChain (versions_in e.1)
chain_at n [] e h at = absurd (cc at)
chain_at zero (x ∷ es) e h at = let is : x ≡ e = cc at in subst (λ (y : List ℕ × Kept). IsChain (versions_in y.1)) is h.0
chain_at (suc n) (x ∷ es) e h at = chain_at n es e h.1 at

falls_more : (m n : ℕ) (vs : List Version) → m ≤ n → FallsBelow m vs → FallsBelow n vs
falls_more m n [] le h = tt
falls_more m n (v ∷ vs) le h = (omega (arith, h.0), h.1)

pub chain-put_over : (slots : List (Option Slot)) (v : Version) (vs : List Version) → IsChain vs → IsNewerThan v.seq.0 vs
    → IsChain (put_over slots v vs)
chain-put_over slots v [] h newer = absurd h
chain-put_over slots v (w ∷ vs) h newer =
    elim (cases_Bool (keeps_newest slots (w ∷ vs))) [
      | inl p ↦ rw p (newer, h)
      | inr p ↦ rw p (falls_more w.seq.0 v.seq.0 vs (omega (arith, newer)) h)
    ]

pub chains-with_version : (slots : List (Option Slot)) (key : List ℕ) (v : Version) (es : List Entry) → AreChains es
    → IsNewerThan v.seq.0 (versions_of key es) → AreChains (with_version slots key v es)
chains-with_version slots key v [] h newer = (tt, tt)
chains-with_version slots key v (e ∷ es) h newer =
    elim (cases_Bool (bytes_eq key e.0)) [
      | inl p ↦ rw p (chain-put_over slots v e.1 h.0 (rw p at newer), h.1)
      | inr p ↦ rw p (h.0, chains-with_version slots key v es h.1 (rw p at newer))
    ]

pub chains-edited : (key : List ℕ) (f : List Version → List Version) → ((vs : List Version) → IsChain vs → IsChain (f vs))
    → (es : List Entry) → AreChains es → AreChains (edited key f es)
chains-edited key f k [] h = tt
chains-edited key f k (e ∷ es) h =
    elim (cases_Bool (bytes_eq key e.0)) [
      | inl p ↦ rw p (k e.1 h.0, h.1)
      | inr p ↦ rw p (h.0, chains-edited key f k es h.1)
    ]

pub chains-edited_at : (n : ℕ) (f : List Version → List Version) → ((vs : List Version) → IsChain vs → IsChain (f vs))
    → (es : List Entry) → AreChains es → AreChains (edited_at n f es)
chains-edited_at n f k [] h = tt
chains-edited_at zero f k (e ∷ es) h = (k e.1 h.0, h.1)
chains-edited_at (suc n) f k (e ∷ es) h = (h.0, chains-edited_at n f k es h.1)

chains-take : (n : ℕ) (es : List Entry) → AreChains es → AreChains (take n es)
chains-take zero es h = tt
chains-take (suc n) [] h = tt
chains-take (suc n) (e ∷ es) h = (h.0, chains-take n es h.1)

chains-set : (es : List Entry) (n : ℕ) (e : Entry) → IsChain e.1 → AreChains es → AreChains (slice_set es n e)
chains-set [] n e k h = tt
chains-set (x ∷ es) zero e k h = (k, h.1)
chains-set (x ∷ es) (suc n) e k h = (h.0, chains-set es n e k h.1)

chain_read : (es : List Entry) (n : ℕ) (d : Entry) → n < length es → AreChains es → IsChain (get_or es n d).1
chain_read [] n d low h = absurd (omega (arith, low))
chain_read (e ∷ es) zero d low h = h.0
chain_read (e ∷ es) (suc n) d low h = chain_read es n d (omega (arith, low)) h.1

pub chains-dropped_at : (n : ℕ) (es : List Entry) → n < length es → AreChains es → AreChains (dropped_at n es)
chains-dropped_at n es low h =
    let last = chain_read es (length es - 1) ([], []) (omega (arith, low)) h in
    chains-take (length es - 1) (slice_set es n (get_or es (length es - 1) ([], [])))
    (chains-set es n (get_or es (length es - 1) ([], [])) last h)

pub chains-without_gone : (es : List Entry) → AreChains es → AreChains (without_gone es)
chains-without_gone [] h = tt
chains-without_gone (e ∷ es) h =
    elim (cases_Bool (not (is_lone_gone e.1))) [
      | inl p ↦ rw p (h.0, chains-without_gone es h.1)
      | inr p ↦ rw p (chains-without_gone es h.1)
    ]

-- Changes of the table

one_more : (n : ℕ) → 1 + n ≡ suc n
one_more n = omega arith

-- a new key
pub shown-inserted_new : (slots : List (Option Slot)) (key : List ℕ) (v : Version) (one : Kept) (es : List (List ℕ × Kept))
    → versions_in one ≡ v ∷ [] → lookup (bytes_eq key) es ≡ None
    → all_shown (insert_entry bytes_eq es key one) ≡ with_version slots key v (all_shown es)
shown-inserted_new slots key v one [] is none = ap (λ vs. (key, vs) ∷ []) is
shown-inserted_new slots key v one (e ∷ es) is none =
    elim (cases_Bool (bytes_eq key e.0)) [
      | inl p ↦ let there : Some e.1 ≡ None = rw p at none in absurd (cc there)
      | inr p ↦ rw p (ap (λ ys. shown e ∷ ys) (shown-inserted_new slots key v one es is (rw p at none)))
    ]

-- a key that is there, whose entry is written twice
pub shown-inserted : (slots : List (Option Slot)) (key : List ℕ) (v : Version) (one earlier kept : Kept) (es : List (List ℕ × Kept))
    → lookup (bytes_eq key) es ≡ Some earlier → versions_in kept ≡ put_over slots v (versions_in earlier)
    → all_shown (set_value_at (insert_entry bytes_eq es key one) (position_or_len (bytes_eq key) (keys_of es)) kept)
    ≡ with_version slots key v (all_shown es)
shown-inserted slots key v one earlier kept [] at is = absurd (cc at)
shown-inserted slots key v one earlier kept (e ∷ es) at is =
    elim (cases_Bool (bytes_eq key e.0)) [
      | inl p ↦ let found : Some e.1 ≡ Some earlier = rw p at at in
          let same : earlier ≡ e.1 = cc found in
          let shows : versions_in kept ≡ put_over slots v (versions_in e.1) = rw same at is in
          rw p (ap (λ vs. (e.0, vs) ∷ all_shown es) shows)
      | inr p ↦ rw (p, one_more (position_or_len (bytes_eq key) (keys_of es)))
          (ap (λ ys. shown e ∷ ys) (shown-inserted slots key v one earlier kept es (rw p at at) is))
    ]

-- a value that is written at its place
pub shown-written_at : (n : ℕ) (f : List Version → List Version) (kept : Kept) (es : List (List ℕ × Kept)) (e : List ℕ × Kept)
    → slice_get es n ≡ Some e → versions_in kept ≡ f (versions_in e.1)
    → all_shown (set_value_at es n kept) ≡ edited_at n f (all_shown es)
shown-written_at n f kept [] e at is = absurd (cc at)
shown-written_at zero f kept (x ∷ es) e at is =
    let same : e ≡ x = cc at in
    let shows : versions_in kept ≡ f (versions_in x.1) = rw same at is in
    ap (λ vs. (x.0, vs) ∷ all_shown es) shows
shown-written_at (suc n) f kept (x ∷ es) e at is = ap (λ ys. shown x ∷ ys) (shown-written_at n f kept es e at is)

-- the last in the place of another
pub shown-swap_remove : (es : List (List ℕ × Kept)) (n : ℕ) (d : List ℕ × Kept) → n < length es
    → all_shown (swap_remove es n d) ≡ dropped_at n (all_shown es)
shown-swap_remove es n d low =
    let len = length-shown es in
    let low2 : length es - 1 < length (all_shown es) = omega (arith, low, len) in
    let last : shown (get_or es (length es - 1) d) ≡ get_or (all_shown es) (length es - 1) ([], []) =
    sym (get_or_map shown es (length es - 1) d) ∙ get_or_default (all_shown es) (length es - 1) (shown d) ([], []) low2 in
    let written : all_shown (slice_set es n (get_or es (length es - 1) d))
    ≡ slice_set (all_shown es) n (get_or (all_shown es) (length es - 1) ([], [])) =
    map-set shown es n (get_or es (length es - 1) d) ∙ ap (λ x. slice_set (all_shown es) n x) last in
    rw len (sym (take-map shown (length es - 1) (slice_set es n (get_or es (length es - 1) d))) ∙ ap (λ ys. take (length es - 1) ys) written)
  where
    get_or_map : (f : List ℕ × Kept → Entry) (xs : List (List ℕ × Kept)) (i : ℕ) (x : List ℕ × Kept) → get_or (map f xs) i (f x) ≡ f (get_or xs i x)
    get_or_map f [] i x = refl
    get_or_map f (y ∷ xs) zero x = refl
    get_or_map f (y ∷ xs) (suc i) x = get_or_map f xs i x

pub shown-filter : (es : List (List ℕ × Kept))
    → all_shown (filter (λ (e : List ℕ × Kept). not (is_lone_gone (versions_in e.1))) es) ≡ without_gone (all_shown es)
shown-filter [] = refl
shown-filter (e ∷ es) =
    elim (cases_Bool (not (is_lone_gone (versions_in e.1)))) [
      | inl p ↦ rw p (ap (λ ys. shown e ∷ ys) (shown-filter es))
      | inr p ↦ rw p (shown-filter es)
    ]

-- What a look-up gives

pub chain_if : (key : List ℕ) (es : List (List ℕ × Kept)) (o : Option (Bor Kept)) → AreChains (all_shown es)
    → option_copied o ≡ lookup (bytes_eq key) es → IfSome o (λ kept. IsChain (versions_in kept.now))
chain_if key es None h at = tt
chain_if key es (Some kept) h at = chain_found key es kept.now h (sym at)

pub versions_at-none : (n : ℕ) (es : List (List ℕ × Kept)) → slice_get es n ≡ None → versions_at n (all_shown es) ≡ []
versions_at-none n [] at = refl
versions_at-none zero (e ∷ es) at = absurd (cc at)
versions_at-none (suc n) (e ∷ es) at = versions_at-none n es at

-- the entry at a place is swapped out
pub shown-swapped : (n : ℕ) (es new : List (List ℕ × Kept)) (o : Option (List ℕ × Kept)) → n < length es → o ≡ slice_get es n
    → IfSome o (λ p. new ≡ swap_remove es n p) → all_shown new ≡ dropped_at n (all_shown es)
shown-swapped n es new None low at is = absurd (none_within n es low (sym at))
  where
    none_within : (n : ℕ) (es : List (List ℕ × Kept)) → n < length es → slice_get es n ≡ None → ⊥
    none_within n [] low at = absurd (omega (arith, low))
    none_within zero (e ∷ es) low at = cc at
    none_within (suc n) (e ∷ es) low at = none_within n es (omega (arith, low)) at
shown-swapped n es new (Some p) low at is = ap all_shown is ∙ shown-swap_remove es n p low

-- a chain stays one when its newest version moves, or an older one goes
pub chain-moved : (seq : ℕ) (to : FileId) (at : ℕ) (vs : List Version) → IsChain vs → IsChain (moved seq to at vs)
chain-moved seq to at [] h = absurd h
chain-moved seq to at (v ∷ vs) h =
    elim (cases_Bool (is_put_of seq (v ∷ vs))) [ inl p ↦ rw p h | inr p ↦ rw p h ]

falls-without : (test : Version → Bool) (n : ℕ) (vs : List Version) → FallsBelow n vs → FallsBelow n (without_first test vs)
falls-without test n [] h = tt
falls-without test n (v ∷ vs) h =
    elim (cases_Bool (test v)) [
      | inl p ↦ rw p (falls_more v.seq.0 n vs (omega (arith, h.0)) h.1)
      | inr p ↦ rw p (h.0, falls-without test v.seq.0 vs h.1)
    ]

pub chain-left : (slots : List (Option Slot)) (vs : List Version) → IsChain vs → IsChain (left_by_prune slots vs)
chain-left slots [] h = absurd h
chain-left slots (v ∷ vs) h = falls-without (is_unseen slots (v ∷ vs)) v.seq.0 vs h

-- nothing changes where there is nothing to take, or to move
none_found : (test : Version → Bool) (vs : List Version) → find test vs ≡ None → without_first test vs ≡ vs
none_found test [] h = refl
none_found test (v ∷ vs) h =
    elim (cases_Bool (test v)) [
      | inl p ↦ let there : Some v ≡ None = rw p at h in absurd (cc there)
      | inr p ↦ rw p (ap (λ ws. v ∷ ws) (none_found test vs (rw p at h)))
    ]

nothing_left : (slots : List (Option Slot)) (vs : List Version) → pruned slots vs ≡ None → left_by_prune slots vs ≡ vs
nothing_left slots [] h = refl
nothing_left slots (v ∷ vs) h = ap (λ ws. v ∷ ws) (none_found (is_unseen slots (v ∷ vs)) vs h)

pub edited_at-same : (slots : List (Option Slot)) (n : ℕ) (es : List Entry) → pruned slots (versions_at n es) ≡ None
    → edited_at n (left_by_prune slots) es ≡ es
edited_at-same slots n [] h = refl
edited_at-same slots zero (e ∷ es) h = ap (λ vs. (e.0, vs) ∷ es) (nothing_left slots e.1 h)
edited_at-same slots (suc n) (e ∷ es) h = ap (λ ys. e ∷ ys) (edited_at-same slots n es h)

pub edited-same : (key : List ℕ) (seq : ℕ) (to : FileId) (at : ℕ) (es : List Entry) → is_put_of seq (versions_of key es) ≡ false
    → edited key (moved seq to at) es ≡ es
edited-same key seq to at [] h = refl
edited-same key seq to at (e ∷ es) h =
    elim (cases_Bool (bytes_eq key e.0)) [
      | inl p ↦ let not_put : is_put_of seq e.1 ≡ false = rw p at h in rw (p, not_put) refl
      | inr p ↦ rw p (ap (λ ys. e ∷ ys) (edited-same key seq to at es (rw p at h)))
    ]

-- a value that is written at the place where its key was found
pub found_first : (key : List ℕ) (es : List (List ℕ × Kept)) (i : ℕ) (e : List ℕ × Kept) → IsFirstOf (bytes_eq key) (keys_of es) i
    → slice_get es i ≡ Some e → versions_of key (all_shown es) ≡ versions_in e.1
found_first key [] i e h at = absurd h
found_first key (x ∷ es) zero e h at = let is : x ≡ e = cc at in rw h (ap (λ (y : List ℕ × Kept). versions_in y.1) is)
found_first key (x ∷ es) (suc i) e h at = rw h.0 (found_first key es i e h.1 at)

pub written_first : (key : List ℕ) (f : List Version → List Version) (kept : Kept) (es : List (List ℕ × Kept)) (i : ℕ) (e : List ℕ × Kept)
    → IsFirstOf (bytes_eq key) (keys_of es) i → slice_get es i ≡ Some e → versions_in kept ≡ f (versions_in e.1)
    → all_shown (set_value_at es i kept) ≡ edited key f (all_shown es)
written_first key f kept [] i e h at is = absurd h
written_first key f kept (x ∷ es) zero e h at is =
    let same : e ≡ x = cc at in
    let shows : versions_in kept ≡ f (versions_in x.1) = rw same at is in
    rw h (ap (λ vs. (x.0, vs) ∷ all_shown es) shows)
written_first key f kept (x ∷ es) (suc i) e h at is = rw h.0 (ap (λ ys. shown x ∷ ys) (written_first key f kept es i e h.1 at is))

pub versions_of-absent : (key : List ℕ) (es : List (List ℕ × Kept)) → false ≡ is_some (lookup (bytes_eq key) es)
    → versions_of key (all_shown es) ≡ []
versions_of-absent key es none = versions_of-shown key es ∙ by (lookup (bytes_eq key) es) none
  where
    by : (o : Option Kept) → false ≡ is_some o → versions_if o ≡ []
    by None h = refl
    by (Some kept) h = absurd (cc h)
