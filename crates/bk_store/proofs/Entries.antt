-- The keydir's list, as a sweep drops versions and keys from it.
use Rattle.std.proofs.Common.{◌≡◌, ◌⊎◌, ℕ, zero, suc, ◌+◌, ◌-◌, ◌<◌, ◌==◌, Bool, true, false, cond, List, [], ◌∷◌, length, get_or, set, Option, Some, None, refl, sym, ap, subst, ◌∙◌, arith, inl, inr, get_or-set_same, get_or-set_other, get_or-take, length-take, length-set, eq-eqb, eqb-true}
use Rattle.std.specs.List.{AllByRecursion, IsDistinct, find}
use Rattle.std.specs.Map.{keys_of}
use Rattle.std.specs.Str.{bytes_eq}
use Rattle.std.proofs.lemmas.Bool.{cases_Bool, true≢false}
use Rattle.std.proofs.lemmas.Bool.Decides.{nat_tests}
use Rattle.std.proofs.lemmas.List.Sums.{sum_by-cons, sum_by-swap_remove}
use Rattle.std.proofs.lemmas.Map.Keys.{IsDistinct-head, IsDistinct-tail}
use Rattle.bk_base.specs.declared.writes.Version.{Version}
use Rattle.bk_image.specs.Readings.{In}
use Rattle.bk_keydir.specs.declared.slots.Slot.{Slot}
use Rattle.bk_keydir.specs.Keydir.{Entry, dropped_at, edited_at, is_lone_gone, is_unseen, key_at, left_by_prune, newest_of, pruned, versions_at, versions_of, without_first}
use Rattle.bk_store.specs.Sweeps.{versions_in}
use Rattle.bk_store.proofs.Keys.{key_is, key_same, key_sym}
use Rattle.bk_store.proofs.Listings.{versions_there}
use Rattle.bk_keydir.proofs.CountLemmas.{newest_left}

-- ---- by position

pub versions_get : (p : ℕ) (es : List Entry) → versions_at p es ≡ (get_or es p ([], [])).1
versions_get p [] = refl
versions_get zero (e ∷ es) = refl
versions_get (suc p) (e ∷ es) = versions_get p es

key_get : (p : ℕ) (es : List Entry) → p < length es → key_at p es ≡ Some (get_or es p ([], [])).0
key_get p [] low = absurd (omega arith)
key_get zero (e ∷ es) low = refl
key_get (suc p) (e ∷ es) low = key_get p es (omega arith)

in_get : (p : ℕ) (es : List Entry) → p < length es → In (get_or es p ([], [])) es
in_get p [] low = absurd (omega arith)
in_get zero (e ∷ es) low = inl refl
in_get (suc p) (e ∷ es) low = inr (in_get p es (omega arith))

in_index : (e : Entry) (es : List Entry) → In e es → (p : ℕ) × (p < length es) × (e ≡ get_or es p ([], []))
in_index e [] h = absurd h
in_index e (d ∷ es) (inl is) = (0, omega arith, is)
in_index e (d ∷ es) (inr later) =
    let (p, low, is) = in_index e es later in
    (suc p, omega (arith, low), is)

-- ---- keys that stand once

apart_get : (k : List ℕ) (p : ℕ) (es : List Entry) → AllByRecursion (λ (y : List ℕ). bytes_eq k y ≡ false) (keys_of es) → p < length es
    → bytes_eq k (get_or es p ([], [])).0 ≡ false
apart_get k p [] all low = absurd (omega arith)
apart_get k zero (e ∷ es) all low = all.0
apart_get k (suc p) (e ∷ es) all low = apart_get k p es all.1 (omega arith)

-- at two positions stand two keys
keys_apart : (p q : ℕ) (es : List Entry) → IsDistinct bytes_eq (keys_of es) → p < length es → q < length es → (p ≡ q → ⊥)
    → bytes_eq (get_or es p ([], [])).0 (get_or es q ([], [])).0 ≡ false
keys_apart p q [] apart low high other = absurd (omega arith)
keys_apart zero zero (e ∷ es) apart low high other = absurd (other refl)
keys_apart zero (suc q) (e ∷ es) apart low high other =
    apart_get e.0 q es (IsDistinct-head bytes_eq e.0 (keys_of es) apart) (omega arith)
keys_apart (suc p) zero (e ∷ es) apart low high other =
    key_sym (get_or es p ([], [])).0 e.0 ∙ apart_get e.0 p es (IsDistinct-head bytes_eq e.0 (keys_of es) apart) (omega arith)
keys_apart (suc p) (suc q) (e ∷ es) apart low high other =
    keys_apart p q es (IsDistinct-tail bytes_eq e.0 (keys_of es) apart) (omega arith) (omega arith) (λ is. other (ap suc is))

-- the versions of a key that is there
versions_in_entry : (e : Entry) (es : List Entry) → IsDistinct bytes_eq (keys_of es) → In e es → versions_of e.0 es ≡ e.1
versions_in_entry e es apart there =
    let (p, low, is) = in_index e es there in
    versions_there p es e.0 apart (key_get p es low ∙ ap Some (sym (ap (λ (f : Entry). f.0) is)))
    ∙ versions_get p es ∙ sym (ap (λ (f : Entry). f.1) is)

no_versions : (key : List ℕ) (es : List Entry) → ((e : Entry) → In e es → bytes_eq key e.0 ≡ false) → versions_of key es ≡ []
no_versions key [] none = refl
no_versions key (e ∷ es) none = rw (none e (inl refl)) (no_versions key es (λ f later. none f (inr later)))

find_key : (key : List ℕ) (es : List Entry)
    → ((e : Entry) × In e es × (key ≡ e.0)) ⊎ ((e : Entry) → In e es → bytes_eq key e.0 ≡ false)
find_key key [] = inr (λ e h. absurd h)
find_key key (e ∷ es) =
    elim (cases_Bool (bytes_eq key e.0)) [
      | inl p ↦ inl (e, inl refl, key_is key e.0 p)
      | inr p ↦
          elim (find_key key es) [
            | inl there ↦ inl (there.0, inr there.1, there.2)
            | inr none ↦ inr (λ f h. other p none f h)
          ]
    ] where
      other : bytes_eq key e.0 ≡ false → ((f : Entry) → In f es → bytes_eq key f.0 ≡ false) → (f : Entry) → In f (e ∷ es)
          → bytes_eq key f.0 ≡ false
      other p none f (inl is) = ap (λ (d : Entry). bytes_eq key d.0) is ∙ p
      other p none f (inr later) = none f later

-- ---- an edit at a position

pub length_edited : (n : ℕ) (f : List Version → List Version) (es : List Entry) → length (edited_at n f es) ≡ length es
length_edited n f [] = refl
length_edited zero f (e ∷ es) = refl
length_edited (suc n) f (e ∷ es) = ap suc (length_edited n f es)

pub edited_there : (n : ℕ) (f : List Version → List Version) (es : List Entry) → n < length es
    → versions_at n (edited_at n f es) ≡ f (versions_at n es)
edited_there n f [] low = absurd (omega arith)
edited_there zero f (e ∷ es) low = refl
edited_there (suc n) f (e ∷ es) low = edited_there n f es (omega arith)

pub edited_before : (p n : ℕ) (f : List Version → List Version) (es : List Entry) → p < n
    → versions_at p (edited_at n f es) ≡ versions_at p es
edited_before p n f [] low = refl
edited_before p zero f (e ∷ es) low = absurd (omega arith)
edited_before zero (suc n) f (e ∷ es) low = refl
edited_before (suc p) (suc n) f (e ∷ es) low = edited_before p n f es (omega arith)

sum_edited : (n k : ℕ) (f : List Version → List Version) (es : List Entry) → n < length es
    → length (f (versions_at n es)) + k ≡ length (versions_at n es) → versions_in (edited_at n f es) + k ≡ versions_in es
sum_edited n k f [] low is = absurd (omega arith)
sum_edited zero k f (e ∷ es) low is =
    omega (arith, is, sum_by-cons (λ (d : Entry). length d.1) (e.0, f e.1) es, sum_by-cons (λ (d : Entry). length d.1) e es)
sum_edited (suc n) k f (e ∷ es) low is =
    omega (
      arith,
      sum_edited n k f es (omega arith) is,
      sum_by-cons (λ (d : Entry). length d.1) e (edited_at n f es),
      sum_by-cons (λ (d : Entry). length d.1) e es,
    )

-- ---- an older version is dropped

one_of : Option Version → ℕ
one_of None = 0
one_of (Some v) = 1

length_without : (test : Version → Bool) (vs : List Version) → length (without_first test vs) + one_of (find test vs) ≡ length vs
unfolding one_of
length_without test [] = refl
length_without test (v ∷ vs) = go (test v) (length_without test vs) where
  go : (b : Bool) → length (without_first test vs) + one_of (find test vs) ≡ length vs
      → length (cond b vs (v ∷ without_first test vs)) + one_of (cond b (Some v) (find test vs)) ≡ length (v ∷ vs)
  go true others = omega arith
  go false others = omega (arith, others)

length_left : (slots : List (Option Slot)) (vs : List Version) → length (left_by_prune slots vs) + one_of (pruned slots vs) ≡ length vs
unfolding one_of
length_left slots [] = refl
length_left slots (v ∷ vs) = omega (arith, length_without (is_unseen slots (v ∷ vs)) vs)

-- one version less
pub sum_pruned : (n : ℕ) (slots : List (Option Slot)) (es : List Entry) (v : Version) → n < length es
    → pruned slots (versions_at n es) ≡ Some v → versions_in (edited_at n (left_by_prune slots) es) + 1 ≡ versions_in es
unfolding one_of
sum_pruned n slots es v low is =
    sum_edited n 1 (left_by_prune slots) es low
    (ap (λ (o : Option Version). length (left_by_prune slots (versions_at n es)) + one_of o) (sym is) ∙ length_left slots (versions_at n es))

pub shorter_pruned : (n : ℕ) (slots : List (Option Slot)) (es : List Entry) (v : Version) → n < length es
    → pruned slots (versions_at n es) ≡ Some v
    → length (versions_at n (edited_at n (left_by_prune slots) es)) < length (versions_at n es)
unfolding one_of
shorter_pruned n slots es v low is =
    let one : length (left_by_prune slots (versions_at n es)) + 1 ≡ length (versions_at n es) =
    ap (λ (o : Option Version). length (left_by_prune slots (versions_at n es)) + one_of o) (sym is) ∙ length_left slots (versions_at n es) in
    omega (arith, one, ap length (edited_there n (left_by_prune slots) es low))

pub newest_pruned : (n : ℕ) (slots : List (Option Slot)) (es : List Entry) (key : List ℕ)
    → newest_of (versions_of key (edited_at n (left_by_prune slots) es)) ≡ newest_of (versions_of key es)
newest_pruned n slots [] key = refl
newest_pruned zero slots (e ∷ es) key = go (bytes_eq key e.0) where
  go : (b : Bool) → newest_of (cond b (left_by_prune slots e.1) (versions_of key es)) ≡ newest_of (cond b e.1 (versions_of key es))
  go true = newest_left slots e.1
  go false = refl
newest_pruned (suc n) slots (e ∷ es) key = go (bytes_eq key e.0) (newest_pruned n slots es key) where
  go : (b : Bool) → newest_of (versions_of key (edited_at n (left_by_prune slots) es)) ≡ newest_of (versions_of key es)
      → newest_of (cond b e.1 (versions_of key (edited_at n (left_by_prune slots) es))) ≡ newest_of (cond b e.1 (versions_of key es))
  go true others = refl
  go false others = others

in_without : (v : Version) (test : Version → Bool) (vs : List Version) → In v (without_first test vs) → In v vs
in_without v test [] h = absurd h
in_without v test (w ∷ vs) h = go (test w) h (in_without v test vs) where
  go : (b : Bool) → In v (cond b vs (w ∷ without_first test vs)) → (In v (without_first test vs) → In v vs) → In v (w ∷ vs)
  go true here others = inr here
  go false (inl is) others = inl is
  go false (inr later) others = inr (others later)

in_left : (v : Version) (slots : List (Option Slot)) (vs : List Version) → In v (left_by_prune slots vs) → In v vs
in_left v slots [] h = absurd h
in_left v slots (w ∷ vs) (inl is) = inl is
in_left v slots (w ∷ vs) (inr later) = inr (in_without v (is_unseen slots (w ∷ vs)) vs later)

-- no version is new
pub in_pruned : (n : ℕ) (slots : List (Option Slot)) (es : List Entry) (e : Entry) (v : Version)
    → In e (edited_at n (left_by_prune slots) es) → In v e.1 → (f : Entry) × In f es × (e.0 ≡ f.0) × In v f.1
in_pruned n slots [] e v h at = absurd h
in_pruned zero slots (d ∷ es) e v (inl is) at =
    (d, inl refl, ap (λ (f : Entry). f.0) is, in_left v slots d.1 (subst (λ (f : Entry). In v f.1) is at))
in_pruned zero slots (d ∷ es) e v (inr later) at = (e, inr later, refl, at)
in_pruned (suc n) slots (d ∷ es) e v (inl is) at = (e, inl is, refl, at)
in_pruned (suc n) slots (d ∷ es) e v (inr later) at =
    let (f, there, key, here) = in_pruned n slots es e v later at in
    (f, inr there, key, here)

-- ---- a key is dropped

pub length_dropped : (n : ℕ) (es : List Entry) → n < length es → length (dropped_at n es) + 1 ≡ length es
length_dropped n es low =
    let last = get_or es (length es - 1) ([], []) in
    omega (arith, length-take (length es - 1) (set es n last), length-set es n last)

-- what stands at a position after it
dropped_get : (n p : ℕ) (es : List Entry) → n < length es → p < length es - 1
    → get_or (dropped_at n es) p ([], []) ≡ cond (p == n) (get_or es (length es - 1) ([], [])) (get_or es p ([], []))
dropped_get n p es low high =
    let last = get_or es (length es - 1) ([], []) in
    get_or-take (length es - 1) (set es n last) p ([], []) high
    ∙ elim (cases_Bool (p == n)) [
      | inl q ↦
          rw q (ap (λ (k : ℕ). get_or (set es n last) k ([], [])) (eqb-true p n q) ∙ get_or-set_same es n last ([], []) low)
      | inr q ↦ rw q (get_or-set_other es n p last ([], []) (λ is. true≢false (sym (eq-eqb p n is) ∙ q)))
    ]

pub dropped_before : (p n : ℕ) (es : List Entry) → n < length es → p < n → versions_at p (dropped_at n es) ≡ versions_at p es
dropped_before p n es low before =
    let other : (p == n) ≡ false = grind (arith, nat_tests, before) in
    let at : get_or (dropped_at n es) p ([], []) ≡ get_or es p ([], []) = dropped_get n p es low (omega arith) ∙ rw other refl in
    versions_get p (dropped_at n es) ∙ ap (λ (e : Entry). e.1) at ∙ sym (versions_get p es)

-- each entry that is left stood elsewhere
dropped_from : (n : ℕ) (es : List Entry) (e : Entry) → n < length es → In e (dropped_at n es)
    → (p : ℕ) × (p < length es) × (p ≡ n → ⊥) × (e ≡ get_or es p ([], []))
dropped_from n es e low there =
    let (p, within, is) = in_index e (dropped_at n es) there in
    let high : p < length es - 1 = omega (arith, within, length_dropped n es low) in
    go p high (p == n) refl (is ∙ dropped_get n p es low high) where
      go : (p : ℕ) → p < length es - 1 → (b : Bool) → (p == n) ≡ b
          → e ≡ cond b (get_or es (length es - 1) ([], [])) (get_or es p ([], []))
          → (q : ℕ) × (q < length es) × (q ≡ n → ⊥) × (e ≡ get_or es q ([], []))
      go p high true q is =
          (length es - 1, omega arith, (λ same. absurd (omega (arith, same, eqb-true p n q, high))), is)
      go p high false q is = (p, omega arith, (λ same. true≢false (sym (eq-eqb p n same) ∙ q)), is)

-- and each that stood elsewhere is left
dropped_to : (n p : ℕ) (es : List Entry) → n < length es → p < length es → (p ≡ n → ⊥) → In (get_or es p ([], [])) (dropped_at n es)
dropped_to n p es low high other =
    elim (cases_Bool (p == length es - 1)) [
      | inl q ↦
          let is : p ≡ length es - 1 = eqb-true p (length es - 1) q in
          let below : n < length es - 1 = not_last is in
          let there = in_get n (dropped_at n es) (omega (arith, length_dropped n es low, below)) in
          let same : (n == n) ≡ true = eq-eqb n n refl in
          let at : get_or (dropped_at n es) n ([], []) ≡ get_or es p ([], []) =
          dropped_get n n es low below ∙ rw same (ap (λ (k : ℕ). get_or es k ([], [])) (sym is)) in
          subst (λ (e : Entry). In e (dropped_at n es)) at there
      | inr q ↦
          let below : p < length es - 1 = grind (arith, nat_tests, q, high) in
          let there = in_get p (dropped_at n es) (omega (arith, length_dropped n es low, below)) in
          let differs : (p == n) ≡ false = other_test in
          let at : get_or (dropped_at n es) p ([], []) ≡ get_or es p ([], []) = dropped_get n p es low below ∙ rw differs refl in
          subst (λ (e : Entry). In e (dropped_at n es)) at there
    ] where
      other_test : (p == n) ≡ false
      other_test = elim (cases_Bool (p == n)) [ inl q ↦ absurd (other (eqb-true p n q)) | inr q ↦ q ]

      not_last : p ≡ length es - 1 → n < length es - 1
      not_last is = elim (cases_Bool (n == length es - 1)) [
        | inl q ↦ absurd (other (is ∙ sym (eqb-true n (length es - 1) q)))
        | inr q ↦ grind (arith, nat_tests, q, low)
      ]

pub in_dropped : (n : ℕ) (es : List Entry) (e : Entry) → n < length es → In e (dropped_at n es) → In e es
in_dropped n es e low there =
    let (p, within, other, is) = dropped_from n es e low there in
    subst (λ (f : Entry). In f es) (sym is) (in_get p es within)

-- one version less, where the key had one
pub sum_dropped : (n : ℕ) (es : List Entry) → n < length es → is_lone_gone (versions_at n es) ≡ true
    → versions_in (dropped_at n es) + 1 ≡ versions_in es
sum_dropped n es low lone =
    omega (
      arith,
      sum_by-swap_remove (λ (e : Entry). length e.1) es n ([], []) low,
      ap length (versions_get n es),
      is_one (versions_at n es) lone,
    ) where
      is_one : (vs : List Version) → is_lone_gone vs ≡ true → length vs ≡ 1
      is_one [] h = absurd (true≢false (sym h))
      is_one (v ∷ []) h = refl
      is_one (v ∷ w ∷ vs) h = absurd (true≢false (sym h))

-- the key is there no more
pub dropped_key : (n : ℕ) (es : List Entry) (key : List ℕ) → IsDistinct bytes_eq (keys_of es) → n < length es
    → bytes_eq key (get_or es n ([], [])).0 ≡ true → (versions_of key es ≡ versions_at n es) × (versions_of key (dropped_at n es) ≡ [])
dropped_key n es key apart low same =
    let is : key ≡ (get_or es n ([], [])).0 = key_is key (get_or es n ([], [])).0 same in (
      versions_there n es key apart (key_get n es low ∙ ap Some (sym is)),
      no_versions key (dropped_at n es) (λ e there.
          let from = dropped_from n es e low there in
          ap (λ (k : List ℕ). bytes_eq k e.0) is ∙ ap (λ (f : Entry). bytes_eq (get_or es n ([], [])).0 f.0) from.3
          ∙ keys_apart n from.0 es apart low from.1 (λ q. from.2 (sym q))),
    )

-- and each other key has the versions that it had
pub dropped_other : (n : ℕ) (es : List Entry) (key : List ℕ) → IsDistinct bytes_eq (keys_of es)
    → IsDistinct bytes_eq (keys_of (dropped_at n es)) → n < length es → bytes_eq key (get_or es n ([], [])).0 ≡ false
    → versions_of key (dropped_at n es) ≡ versions_of key es
dropped_other n es key apart left low other =
    elim (find_key key es) [
      | inl there ↦
          let (p, within, is) = in_index there.0 es there.1 in
          let not_here : p ≡ n → ⊥ =
          λ same. true≢false (sym (key_same key (get_or es n ([], [])).0
          (there.2 ∙ ap (λ (f : Entry). f.0) is ∙ ap (λ (k : ℕ). (get_or es k ([], [])).0) same)) ∙ other) in
          let stays : In there.0 (dropped_at n es) =
          subst (λ (f : Entry). In f (dropped_at n es)) (sym is) (dropped_to n p es low within not_here) in
          ap (λ (k : List ℕ). versions_of k (dropped_at n es)) there.2 ∙ versions_in_entry there.0 (dropped_at n es) left stays
          ∙ sym (ap (λ (k : List ℕ). versions_of k es) there.2 ∙ versions_in_entry there.0 es apart there.1)
      | inr none ↦
          no_versions key (dropped_at n es) (λ e there. none e (in_dropped n es e low there)) ∙ sym (no_versions key es none)
    ]
