-- A listing whose rows are sorted is the map that it lists, in the order of its keys.
use Rattle.std.proofs.Common.{◌≡◌, ◌∙◌, ℕ, zero, suc, ◌+◌, ◌<◌, ◌≤◌, Bool, true, false, cond, List}
use Rattle.std.proofs.Common.{[], ◌∷◌, ◌++◌, length}
use Rattle.std.proofs.Common.{Some, None, add-one, refl, sym, ap, arith, get_or, inl, inr}
use Rattle.std.specs.Prelude.{◌||◌, ◌⊎◌, sum_by, All}
use Rattle.std.specs.declared.cmp.Ordering.{Ordering}
use Rattle.std.specs.declared.cmp.Ordering.TheVariants.{Less, Equal, Greater}
use Rattle.std.specs.List.{list_any}
use Rattle.std.specs.Cmp.Lexicographic.{slice_cmp}
use Rattle.std.specs.Ordering.{nat_cmp, is_lt, is_eq}
use Rattle.std.specs.Str.{bytes_eq}
use Rattle.std.specs.Ordering.{ordering_reverse}
use Rattle.std.proofs.lemmas.Bool.{cases_Bool, true≢false}
use Rattle.std.proofs.lemmas.Cmp.{nat_list_cmp_total}
use Rattle.std.proofs.lemmas.List.Elements.{All-cons, All-head, All-nil, All-tail}
use Rattle.std.proofs.lemmas.List.Folds.{list_any-append}
use Rattle.std.proofs.lemmas.List.Sorted.{All-permutation, list_any-IsPermutation, sum_by-IsPermutation}
use Rattle.std.proofs.lemmas.List.Sums.{sum_by-cons}
use Rattle.std.proofs.lemmas.Map.Text.{is_eq-slice_cmp}
use Rattle.bk_base.specs.declared.writes.Write.{Write}
use Rattle.bk_exchange.specs.Listings.{IsListing, Row}
use Rattle.bk_laws.specs.History.{is_listed}
use Rattle.bk_laws.specs.Log.{live}
use Rattle.bk_list.specs.Sorting.{AreSorted, IsSortedMap, value_in}
use Rattle.std.proofs.Math.Bool.{or-true, or-false}
use Rattle.bk_store.proofs.Keys.{key_is, key_refl}

abbrev has_key : List ℕ → Row → Bool
has_key key row = bytes_eq key row.key

abbrev one : List ℕ → Row → ℕ
one key row = cond (has_key key row) 1 0

-- whether a key stands behind those that were listed
listed_behind : (key other : List ℕ) (listed : List (List ℕ)) (b : Bool) → bytes_eq key other ≡ b
    → is_listed key (listed ++ other ∷ []) ≡ (is_listed key listed || b)
listed_behind key other listed b is =
    list_any-append (bytes_eq key) listed (other ∷ [])
    ∙ ap (λ (x : Bool). is_listed key listed || x) (or-false (bytes_eq key other) ∙ is)

first_not : (a b : Bool) → (a || b) ≡ false → a ≡ false
first_not true b is = absurd (true≢false is)
first_not false b is = refl

second_not : (a b : Bool) → (a || b) ≡ false → b ≡ false
second_not true b is = absurd (true≢false is)
second_not false b is = is

-- ---- what a listing has

module _ (ttl now : ℕ) (log : List Write) where
  pub all_live : (listed : List (List ℕ)) (rows : List Row) → IsListing ttl now log listed rows
      → All (λ (row : Row). live log row.key now ttl ≡ Some row.value) rows
  all_live listed [] h = All-nil (λ (row : Row). live log row.key now ttl ≡ Some row.value)
  all_live listed (row ∷ rows) h =
      All-cons (λ (r : Row). live log r.key now ttl ≡ Some r.value) row rows h.1 (all_live (listed ++ row.key ∷ []) rows h.2)

  none_else : (listed : List (List ℕ)) (rows : List Row) → IsListing ttl now log listed rows → (key : List ℕ)
      → is_listed key listed ≡ false → list_any (has_key key) rows ≡ false → live log key now ttl ≡ None
  none_else listed [] h key apart none = h key apart
  none_else listed (row ∷ rows) h key apart none =
      let other = first_not (has_key key row) (list_any (has_key key) rows) none in
      none_else (listed ++ row.key ∷ []) rows h.2 key
      (listed_behind key row.key listed false other ∙ or-false (is_listed key listed) ∙ apart)
      (second_not (has_key key row) (list_any (has_key key) rows) none)

  -- no key stands twice
  once : (listed : List (List ℕ)) (rows : List Row) → IsListing ttl now log listed rows → (key : List ℕ)
      → sum_by (one key) rows ≤ cond (is_listed key listed) 0 1
  once listed [] h key = omega arith
  once listed (row ∷ rows) h key =
      let later = once (listed ++ row.key ∷ []) rows h.2 key in
      elim (cases_Bool (has_key key row)) [
        | inl is ↦
            let bound : Bool → ℕ = λ b. cond b 0 1 in
            let taken : bound (is_listed key (listed ++ row.key ∷ [])) ≡ 0 = ap bound
            (listed_behind key row.key listed true is ∙ or-true (is_listed key listed)) in
            let free : bound (is_listed key listed) ≡ 1 = ap bound
            (ap (λ (k : List ℕ). is_listed k listed) (key_is key row.key is) ∙ h.0) in
            let here : one key row ≡ 1 = ap (λ (b : Bool). cond b 1 0) is in
            omega (arith, later, taken, free, here, sum_by-cons (one key) row rows)
        | inr is ↦
            let bound : Bool → ℕ = λ b. cond b 0 1 in
            let same : bound (is_listed key (listed ++ row.key ∷ [])) ≡ bound (is_listed key listed) =
            ap bound (listed_behind key row.key listed false is ∙ or-false (is_listed key listed)) in
            let here : one key row ≡ 0 = ap (λ (b : Bool). cond b 1 0) is in
            omega (arith, later, same, here, sum_by-cons (one key) row rows)
      ]

  -- ---- the value of a key

  value_there : (rows : List Row) → All (λ (row : Row). live log row.key now ttl ≡ Some row.value) rows → (key : List ℕ)
      → list_any (has_key key) rows ≡ true → value_in rows key ≡ live log key now ttl
  value_there [] all key is = absurd (true≢false (sym is))
  value_there (row ∷ rows) all key is =
      let P : Row → Type 0 = λ r. live log r.key now ttl ≡ Some r.value in
      elim (cases_Bool (has_key key row)) [
        | inl here ↦
            ap (λ (b : Bool). cond b (Some row.value) (value_in rows key)) here
            ∙ sym (All-head P row rows all) ∙ ap (λ (k : List ℕ). live log k now ttl) (sym (key_is key row.key here))
        | inr here ↦
            ap (λ (b : Bool). cond b (Some row.value) (value_in rows key)) here
            ∙ value_there rows (All-tail P row rows all) key
            (sym (ap (λ (b : Bool). b || list_any (has_key key) rows) here) ∙ is)
      ]

value_missing : (rows : List Row) (key : List ℕ) → list_any (has_key key) rows ≡ false → value_in rows key ≡ None
value_missing [] key none = refl
value_missing (row ∷ rows) key none =
    ap (λ (b : Bool). cond b (Some row.value) (value_in rows key))
    (first_not (has_key key row) (list_any (has_key key) rows) none)
    ∙ value_missing rows key (second_not (has_key key row) (list_any (has_key key) rows) none)

-- ---- neighbours

two_there : (key : List ℕ) (rows : List Row) (k : ℕ) (d : Row) → k + 1 < length rows
    → has_key key (get_or rows k d) ≡ true → has_key key (get_or rows (suc k) d) ≡ true → 2 ≤ sum_by (one key) rows
two_there key [] k d inside here next = omega arith
two_there key (row ∷ []) k d inside here next = omega arith
two_there key (row ∷ other ∷ rows) zero d inside here next =
    let a : one key row ≡ 1 = ap (λ (b : Bool). cond b 1 0) here in
    let b : one key other ≡ 1 = ap (λ (b : Bool). cond b 1 0) next in
    omega (arith, a, b, sum_by-cons (one key) row (other ∷ rows), sum_by-cons (one key) other rows)
two_there key (row ∷ other ∷ rows) (suc k) d inside here next =
    let more = two_there key (other ∷ rows) k d (omega arith) here next in
    omega (arith, more, sum_by-cons (one key) row (other ∷ rows))

below : (a b : List ℕ) → is_lt (slice_cmp nat_cmp b a) ≡ false → bytes_eq a b ≡ false → slice_cmp nat_cmp a b ≡ Less
below a b up apart = go (slice_cmp nat_cmp a b) refl
  where
    go : (o : Ordering) → slice_cmp nat_cmp a b ≡ o → slice_cmp nat_cmp a b ≡ Less
    go Less is = is
    go Equal is = absurd (true≢false (sym (ap is_eq is) ∙ is_eq-slice_cmp a b ∙ apart))
    go Greater is =
        absurd (true≢false (sym (ap is_lt (nat_list_cmp_total.antisymm b a ∙ ap ordering_reverse is)) ∙ up))

-- ---- the whole

pub sorted_map : (ttl now : ℕ) (log : List Write) (given rows : List Row) → IsListing ttl now log [] given → AreSorted given rows
    → IsSortedMap ttl now log rows
sorted_map ttl now log given rows h s = record {
  rise = λ k d inside.
      let a = get_or rows k d in
      let b = get_or rows (k + 1) d in
      below a.key b.key (s.rise k d (omega arith) inside) (apart k d inside (cases_Bool (bytes_eq a.key b.key)));
  values = λ key. value key (cases_Bool (list_any (has_key key) rows));
}
  where
    single : (key : List ℕ) → sum_by (one key) rows ≤ 1
    single key = let first = once ttl now log [] given h key in let same = sum_by-IsPermutation (one key) given rows s.same in
        omega (arith, first, same)

    apart : (k : ℕ) (d : Row) → k + 1 < length rows
        → (bytes_eq (get_or rows k d).key (get_or rows (k + 1) d).key ≡ true)
        ⊎ (bytes_eq (get_or rows k d).key (get_or rows (k + 1) d).key ≡ false)
        → bytes_eq (get_or rows k d).key (get_or rows (k + 1) d).key ≡ false
    apart k d inside (inl same) =
        let twice = two_there (get_or rows k d).key rows k d inside (key_refl (get_or rows k d).key)
        (ap (λ (n : ℕ). has_key (get_or rows k d).key (get_or rows n d)) (sym (add-one k)) ∙ same) in
        let most = single (get_or rows k d).key in
        absurd (omega (arith, twice, most))
    apart k d inside (inr differs) = differs

    value : (key : List ℕ) → (list_any (has_key key) rows ≡ true) ⊎ (list_any (has_key key) rows ≡ false)
        → value_in rows key ≡ live log key now ttl
    value key (inl there) =
        value_there ttl now log rows
        (All-permutation (λ (row : Row). live log row.key now ttl ≡ Some row.value) given rows s.same
        (all_live ttl now log [] given h)) key there
    value key (inr none) =
        value_missing rows key none
        ∙ sym (none_else ttl now log [] given h key refl (list_any-IsPermutation (has_key key) given rows s.same ∙ none))
