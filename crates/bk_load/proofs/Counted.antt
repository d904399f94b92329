-- Rows in order of id, and their counts.
use Rattle.std.proofs.Common.{◌≡◌, ◌==◌, ◌&&◌, ℕ, zero, suc, ◌+◌, ◌<◌, ◌≤◌, Bool, true, false, not, cond, min, nat_lt, List, [], ◌∷◌, ◌++◌, length, get_or, slice_get, slice_set, take, Option, Some, None, refl, sym, ap, subst, ◌∙◌, inl, inr, arith, eq-eqb}
use Rattle.std.specs.Option.{is_some, option_map}
use Rattle.std.specs.List.{AllByRecursion, position, position_or_len}
use Rattle.std.proofs.lemmas.Bool.{cases_Bool, cases_eq, cases_lt}
use Rattle.std.proofs.lemmas.Bool.Decides.{nat_tests}
use Rattle.std.proofs.lemmas.List.{get_or_default, take_more}
use Rattle.std.proofs.lemmas.List.Quantifiers.{position-Some}
use Rattle.std.proofs.lemmas.List.Sums.{position_or_len_is}
use Rattle.bk_base.specs.declared.rows.Row.{Row}
use Rattle.bk_base.specs.declared.rows.RowState.TheVariants.{Active}
use Rattle.bk_base.specs.declared.writes.Version.{Version}
use Rattle.bk_files.specs.Catalog.{edited, row_of}
use Rattle.bk_files.proofs.RowEdits.{edited_found, none_edited}
use Rattle.bk_keydir.specs.Counts.{bytes_if, bytes_in, live_of, one_if, one_in, refs_of}
use Rattle.bk_keydir.specs.Keydir.{Entry, newest_of, versions_at}
use Rattle.bk_store.proofs.RowCounts.{row_of-edited}
use Rattle.bk_load.specs.Counting.{RowsRise, all_counted, counted_if, counted_in, top, with_put}
use Rattle.bk_load.specs.Learning.{IsLoneEntry}

-- what a read past the end gives
abbrev pub a_row : Row
a_row = record { len = 0; total = 0; live = 0; refs = 0; id = record { 0 = 0 }; state = Active }

-- ---- rows in order

rise_low : (low : ℕ) (rows : List Row) (j : ℕ) (d : Row) → RowsRise low rows → j < length rows → low ≤ (get_or rows j d).id.0
rise_low low [] j d rise lt = absurd (omega (arith, lt))
rise_low low (r ∷ rs) zero d rise lt = rise.0
rise_low low (r ∷ rs) (suc j) d rise lt =
    let p = rise_low (r.id.0 + 1) rs j d rise.1 (omega (arith, lt)) in let q = rise.0 in omega (arith, p, q)

pub rise_at : (low : ℕ) (rows : List Row) (i j : ℕ) (d : Row) → RowsRise low rows → i < j → j < length rows
    → (get_or rows i d).id.0 < (get_or rows j d).id.0
rise_at low [] i j d rise lt within = absurd (omega (arith, within))
rise_at low (r ∷ rs) i zero d rise lt within = absurd (omega (arith, lt))
rise_at low (r ∷ rs) zero (suc j) d rise lt within =
    let p = rise_low (r.id.0 + 1) rs j d rise.1 (omega (arith, within)) in omega (arith, p)
rise_at low (r ∷ rs) (suc i) (suc j) d rise lt within =
    rise_at (r.id.0 + 1) rs i j d rise.1 (omega (arith, lt)) (omega (arith, within))

eq_not : (a b : ℕ) → (a ≡ b → ⊥) → (a == b) ≡ false
eq_not a b never = elim (cases_eq a b) [ inl is ↦ absurd (never is) | inr is ↦ grind (arith, nat_tests, is) ]

-- the place of a row, and none where all others are less or greater
pub place_is : (rows : List Row) (i id : ℕ) (d : Row) → RowsRise 0 rows → i < length rows → (get_or rows i d).id.0 ≡ id
    → position (λ (r : Row). r.id.0 == id) rows ≡ Some i
place_is rows i id d rise within is =
    let first : position_or_len (λ (r : Row). r.id.0 == id) rows ≡ i =
    position_or_len_is (λ (r : Row). r.id.0 == id) rows i d (omega (arith, within))
    (λ k lt. let p = rise_at 0 rows k i d rise lt within in
    eq_not (get_or rows k d).id.0 id (λ same. absurd (omega (arith, p, same, is))))
    (λ low. eq-eqb (get_or rows i d).id.0 id is) in
    let lt : nat_lt i (length rows) ≡ true = grind (arith, nat_tests, within) in
    ap (λ (n : ℕ). cond (nat_lt n (length rows)) (Some n) None) first ∙ ap (λ (b : Bool). cond b (Some i) None) lt

pub no_place : (rows : List Row) (id n : ℕ) (d : Row) → ((k : ℕ) → k < n → (get_or rows k d).id.0 < id)
    → ((k : ℕ) → n ≤ k → k < length rows → id < (get_or rows k d).id.0)
    → position (λ (r : Row). r.id.0 == id) rows ≡ None
no_place rows id n d less greater =
    let none : position_or_len (λ (r : Row). r.id.0 == id) rows ≡ length rows =
    position_or_len_is (λ (r : Row). r.id.0 == id) rows (length rows) d (omega arith)
    (λ k lt. eq_not (get_or rows k d).id.0 id (other k lt))
    (λ low. absurd (omega (arith, low))) in
    let lt : nat_lt (length rows) (length rows) ≡ false = grind (arith, nat_tests) in
    ap (λ (n : ℕ). cond (nat_lt n (length rows)) (Some n) None) none
    ∙ ap (λ (b : Bool). cond b (Some (length rows)) None) lt where
      other : (k : ℕ) → k < length rows → (get_or rows k d).id.0 ≡ id → ⊥
      other k lt same =
          elim (cases_lt k n) [
            | inl low ↦ let p = less k low in absurd (omega (arith, p, same))
            | inr high ↦ let p = greater k high lt in absurd (omega (arith, p, same))
          ]

-- ---- counted rows stay in order

rise_edited : (low id : ℕ) (f : Row → Row) (rows : List Row) → ((r : Row) → (f r).id ≡ r.id) → RowsRise low rows
    → RowsRise low (edited id f rows)
rise_edited low id f [] keeps rise = rise
rise_edited low id f (r ∷ rs) keeps rise =
    elim (cases_Bool (r.id.0 == id)) [
      | inl p ↦ rw p (here p)
      | inr p ↦ rw p (rise.0, rise_edited (r.id.0 + 1) id f rs keeps rise.1)
    ] where
      here : (r.id.0 == id) ≡ true → RowsRise low (f r ∷ rs)
      here p =
          let is : (f r).id.0 ≡ r.id.0 = ap (λ i. i.0) (keeps r) in (
            subst (λ (n : ℕ). low ≤ n) (sym is) rise.0,
            subst (λ (n : ℕ). RowsRise (n + 1) rs) (sym is) rise.1,
          )

pub rise_counted : (v : Version) (rows : List Row) → RowsRise 0 rows → RowsRise 0 (counted_in v rows)
rise_counted v rows rise = go v.gone where
  go : (b : Bool) → RowsRise 0 (cond b rows (edited v.file.0 (with_put v) rows))
  go true = rise
  go false = rise_edited 0 v.file.0 (with_put v) rows (λ r. refl) rise

pub rise_counted_if : (o : Option Version) (rows : List Row) → RowsRise 0 rows → RowsRise 0 (counted_if o rows)
rise_counted_if None rows rise = rise
rise_counted_if (Some v) rows rise = rise_counted v rows rise

-- ---- one entry after the other

all_counted-append : (es fs : List Entry) (rows : List Row) → all_counted (es ++ fs) rows ≡ all_counted fs (all_counted es rows)
all_counted-append [] fs rows = refl
all_counted-append (e ∷ es) fs rows = all_counted-append es fs (counted_if (newest_of e.1) rows)

versions_get : (n : ℕ) (es : List Entry) (d : Entry) → n < length es → versions_at n es ≡ (get_or es n d).1
versions_get n [] d lt = absurd (omega (arith, lt))
versions_get zero (e ∷ es) d lt = refl
versions_get (suc n) (e ∷ es) d lt = versions_get n es d (omega (arith, lt))

pub counted_more : (es : List Entry) (n : ℕ) (rows : List Row) → n < length es
    → all_counted (take (n + 1) es) rows ≡ counted_if (newest_of (versions_at n es)) (all_counted (take n es) rows)
counted_more es n rows lt =
    let d : Entry = ([], []) in
    ap (λ (fs : List Entry). all_counted fs rows) (take_more es n d lt)
    ∙ all_counted-append (take n es) (get_or es n d ∷ []) rows
    ∙ ap (λ (vs : List Version). counted_if (newest_of vs) (all_counted (take n es) rows)) (sym (versions_get n es d lt))

-- ---- what the counts are

-- a row, counted
pub record Counted (live refs : ℕ) (r s : Row) : Type 0 where
  pub live_is : r.live + live ≤ top → s.live ≡ r.live + live
  pub refs_is : r.refs + refs ≤ top → s.refs ≡ r.refs + refs
  pub total_is : s.total ≡ r.total
  pub len_is : s.len ≡ r.len

uncounted : (r : Row) → Counted 0 0 r r
uncounted r = record { live_is = λ low. omega arith; refs_is = λ low. omega arith; total_is = refl; len_is = refl }

counted_put : (v : Version) (r : Row) → Counted v.size 1 r (with_put v r)
counted_put v r =
    record { live_is = λ low. omega (arith, low); refs_is = λ low. omega (arith, low); total_is = refl; len_is = refl }

abbrev RowIs : ℕ → List Row → Row → ℕ → ℕ → Type 0
RowIs id rows r live refs = (s : Row) × (row_of id rows ≡ Some s) × Counted live refs r s

eq_sym : (a b : ℕ) → (a == b) ≡ (b == a)
eq_sym a b =
    elim (cases_eq a b) [
      | inl is ↦ eq-eqb a b is ∙ sym (eq-eqb b a (sym is))
      | inr is ↦ eq_not a b is ∙ sym (eq_not b a (λ same. is (sym same)))
    ]

one_counted : (id : ℕ) (v : Version) (rows : List Row) (r : Row) → row_of id rows ≡ Some r
    → RowIs id (counted_in v rows) r (bytes_in id v) (one_in id v)
one_counted id v rows r is =
    go v.gone (id == v.file.0) (eq_sym v.file.0 id) (row_of-edited v.file.0 id (with_put v) rows (λ x. refl)) where
      go : (g b : Bool) → (v.file.0 == id) ≡ b
          → row_of id (edited v.file.0 (with_put v) rows) ≡ cond b (option_map (with_put v) (row_of id rows)) (row_of id rows)
          → RowIs id (cond g rows (edited v.file.0 (with_put v) rows)) r (cond (not g && (v.file.0 == id)) v.size 0)
          (cond (not g && (v.file.0 == id)) 1 0)
      go true b here found = (r, is, uncounted r)
      go false true here found =
          let edit : row_of id (edited v.file.0 (with_put v) rows) ≡ Some (with_put v r) = found ∙ ap (option_map (with_put v)) is in
          rw here (with_put v r, edit, counted_put v r)
      go false false here found = rw here (r, found ∙ is, uncounted r)

if_counted : (id : ℕ) (o : Option Version) (rows : List Row) (r : Row) → row_of id rows ≡ Some r
    → RowIs id (counted_if o rows) r (bytes_if id o) (one_if id o)
if_counted id None rows r is = (r, is, uncounted r)
if_counted id (Some v) rows r is = one_counted id v rows r is

none_counted_in : (id : ℕ) (v : Version) (rows : List Row) → row_of id rows ≡ None → row_of id (counted_in v rows) ≡ None
none_counted_in id v rows is = go v.gone where
  either : (b : Bool) → ◌≡◌ {A = Option Row} (cond b None None) None
  either true = refl
  either false = refl

  edit : row_of id (edited v.file.0 (with_put v) rows) ≡ None
  edit =
      row_of-edited v.file.0 id (with_put v) rows (λ x. refl)
      ∙ ap (λ (o : Option Row). cond (id == v.file.0) (option_map (with_put v) o) o) is ∙ either (id == v.file.0)

  go : (g : Bool) → row_of id (cond g rows (edited v.file.0 (with_put v) rows)) ≡ None
  go true = is
  go false = edit

none_counted_if : (id : ℕ) (o : Option Version) (rows : List Row) → row_of id rows ≡ None → row_of id (counted_if o rows) ≡ None
none_counted_if id None rows is = is
none_counted_if id (Some v) rows is = none_counted_in id v rows is

pub none_counted : (id : ℕ) (es : List Entry) (rows : List Row) → row_of id rows ≡ None → row_of id (all_counted es rows) ≡ None
none_counted id [] rows is = is
none_counted id (e ∷ es) rows is =
    none_counted id es (counted_if (newest_of e.1) rows) (none_counted_if id (newest_of e.1) rows is)

-- where each key has one version
pub row_counted : (n id : ℕ) (es : List Entry) (rows : List Row) (r : Row) → AllByRecursion (IsLoneEntry n) es
    → row_of id rows ≡ Some r → RowIs id (all_counted es rows) r (live_of id es) (refs_of id es)
row_counted n id [] rows r lone is = (r, is, uncounted r)
row_counted n id ((k, []) ∷ es) rows r lone is = absurd (lone.0 tt)
row_counted n id ((k, v ∷ w ∷ vs) ∷ es) rows r lone is = absurd (lone.0 tt)
row_counted n id ((k, v ∷ []) ∷ es) rows r lone is =
    let (s, found, counted) = if_counted id (Some v) rows r is in
    let (t, last, others) = row_counted n id es (counted_if (Some v) rows) s lone.1 found in (
      t,
      last,
      record {
        live_is = λ low.
            let p = counted.live_is (omega (arith, low)) in
            let q = others.live_is (omega (arith, low, p)) in
            omega (arith, p, q);
        refs_is = λ low.
            let p = counted.refs_is (omega (arith, low)) in
            let q = others.refs_is (omega (arith, low, p)) in
            omega (arith, p, q);
        total_is = others.total_is ∙ counted.total_is;
        len_is = others.len_is ∙ counted.len_is;
      },
    )

-- what counting a put in it leaves of each row
pub all_rows : (P : Row → Type 0) (es : List Entry) (rows : List Row) → ((v : Version) (r : Row) → P r → P (with_put v r))
    → AllByRecursion P rows → AllByRecursion P (all_counted es rows)
all_rows P [] rows keeps all = all
all_rows P (e ∷ es) rows keeps all = all_rows P es (counted_if (newest_of e.1) rows) keeps (at_one (newest_of e.1)) where
  edit : (v : Version) (rs : List Row) → AllByRecursion P rs → AllByRecursion P (edited v.file.0 (with_put v) rs)
  edit v [] all = tt
  edit v (r ∷ rs) all =
      elim (cases_Bool (r.id.0 == v.file.0)) [
        | inl p ↦ rw p (keeps v r all.0, all.1)
        | inr p ↦ rw p (all.0, edit v rs all.1)
      ]

  at_put : (v : Version) (g : Bool) → AllByRecursion P (cond g rows (edited v.file.0 (with_put v) rows))
  at_put v true = all
  at_put v false = edit v rows all

  at_one : (o : Option Version) → AllByRecursion P (counted_if o rows)
  at_one None = all
  at_one (Some v) = at_put v v.gone

-- no row comes or goes
pub some_counted : (id : ℕ) (es : List Entry) (rows : List Row) → is_some (row_of id (all_counted es rows)) ≡ is_some (row_of id rows)
some_counted id [] rows = refl
some_counted id (e ∷ es) rows = some_counted id es (counted_if (newest_of e.1) rows) ∙ at_one (newest_of e.1) where
  kept : (b : Bool) (f : Row → Row) (o : Option Row) → is_some (cond b (option_map f o) o) ≡ is_some o
  kept true f None = refl
  kept true f (Some r) = refl
  kept false f o = refl

  at_put : (v : Version) (g : Bool) → is_some (row_of id (cond g rows (edited v.file.0 (with_put v) rows))) ≡ is_some (row_of id rows)
  at_put v true = refl
  at_put v false =
      ap is_some (row_of-edited v.file.0 id (with_put v) rows (λ x. refl))
      ∙ kept (id == v.file.0) (with_put v) (row_of id rows)

  at_one : (o : Option Version) → is_some (row_of id (counted_if o rows)) ≡ is_some (row_of id rows)
  at_one None = refl
  at_one (Some v) = at_put v v.gone

-- what the calls give

pub put_counted : (v : Version) (rows : List Row) (place live refs : ℕ)
    → position (λ (r : Row). r.id.0 == v.file.0) rows ≡ Some place → v.gone ≡ false
    → live ≡ min ((get_or rows place a_row).live + v.size) top → refs ≡ min ((get_or rows place a_row).refs + 1) top
    → slice_set rows place (record (get_or rows place a_row) { live = live; refs = refs }) ≡ counted_in v rows
put_counted v rows place live refs at put live_is refs_is =
    let x : Row = get_or rows place a_row in
    let within : place < length rows = (position-Some (λ (r : Row). r.id.0 == v.file.0) rows place a_row at).0 in
    let edit : slice_set rows place (with_put v x) ≡ edited v.file.0 (with_put v) rows =
    edited_found v.file.0 (with_put v) rows place x at (get_or_default rows place a_row x within) in
    ap (λ (n : ℕ). slice_set rows place (record x { live = n; refs = refs })) live_is
    ∙ ap (λ (n : ℕ). slice_set rows place (record x { live = min (x.live + v.size) top; refs = n })) refs_is ∙ edit
    ∙ ap (λ (b : Bool). cond b rows (edited v.file.0 (with_put v) rows)) (sym put)

pub no_row_counted : (v : Version) (rows : List Row) → position (λ (r : Row). r.id.0 == v.file.0) rows ≡ None → v.gone ≡ false
    → rows ≡ counted_in v rows
no_row_counted v rows none put =
    none_edited v.file.0 (with_put v) rows none ∙ ap (λ (b : Bool). cond b rows (edited v.file.0 (with_put v) rows)) (sym put)

newest_get : (vs : List Version) → newest_of vs ≡ slice_get vs 0
newest_get [] = refl
newest_get (v ∷ vs) = refl

pub step_counted : (es : List Entry) (n : ℕ) (first rows later : List Row) (o : Option Version) → n < length es
    → (rows ≡ all_counted (take n es) first) × RowsRise 0 rows → o ≡ slice_get (versions_at n es) 0
    → later ≡ counted_if o rows → (later ≡ all_counted (take (n + 1) es) first) × RowsRise 0 later
step_counted es n first rows later o lt before is counted = (
  counted ∙ ap (λ (p : Option Version). counted_if p rows) (is ∙ sym (newest_get (versions_at n es)))
      ∙ ap (counted_if (newest_of (versions_at n es))) before.0 ∙ sym (counted_more es n first lt),
  subst (RowsRise 0) (sym counted) (rise_counted_if o rows before.1),
)
