-- Rows by file, and their counts through the calls of an event.
use Rattle.std.proofs.Common.{◌≡◌, ◌⊎◌, ℕ, zero, suc, ◌+◌, ◌<◌, ◌≤◌, ◌==◌, Bool, true, false, cond, List, [], ◌∷◌, ◌++◌, length, take, drop, Option, Some, None, refl, sym, ap, subst, ◌∙◌, arith, inl, inr, eqb-true}
use Rattle.std.specs.List.{list_any}
use Rattle.std.specs.Option.{option_map, is_some}
use Rattle.std.proofs.lemmas.Bool.{cases_Bool, true≢false}
use Rattle.std.proofs.lemmas.Bool.Decides.{nat_tests}
use Rattle.std.proofs.lemmas.List.{length-take, length-drop}
use Rattle.bk_base.specs.declared.rows.Row.{Row}
use Rattle.bk_base.specs.declared.writes.Version.{Version}
use Rattle.bk_base.specs.declared.writes.Write.{Write}
use Rattle.bk_disk.specs.Told.{Told}
use Rattle.bk_laws.specs.Record.{record_of}
use Rattle.bk_laws.proofs.RecordBytes.{length-record_of}
use Rattle.bk_image.specs.Readings.{In, Reading, bytes_in, main}
use Rattle.bk_files.specs.declared.catalog.Active.{Active}
use Rattle.bk_files.specs.Catalog.{active_edited, edited, edited_at, new_row, row_of, sealed, with_len}
use Rattle.bk_files.specs.Rows.{AreAtRest, AreRows, StandsAmong}
use Rattle.bk_files.proofs.Rows.{edited_at-place}
use Rattle.bk_keydir.specs.declared.slots.Slot.{Slot}
use Rattle.bk_keydir.specs.Counts.{PutCounts, bytes_if, is_put_in, live_of, one_if, one_in, refs_in, refs_of}
use Rattle.bk_keydir.specs.Counts.{bytes_in as bytes_of_version}
use Rattle.bk_keydir.specs.Keydir.{Entry, keeps_newest, newest_of, replaced}
use Rattle.bk_keydir.specs.Slots.{has_open, sees}
use Rattle.bk_store.specs.Appends.{CanAdd, RowGoes, RowGoesOn, RowHasRoom, RowsGrow, RowsHaveRoom, RowsStay, counts_added, earlier_taken, live_in, total_in}
use Rattle.bk_store.specs.Appends.{refs_in as refs_of_row}
use Rattle.bk_store.specs.Rows.{RowStands, RowsStand}
use Rattle.bk_store.specs.Versions.{KeysStand}

-- ---- the row of a file

unfoldable pub or_row : Option Row → Option Row → Option Row
or_row (Some r) o = Some r
or_row None o = o

pub row_of-append : (n : ℕ) (xs ys : List Row) → row_of n (xs ++ ys) ≡ or_row (row_of n xs) (row_of n ys)
unfolding or_row
row_of-append n [] ys = refl
row_of-append n (x ∷ xs) ys =
    elim (cases_Bool (x.id.0 == n)) [
      | inl p ↦ rw p refl
      | inr p ↦ rw p (row_of-append n xs ys)
    ]

-- the first row of a file is edited, and no other is found
pub row_of-edited : (id n : ℕ) (f : Row → Row) (rows : List Row) → ((r : Row) → (f r).id ≡ r.id)
    → row_of n (edited id f rows) ≡ cond (n == id) (option_map f (row_of n rows)) (row_of n rows)
row_of-edited id n f [] keeps =
    elim (cases_Bool (n == id)) [
      | inl p ↦ rw p refl
      | inr p ↦ rw p refl
    ]
row_of-edited id n f (r ∷ rs) keeps =
    elim (cases_Bool (r.id.0 == id)) [
      | inl p ↦ rw p (here p)
      | inr p ↦ rw p (later p (row_of-edited id n f rs keeps))
    ] where
      here : (r.id.0 == id) ≡ true → row_of n (f r ∷ rs) ≡ cond (n == id) (option_map f (row_of n (r ∷ rs))) (row_of n (r ∷ rs))
      here p =
          let same : (f r).id.0 ≡ r.id.0 = ap (λ i. i.0) (keeps r) in
          let is : r.id.0 ≡ id = eqb-true r.id.0 id p in
          elim (cases_Bool (n == id)) [
            | inl q ↦
                let at : (r.id.0 == n) ≡ true = grind (arith, nat_tests, is, eqb-true n id q) in
                let now : ((f r).id.0 == n) ≡ true = ap (λ k. k == n) same ∙ at in
                rw (now, at, q) refl
            | inr q ↦
                let at : (r.id.0 == n) ≡ false = grind (arith, nat_tests, is, q) in
                let now : ((f r).id.0 == n) ≡ false = ap (λ k. k == n) same ∙ at in
                rw (now, at, q) refl
          ]

      later : (r.id.0 == id) ≡ false → row_of n (edited id f rs) ≡ cond (n == id) (option_map f (row_of n rs)) (row_of n rs)
          → row_of n (r ∷ edited id f rs) ≡ cond (n == id) (option_map f (row_of n (r ∷ rs))) (row_of n (r ∷ rs))
      later p others =
          elim (cases_Bool (r.id.0 == n)) [
            | inl q ↦
                let other : (n == id) ≡ false = grind (arith, nat_tests, p, eqb-true r.id.0 n q) in
                rw (q, other) refl
            | inr q ↦ rw q others
          ]

-- ---- rows that go on

pub row_stays : (o : Option Row) → RowGoes 0 o o
row_stays None = refl
row_stays (Some r) = record { live = refl; refs = refl; total = omega arith }

pub rows_refl : (rows : List Row) → RowsStay rows rows
rows_refl rows n = row_stays (row_of n rows)

row_goes : (k : ℕ) (a b c : Option Row) → RowGoes 0 a b → RowGoes k b c → RowGoes k a c
row_goes k a None None first second = first
row_goes k a (Some q) None first second = absurd (cc second)
row_goes k a None (Some r) first second =
    subst (λ (o : Option Row). RowGoesOn k o r) (sym first) second
row_goes k a (Some q) (Some r) first second = record {
  live = second.live ∙ first.live;
  refs = second.refs ∙ first.refs;
  total = omega (arith, first.total, second.total);
}

pub rows_trans : (a b c : List Row) → RowsStay a b → RowsStay b c → RowsStay a c
rows_trans a b c first second n = row_goes 0 (row_of n a) (row_of n b) (row_of n c) (first n) (second n)

pub rows_then_grow : (id size : ℕ) (a b c : List Row) → RowsStay a b → RowsGrow id size b c → RowsGrow id size a c
rows_then_grow id size a b c first second n =
    row_goes (cond (n == id) size 0) (row_of n a) (row_of n b) (row_of n c) (first n) (second n)

-- a row that is found after a call was there or is new; where none is found none was
pub goes_none : (k : ℕ) (a b : Option Row) → RowGoes k a b → is_some b ≡ false → a ≡ None
goes_none k a None h none = h
goes_none k a (Some r) h none = absurd (true≢false none)

-- a row is sealed
rows_sealed : (i : ℕ) (rows : List Row) → RowsStay rows (edited_at i sealed rows)
rows_sealed i [] n = refl
rows_sealed zero (r ∷ rs) n = go (r.id.0 == n) where
  go : (b : Bool) → RowGoes 0 (cond b (Some r) (row_of n rs)) (cond b (Some (sealed r)) (row_of n rs))
  go true = record { live = refl; refs = refl; total = omega arith }
  go false = row_stays (row_of n rs)
rows_sealed (suc i) (r ∷ rs) n = go (r.id.0 == n) (rows_sealed i rs n) where
  go : (b : Bool) → RowGoes 0 (row_of n rs) (row_of n (edited_at i sealed rs))
      → RowGoes 0 (cond b (Some r) (row_of n rs)) (cond b (Some r) (row_of n (edited_at i sealed rs)))
  go true others = row_stays (Some r)
  go false others = others

rows_active_sealed : (o : Option Active) (rows : List Row) → RowsStay rows (active_edited sealed o rows)
rows_active_sealed None rows = rows_refl rows
rows_active_sealed (Some a) rows = rows_sealed a.place rows

-- the row of a new file is behind the others
rows_joined : (id : ℕ) (rows : List Row) → RowsStay rows (rows ++ new_row id ∷ [])
unfolding or_row
rows_joined id rows n =
    subst (λ (o : Option Row). RowGoes 0 (row_of n rows) o) (sym (row_of-append n rows (new_row id ∷ []))) (go (row_of n rows)) where
      new : (b : Bool) → RowGoes 0 None (cond b (Some (new_row id)) None)
      new true = record { live = refl; refs = refl; total = omega arith }
      new false = refl

      go : (o : Option Row) → RowGoes 0 o (or_row o (row_of n (new_row id ∷ [])))
      go None = new (id == n)
      go (Some r) = row_stays (Some r)

pub rows_begun : (id : ℕ) (o : Option Active) (rows : List Row) → RowsStay rows (active_edited sealed o rows ++ new_row id ∷ [])
rows_begun id o rows =
    rows_trans rows (active_edited sealed o rows) (active_edited sealed o rows ++ new_row id ∷ []) (rows_active_sealed o rows)
    (rows_joined id (active_edited sealed o rows))

-- rows at rest have ids below the bound
below : (low high n : ℕ) (rows : List Row) (t : Told) (r : Row) → AreAtRest low high rows t → row_of n rows ≡ Some r → n < high
below low high n [] t r rest is = absurd (cc is)
below low high n (q ∷ qs) t r rest is = go (q.id.0 == n) refl is (below (q.id.0 + 1) high n qs t r rest.3) where
  go : (b : Bool) → (q.id.0 == n) ≡ b → cond b (Some q) (row_of n qs) ≡ Some r → (row_of n qs ≡ Some r → n < high) → n < high
  go true p is others = omega (arith, eqb-true q.id.0 n p, rest.1)
  go false p is others = others is

-- and from the least one on
above : (low high n : ℕ) (rows : List Row) (t : Told) (r : Row) → AreAtRest low high rows t → row_of n rows ≡ Some r → low ≤ n
above low high n [] t r rest is = absurd (cc is)
above low high n (q ∷ qs) t r rest is = go (q.id.0 == n) refl is (above (q.id.0 + 1) high n qs t r rest.3) where
  go : (b : Bool) → (q.id.0 == n) ≡ b → cond b (Some q) (row_of n qs) ≡ Some r
      → (row_of n qs ≡ Some r → q.id.0 + 1 ≤ n) → low ≤ n
  go true p is others = omega (arith, eqb-true q.id.0 n p, rest.0)
  go false p is others = omega (arith, others is, rest.0)

-- a row's file has a number from 1 on
pub from_one : (o : Option Active) (last n : ℕ) (rows : List Row) (t : Told) (r : Row) → AreRows o last rows t
    → row_of n rows ≡ Some r → 1 ≤ n
unfolding or_row
from_one None last n rows t r are is = above 1 (last + 1) n rows t r are is
from_one (Some a) last n rows t r s is =
    go (row_of n s.before) refl (sym (ap (row_of n) s.are ∙ row_of-append n s.before (s.row ∷ s.behind)) ∙ is) where
      at : (b : Bool) → (s.row.id.0 == n) ≡ b → cond b (Some s.row) (row_of n s.behind) ≡ Some r → 1 ≤ n
      at true p here = omega (arith, eqb-true s.row.id.0 n p, s.now.id, s.first)
      at false p here = omega (arith, above (a.id.0 + 1) (last + 1) n s.behind t r s.later here)

      go : (o : Option Row) → row_of n s.before ≡ o → or_row o (row_of n (s.row ∷ s.behind)) ≡ Some r → 1 ≤ n
      go None e here = at (s.row.id.0 == n) refl here
      go (Some q) e here = above 1 a.id.0 n s.before t q s.earlier e

-- the active file has more records
pub rows_grown : (a : Active) (last size : ℕ) (rows : List Row) (t : Told) → StandsAmong a last rows t
    → RowsGrow a.id.0 size rows (edited_at a.place (with_len (a.len + size)) rows)
unfolding or_row
rows_grown a last size rows t s n =
    let f = with_len (a.len + size) in
    let now : edited_at a.place f rows ≡ s.before ++ f s.row ∷ s.behind =
    ap (edited_at a.place f) s.are ∙ edited_at-place f a.place s.before s.row s.behind s.place in
    let was : row_of n rows ≡ or_row (row_of n s.before) (row_of n (s.row ∷ s.behind)) =
    ap (row_of n) s.are ∙ row_of-append n s.before (s.row ∷ s.behind) in
    let is : row_of n (edited_at a.place f rows) ≡ or_row (row_of n s.before) (row_of n (f s.row ∷ s.behind)) =
    ap (row_of n) now ∙ row_of-append n s.before (f s.row ∷ s.behind) in
    subst (λ (o : Option Row). RowGoes (cond (n == a.id.0) size 0) o (row_of n (edited_at a.place f rows))) (sym was)
    (subst (λ (o : Option Row). RowGoes (cond (n == a.id.0) size 0) (or_row (row_of n s.before) (row_of n (s.row ∷ s.behind))) o)
    (sym is) (go (row_of n s.before) refl)) where
      other : (n == a.id.0) ≡ false → (o : Option Row) → RowGoes (cond (n == a.id.0) size 0) o o
      other p o = rw p (row_stays o)

      at : (b : Bool) → (s.row.id.0 == n) ≡ b
          → RowGoes (cond (n == a.id.0) size 0) (cond b (Some s.row) (row_of n s.behind))
          (cond b (Some (with_len (a.len + size) s.row)) (row_of n s.behind))
      at true p =
          let here : (n == a.id.0) ≡ true = grind (arith, nat_tests, s.now.id, eqb-true s.row.id.0 n p) in
          rw here (record { live = refl; refs = refl; total = omega (arith, s.now.total) })
      at false p = other (grind (arith, nat_tests, s.now.id, p)) (row_of n s.behind)

      go : (o : Option Row) → row_of n s.before ≡ o
          → RowGoes (cond (n == a.id.0) size 0) (or_row o (row_of n (s.row ∷ s.behind)))
          (or_row o (row_of n (with_len (a.len + size) s.row ∷ s.behind)))
      go None e = at (s.row.id.0 == n) refl
      go (Some r) e =
          let low : n < a.id.0 = below 1 a.id.0 n s.before t r s.earlier e in
          other (grind (arith, nat_tests, low)) (Some r)

-- ---- the counts of a file that no kept put names

not_in : (id : ℕ) (v : Version) → (v.gone ≡ false → v.file.0 ≡ id → ⊥) → is_put_in id v ≡ false
not_in id v none =
    elim (cases_Bool v.gone) [
      | inl p ↦ rw p refl
      | inr p ↦
          elim (cases_Bool (v.file.0 == id)) [
            | inl q ↦ absurd (none p (eqb-true v.file.0 id q))
            | inr q ↦ rw (p, q) refl
          ]
    ]

no_refs : (id : ℕ) (vs : List Version) → ((v : Version) → In v vs → v.gone ≡ false → v.file.0 ≡ id → ⊥)
    → (bytes_if id (newest_of vs) ≡ 0) × (refs_in id vs ≡ 0)
no_refs id [] none = (refl, refl)
no_refs id (v ∷ vs) none =
    let here = not_in id v (none v (inl refl)) in
    let later = no_refs id vs (λ w is_in. none w (inr is_in)) in
    (rw here refl, rw here (omega (arith, later.1)))

pub no_counts : (id : ℕ) (entries : List Entry)
    → ((e : Entry) (v : Version) → In e entries → In v e.1 → v.gone ≡ false → v.file.0 ≡ id → ⊥)
    → (live_of id entries ≡ 0) × (refs_of id entries ≡ 0)
no_counts id [] none = (refl, refl)
no_counts id (e ∷ es) none =
    let here = no_refs id e.1 (λ v is_in. none e v (inl refl) is_in) in
    let later = no_counts id es (λ f v is_in. none f v (inr is_in)) in
    (omega (arith, here.0, later.0), omega (arith, here.1, later.1))

-- no put stands in a file without bytes
pub none_placed : (r : Reading) (entries : List Entry) (log : List Write) (id : ℕ) → KeysStand r entries log
    → bytes_in r (main id) ≡ [] → (e : Entry) (v : Version) → In e entries → In v e.1 → v.gone ≡ false → v.file.0 ≡ id → ⊥
none_placed r entries log id keys empty e v there is_in put is =
    let (w, in_log, is_key, stands) = keys.placed e v there is_in put in
    let text : take v.size (drop v.at []) ≡ record_of w =
    ap (λ (b : List ℕ). take v.size (drop v.at b)) (sym (ap (λ (i : ℕ). bytes_in r (main i)) is ∙ empty)) ∙ stands.text put in
    let none : List ℕ = [] in
    omega (arith, ap length text, length-record_of w, length-take v.size (drop v.at none), length-drop v.at none)

-- ---- room for one version more

in_file : (v : Version) (id more : ℕ) → v.size ≡ more → bytes_of_version id v ≤ cond (id == v.file.0) more 0
in_file v id more is = grind (arith, nat_tests, is)

one_in_file : (v : Version) (id more : ℕ) → 1 ≤ more → one_in id v ≤ cond (id == v.file.0) more 0
one_in_file v id more some = grind (arith, nat_tests, some)

pub rows_have_room : (v : Version) (size : ℕ) (rows mid : List Row) (entries : List Entry) → v.size ≡ size → 1 ≤ size
    → RowsGrow v.file.0 size rows mid → RowsStand rows entries
    → ((id : ℕ) → 1 ≤ id → row_of id rows ≡ None → (live_of id entries ≡ 0) × (refs_of id entries ≡ 0))
    → ((id : ℕ) (r : Row) → row_of id mid ≡ Some r → 1 ≤ id) → RowsHaveRoom v mid entries
rows_have_room v size rows mid entries is some grows stand none first id r here =
    go (row_of id rows) refl (subst (RowGoes (cond (id == v.file.0) size 0) (row_of id rows)) here (grows id)) where
      go : (o : Option Row) → row_of id rows ≡ o → RowGoesOn (cond (id == v.file.0) size 0) (row_of id rows) r
          → RowHasRoom v entries id r
      go None e g =
          let zero_of = none id (first id r here) e in
          let live : r.live ≡ 0 = g.live ∙ ap live_in e in
          let refs : r.refs ≡ 0 = g.refs ∙ ap refs_of_row e in
          record {
            live = live ∙ sym zero_of.0;
            refs = refs ∙ sym zero_of.1;
            live_fits = omega (arith, live, g.total, in_file v id size is);
            refs_fits = omega (arith, refs, g.total, one_in_file v id size some);
          }
      go (Some q) e g =
          let s = stand id q e in
          let live : r.live ≡ q.live = g.live ∙ ap live_in e in
          let refs : r.refs ≡ q.refs = g.refs ∙ ap refs_of_row e in
          let total : total_in (row_of id rows) ≡ q.total = ap total_in e in
          record {
            live = live ∙ s.live;
            refs = refs ∙ s.refs;
            live_fits = omega (arith, live, total, g.total, s.live_within, in_file v id size is);
            refs_fits = omega (arith, refs, total, g.total, s.refs_within, one_in_file v id size some);
          }

-- ---- the counts after a put

-- The earlier newest version: it has gone, or a fold still sees it; or there is none.
abbrev pub IsEarlier : Option Version → Option Version → Option Version → Type 0
IsEarlier earlier gone seen = ((x : Version) × (gone ≡ Some x) × (earlier ≡ Some x)) ⊎ ((gone ≡ None) × (seen ≡ earlier))

has_open_from : (vs : List Version) (seq : ℕ) (slots : List (Option Slot)) → list_any (sees vs seq) slots ≡ true
    → has_open slots ≡ true
has_open_from vs seq [] h = absurd (true≢false (sym h))
has_open_from vs seq (None ∷ slots) h = has_open_from vs seq slots h
has_open_from vs seq (Some s ∷ slots) h = refl

pub is_earlier : (slots : List (Option Slot)) (vs : List Version)
    → IsEarlier (newest_of vs) (replaced slots vs) (cond (has_open slots) (newest_of vs) None)
is_earlier slots [] = go (has_open slots) where
  go : (b : Bool) → IsEarlier None None (cond b None None)
  go true = inr (refl, refl)
  go false = inr (refl, refl)
is_earlier slots (v ∷ vs) =
    elim (cases_Bool (keeps_newest slots (v ∷ vs))) [
      | inl p ↦
          let is_open : has_open slots ≡ true = has_open_from (v ∷ vs) v.seq.0 slots p in
          rw (p, is_open) (inr (refl, refl))
      | inr p ↦ rw p (inl (v, refl, refl))
    ]

-- a row's counts after both changes
row_counted : (v : Version) (es fs : List Entry) (id : ℕ) (r : Row) (earlier gone seen : Option Version)
    → RowHasRoom v es id r → PutCounts v earlier gone es fs → IsEarlier earlier gone seen
    → RowStands fs id (earlier_taken id gone seen (counts_added id v r))
row_counted v es fs id r earlier left seen room counts (inl (x, is_gone, is)) =
    let live : live_of id fs + bytes_of_version id x ≡ live_of id es + bytes_of_version id v =
    ap (λ (o : Option Version). live_of id fs + bytes_if id o) (sym is) ∙ counts.live id in
    let refs : refs_of id fs + one_in id x ≡ refs_of id es + one_in id v =
    ap (λ (o : Option Version). refs_of id fs + one_if id o) (sym is_gone) ∙ counts.refs id in
    subst (λ (o : Option Version). RowStands fs id (earlier_taken id o seen (counts_added id v r))) (sym is_gone)
    (record {
      live = omega (arith, live, room.live);
      refs = omega (arith, refs, room.refs);
      live_within = omega (arith, room.live_fits);
      refs_within = omega (arith, room.refs_fits);
    })
row_counted v es fs id r earlier left seen room counts (inr (is_gone, is)) =
    subst (λ (o : Option Version). RowStands fs id (earlier_taken id o seen (counts_added id v r))) (sym is_gone)
    (go seen is) where
      refs : refs_of id fs ≡ refs_of id es + one_in id v
      refs = omega (arith, ap (λ (o : Option Version). refs_of id fs + one_if id o) (sym is_gone) ∙ counts.refs id)

      go : (o : Option Version) → o ≡ earlier → RowStands fs id (earlier_taken id None o (counts_added id v r))
      go None e =
          let live : live_of id fs + 0 ≡ live_of id es + bytes_of_version id v =
          ap (λ (p : Option Version). live_of id fs + bytes_if id p) e ∙ counts.live id in
          record {
            live = omega (arith, live, room.live);
            refs = omega (arith, refs, room.refs);
            live_within = room.live_fits;
            refs_within = room.refs_fits;
          }
      go (Some x) e =
          let live : live_of id fs + bytes_of_version id x ≡ live_of id es + bytes_of_version id v =
          ap (λ (p : Option Version). live_of id fs + bytes_if id p) e ∙ counts.live id in
          let zero : ◌≡◌ {A = ℕ} (cond (is_put_in id x) 0 0) 0 = grind arith in
          record {
            live = omega (arith, live, room.live);
            refs = omega (arith, refs, room.refs, zero);
            live_within = omega (arith, room.live_fits);
            refs_within = omega (arith, room.refs_fits);
          }

pub rows_counted : (v : Version) (es fs : List Entry) (rows mid now : List Row) (earlier gone seen : Option Version)
    → RowsHaveRoom v rows es
    → ((id : ℕ) (r : Row) → row_of id rows ≡ Some r → CanAdd id v r → row_of id mid ≡ Some (counts_added id v r))
    → ((id : ℕ) → is_some (row_of id mid) ≡ is_some (row_of id rows))
    → ((id : ℕ) → row_of id now ≡ option_map (earlier_taken id gone seen) (row_of id mid))
    → PutCounts v earlier gone es fs → IsEarlier earlier gone seen → RowsStand now fs
rows_counted v es fs rows mid now earlier gone seen room adds there taken counts is id r here = go (row_of id rows) refl where
  go : (o : Option Row) → row_of id rows ≡ o → RowStands fs id r
  go None e =
      let none : is_some (row_of id mid) ≡ false = there id ∙ ap (λ (o : Option Row). is_some o) e in
      absurd (no_row (row_of id mid) none (sym (taken id) ∙ here)) where
        no_row : (o : Option Row) → is_some o ≡ false → option_map (earlier_taken id gone seen) o ≡ Some r → ⊥
        no_row None p q = absurd (cc q)
        no_row (Some x) p q = true≢false p
  go (Some q) e =
      let has = room id q e in
      let added = adds id q e (record { live = has.live_fits; refs = has.refs_fits }) in
      let some : Some (earlier_taken id gone seen (counts_added id v q)) ≡ Some r =
      sym (ap (option_map (earlier_taken id gone seen)) added) ∙ sym (taken id) ∙ here in
      let same : earlier_taken id gone seen (counts_added id v q) ≡ r = cc some in
      subst (RowStands fs id) same (row_counted v es fs id q earlier gone seen has counts is)
