-- What was found and learned, as a store's start asks it.
use Rattle.std.proofs.Common.{◌≡◌, ◌==◌, ◌⊎◌, ◌^◌, ℕ, ◌+◌, ◌<◌, ◌≤◌, Bool, true, false, cond, List, [], ◌∷◌, length, map, Option, Some, None, Result, Ok, Err, refl, sym, ap, subst, ◌∙◌, inl, inr, arith, eq-eqb}
use Rattle.std.specs.Option.{is_some, unwrap_or}
use Rattle.std.specs.Prelude.{IfOk, OnOk}
use Rattle.std.specs.List.{AllByRecursion}
use Rattle.std.proofs.lemmas.Bool.{cases_Bool, cases_eq, true≢false}
use Rattle.std.proofs.lemmas.Bool.Decides.{nat_tests}
use Rattle.bk_base.specs.declared.names.Name.{Name}
use Rattle.bk_base.specs.declared.numbers.FileId.{FileId}
use Rattle.bk_base.specs.declared.rows.Row.{Row}
use Rattle.bk_base.specs.declared.rows.RowState.TheVariants.{Active as active_state, Sealed}
use Rattle.bk_base.specs.declared.rows.RowState.{RowState}
use Rattle.bk_base.specs.declared.writes.Version.{Version}
use Rattle.bk_disk.specs.Names.{same}
use Rattle.bk_disk.specs.Told.{Image, IsAbsent, IsWell, Told, at, listing}
use Rattle.bk_disk.proofs.Names.{same_eq}
use Rattle.bk_files.specs.Catalog.{edited, row_of}
use Rattle.bk_files.specs.Rows.{AreAtRest, AreSyncedIfSealed, IsAtRest, IsRowSyncedIfSealed}
use Rattle.bk_image.specs.Readings.{Books, In, IsThere, Reading, main}
use Rattle.bk_image.specs.RecoveredLog.{HintsTrue}
use Rattle.bk_keydir.specs.declared.loads.Loaded.{Loaded}
use Rattle.bk_keydir.specs.Counts.{live_of, refs_of}
use Rattle.bk_keydir.specs.Keydir.{Entry, newest_of, versions_of, without_gone}
use Rattle.bk_store.specs.Rows.{RowStands, RowsStand}
use Rattle.bk_store.specs.Starting.{AreFilesOf, HasOnePut, IsInOrder}
use Rattle.bk_load.specs.declared.files.FileFound.{FileFound}
use Rattle.bk_load.specs.Assembling.{Assembled}
use Rattle.bk_load.specs.Counting.{RowsRise, all_counted, counted_if, with_put}
use Rattle.bk_load.specs.Directory.{greatest_in}
use Rattle.bk_load.specs.Found.{AreFound, EndsWithin, FilesRise, HaveRead, IsFound, IsUncounted, KeepsFound, found_row, placed_in, total_of, writes_in}
use Rattle.bk_load.specs.Learning.{AreFit, IsKept, IsLoneEntry, Known, greatest, newer, newest_in}
use Rattle.bk_load.specs.Loads.{AreBooks, AreLone, IsLoadedFrom, SaysAsRead, put_if}
use Rattle.bk_load.specs.Tidying.{NoneLent, Tidied}
use Rattle.bk_load.proofs.Counted.{all_rows, none_counted, row_counted}
use Rattle.bk_load.proofs.KeptKeys.{HasPut, all_in, kept_each, kept_few, kept_in, kept_lone, kept_newest, kept_put, kept_refs, live_kept}
use Rattle.bk_load.proofs.Places.{row_of_found}
use Rattle.bk_load.proofs.ReadFiles.{ours}

-- ---- over every disk

row_in : (id : ℕ) (fs : List FileFound) (r : Row) → row_of id (map found_row fs) ≡ Some r
    → (f : FileFound) × In f fs × (f.row ≡ r)
row_in id [] r is = absurd (cc is)
row_in id (f ∷ fs) r is =
    elim (cases_Bool (f.row.id.0 == id)) [
      | inl p ↦ let found : Some f.row ≡ Some r = rw p at is in (f, inl refl, cc found)
      | inr p ↦ let (g, is_in, same) = row_in id fs r (rw p at is) in (g, inr is_in, same)
    ]

-- a row that was counted has the length of its file
put_within : (n : ℕ) (es : List Entry) (found : List FileFound) (e : Entry) (f : FileFound) (p : HasPut n e)
    → AllByRecursion (IsLoneEntry n) es → FilesRise 1 found → In f found → EndsWithin f p.version
    → HasOnePut n (all_counted es (map found_row found)) e
put_within n es found e f p lone rise is_in ends =
    let (s, there, counted) =
    row_counted n f.row.id.0 es (map found_row found) f.row lone (row_of_found 1 found f rise is_in) in
    let len = counted.len_is in
    let within = ends.within in
    record {
      version = p.version;
      alone = p.alone;
      put = p.put;
      first = p.fits.seq.0;
      fit = record { given_out = p.read; long = p.fits.long };
      most = p.fits.most;
      row = s;
      named = ap (λ (i : FileId). row_of i.0 (all_counted es (map found_row found))) ends.file ∙ there;
      within = omega (arith, len, within);
    }

has_one_put : (k : Known) (found : List FileFound) → AreFit k → FilesRise 1 found → KeepsFound found [] k.keys.entries
    → (e : Entry) → In e (without_gone k.keys.entries)
    → HasOnePut k.last (all_counted (without_gone k.keys.entries) (map found_row found)) e
has_one_put k found fit rise kept e is_in = go (kept p.version (e, (kept_in k.keys.entries e is_in).0, there)) where
  p : HasPut k.last e
  p = kept_put k.last k.keys.entries fit.entries e is_in

  there : In p.version e.1
  there = subst (In p.version) (sym p.alone) (inl refl)

  go : IsKept p.version [] ⊎ ((f : FileFound) × In f found × EndsWithin f p.version)
      → HasOnePut k.last (all_counted (without_gone k.keys.entries) (map found_row found)) e
  go (inl none) = absurd none.1
  go (inr (f, found_in, ends)) =
      put_within k.last (without_gone k.keys.entries) found e f p (kept_each k.last k.keys.entries fit.entries) rise found_in ends

refs_counted : (n id : ℕ) (es : List Entry) (found : List FileFound) (r : Row) → AllByRecursion (IsLoneEntry n) es
    → AllByRecursion IsUncounted found → length es < 2 ^ 63
    → row_of id (all_counted (without_gone es) (map found_row found)) ≡ Some r → r.refs ≡ refs_of id (without_gone es)
refs_counted n id es found r lone un few is = go (row_of id (map found_row found)) refl where
  go : (o : Option Row) → row_of id (map found_row found) ≡ o → r.refs ≡ refs_of id (without_gone es)
  go None none =
      let never : None ≡ Some r = sym (none_counted id (without_gone es) (map found_row found) none) ∙ is in absurd (cc never)
  go (Some s) there =
      let (f, is_in, same_row) = row_in id found s there in
      let none : s.refs ≡ 0 = sym (ap (λ (x : Row). x.refs) same_row) ∙ (all_in IsUncounted found f un is_in).refs in
      let (c, found_c, counted) =
      row_counted n id (without_gone es) (map found_row found) s (kept_each n es lone) there in
      let one : Some r ≡ Some c = sym is ∙ found_c in
      let r_is : r ≡ c = cc one in
      let same : r.refs ≡ c.refs = ap (λ (x : Row). x.refs) r_is in
      let at_most = kept_few n id es lone in
      let refs = counted.refs_is (omega (arith, at_most, few, none)) in
      omega (arith, same, refs, none)

pub is_in_order : (es : List Entry) (k : Known) (found : List FileFound) (odd : List Name) (last : FileId) (l : Loaded) → Assembled k found odd last l
    → AreFit k → FilesRise 1 found → AllByRecursion IsUncounted found → es ≡ []
    → KeepsFound found es k.keys.entries → IsInOrder l
is_in_order es k found odd last l a fit rise un no_entries kept = record {
  seq = let p = a.seq in let q = fit.last in omega (arith, p, q);
  no_fold = a.no_fold;
  slots = a.slots;
  keys = λ e is_in.
      rw (a.seq, rows) (has_one_put k found fit rise from_none e (subst (λ (fs : List Entry). In e fs) a.entries is_in));
  refs = λ id r is.
      rw a.entries (refs_counted k.last id k.keys.entries found r fit.entries un a.few (rw rows at is));
} where
  rows : l.rows.items ≡ all_counted (without_gone k.keys.entries) (map found_row found)
  rows = a.rows ∙ ap (λ (fs : List Entry). all_counted fs (map found_row found)) a.entries

  from_none : KeepsFound found [] k.keys.entries
  from_none = subst (λ (fs : List Entry). KeepsFound found fs k.keys.entries) no_entries kept

-- nothing was read yet
pub fit_new : (k : Known) → k.keys.entries ≡ [] → k.last ≡ 0 → AreFit k
fit_new k none zero_is = record {
  last = omega (arith, zero_is);
  entries = subst (AllByRecursion (IsLoneEntry k.last)) (sym none) tt;
}

pub if_ok_map : {T E : Type 0} (r : Result T E) (P Q : T → Type 0) → ((x : T) → P x → Q x) → IfOk r P → IfOk r Q
if_ok_map (Ok x) P Q f p = f x p
if_ok_map (Err e) P Q f p = tt

pub on_ok_from : {T E : Type 0} (r : Result T E) (P : T → Type 0) (Q : Type 0) → Q → IfOk r P → OnOk r Q
on_ok_from (Ok x) P Q q p = q
on_ok_from (Err e) P Q q p = tt

-- the rows of files whose ids rise
pub rows_rise : (low : ℕ) (found : List FileFound) → FilesRise low found → RowsRise low (map found_row found)
rows_rise low [] rise = tt
rows_rise low (f ∷ fs) rise = (rise.0, rows_rise (f.row.id.0 + 1) fs rise.1)

pub rows_rise_all : (found : List FileFound) → FilesRise 1 found → RowsRise 0 (map found_row found)
rows_rise_all [] rise = tt
rows_rise_all (f ∷ fs) rise = (omega arith, rows_rise (f.row.id.0 + 1) fs rise.1)

-- ---- the files of the rows

greatest_there : (image : Image) (n : Name) → IsThere (at image) n → n.id ≤ greatest_in (listing image)
greatest_there [] n there = absurd (true≢false (sym there))
greatest_there (e ∷ es) n there =
    elim (cases_Bool (same n e.0)) [
      | inl p ↦ let is : n.id ≡ e.0.id = ap (λ (x : Name). x.id) (same_eq n e.0 p) in omega (arith, is)
      | inr p ↦ let later = greatest_there es n (rw p at there) in omega (arith, later)
    ]

id_within : (t u : Told) (n : Name) → Tidied (at t.image) (at u.image) → IsThere (at u.image) n
    → n.id ≤ greatest_in (listing t.image)
id_within t u n tidied there =
    let (m, was, id) = tidied.ids n there in
    let low = greatest_there t.image m was in
    omega (arith, low, id)

not_active : (s : RowState) → s ≡ Sealed → s ≡ active_state → ⊥
not_active s is wrong = let never : Sealed ≡ active_state = sym is ∙ wrong in cc never

found_at_rest : (u : Told) (f : FileFound) → IsWell u → NoneLent u.fronts → IsFound (at u.image) f → IsUncounted f
    → IsAtRest f.row u
found_at_rest u f well none found un = record {
  ours = ours u (main f.row.id.0) well none (ap is_some found.there);
  state = not_active f.row.state un.state;
  len = found.len ∙ sym (ap (λ (o : Option (List ℕ)). length (unwrap_or o [])) found.there);
}

found_rest : (low high : ℕ) (fs : List FileFound) (u : Told) → IsWell u → NoneLent u.fronts → FilesRise low fs
    → AllByRecursion (IsFound (at u.image)) fs → AllByRecursion IsUncounted fs
    → ((f : FileFound) → In f fs → f.row.id.0 < high) → AreAtRest low high (map found_row fs) u
found_rest low high [] u well none rise found un below = tt
found_rest low high (f ∷ fs) u well none rise found un below = (
  rise.0,
  below f (inl refl),
  found_at_rest u f well none found.0 un.0,
  found_rest (f.row.id.0 + 1) high fs u well none rise.1 found.1 un.1 (λ g is_in. below g (inr is_in)),
)

rest_edited : (low high : ℕ) (v : Version) (rows : List Row) (u : Told) → AreAtRest low high rows u
    → AreAtRest low high (edited v.file.0 (with_put v) rows) u
rest_edited low high v [] u rest = tt
rest_edited low high v (r ∷ rs) u rest =
    elim (cases_Bool (r.id.0 == v.file.0)) [
      | inl p ↦ rw p (
        rest.0,
        rest.1,
        record { ours = rest.2.ours; state = rest.2.state; len = rest.2.len },
        rest.3,
      )
      | inr p ↦ rw p (rest.0, rest.1, rest.2, rest_edited (r.id.0 + 1) high v rs u rest.3)
    ]

rest_counted : (low high : ℕ) (o : Option Version) (rows : List Row) (u : Told) → AreAtRest low high rows u
    → AreAtRest low high (counted_if o rows) u
rest_counted low high None rows u rest = rest
rest_counted low high (Some v) rows u rest = go v.gone where
  go : (b : Bool) → AreAtRest low high (cond b rows (edited v.file.0 (with_put v) rows)) u
  go true = rest
  go false = rest_edited low high v rows u rest

all_at_rest : (low high : ℕ) (es : List Entry) (rows : List Row) (u : Told) → AreAtRest low high rows u
    → AreAtRest low high (all_counted es rows) u
all_at_rest low high [] rows u rest = rest
all_at_rest low high (e ∷ es) rows u rest =
    all_at_rest low high es (counted_if (newest_of e.1) rows) u (rest_counted low high (newest_of e.1) rows u rest)

pub are_files_of : (t u : Told) (k : Known) (found : List FileFound) (odd : List Name) (last : FileId) (l : Loaded)
    → Tidied (at t.image) (at u.image) → IsWell u → NoneLent u.fronts → AreFound (at u.image) found → FilesRise 1 found
    → AllByRecursion IsUncounted found → Assembled k found odd last l → last.0 ≡ greatest_in (listing t.image)
    → AreFilesOf u l
are_files_of t u k found odd last l tidied well none files rise un a greatest_is = record {
  rows = subst (λ (rows : List Row). AreAtRest 1 (l.last_file.0 + 1) rows u) (sym a.rows)
      (all_at_rest 1 (l.last_file.0 + 1) l.keydir.entries (map found_row found) u
      (found_rest 1 (l.last_file.0 + 1) found u well none rise files.each un below));
  free = λ n above. absent n above;
} where
  last_is : l.last_file.0 ≡ greatest_in (listing t.image)
  last_is = ap (λ (x : FileId). x.0) a.file ∙ greatest_is

  below : (f : FileFound) → In f found → f.row.id.0 < l.last_file.0 + 1
  below f is_in =
      let is = all_in (IsFound (at u.image)) found f files.each is_in in
      let low = id_within t u (main f.row.id.0) tidied (ap is_some is.there) in
      omega (arith, low, last_is)

  absent : (n : Name) → l.last_file.0 < n.id → IsAbsent n u.image
  absent n above =
      elim (cases_Bool (is_some (at u.image n))) [
        | inl there ↦ let low = id_within t u n tidied there in absurd (omega (arith, low, last_is, above))
        | inr none ↦ none
      ]

-- ---- the counts

rise_above : (low id : ℕ) (fs : List FileFound) → FilesRise low fs → id < low → total_of id fs ≡ 0
rise_above low id [] rise lt = refl
rise_above low id (f ∷ fs) rise lt =
    let p = rise.0 in
    let other : (id == f.row.id.0) ≡ false = grind (arith, nat_tests, lt, p) in
    let later = rise_above (f.row.id.0 + 1) id fs rise.1 (omega (arith, lt, p)) in
    rw other (omega (arith, later))

row_total : (low id : ℕ) (fs : List FileFound) (r : Row) → FilesRise low fs → row_of id (map found_row fs) ≡ Some r
    → total_of id fs ≡ r.total
row_total low id [] r rise is = absurd (cc is)
row_total low id (f ∷ fs) r rise is =
    elim (cases_eq f.row.id.0 id) [
      | inl here ↦
          let at_row : (f.row.id.0 == id) ≡ true = eq-eqb f.row.id.0 id here in
          let at_id : (id == f.row.id.0) ≡ true = eq-eqb id f.row.id.0 (sym here) in
          let found : Some f.row ≡ Some r = rw at_row at is in
          let same : f.row ≡ r = cc found in
          let later = rise_above (f.row.id.0 + 1) id fs rise.1 (omega (arith, here)) in
          let total : f.row.total ≡ r.total = ap (λ (x : Row). x.total) same in
          rw at_id (omega (arith, later, total))
      | inr other ↦
          let at_row : (f.row.id.0 == id) ≡ false = grind (arith, nat_tests, other) in
          let at_id : (id == f.row.id.0) ≡ false = grind (arith, nat_tests, other) in
          let later = row_total (f.row.id.0 + 1) id fs r rise.1 (rw at_row at is) in
          rw at_id (omega (arith, later))
    ]

pub rows_stand : (n : ℕ) (es : List Entry) (found : List FileFound) → AllByRecursion (IsLoneEntry n) es → FilesRise 1 found
    → AllByRecursion IsUncounted found → ((id : ℕ) → live_of id es ≤ total_of id found)
    → RowsStand (all_counted (without_gone es) (map found_row found)) (without_gone es)
rows_stand n es found lone rise un grows id r is = go (row_of id (map found_row found)) refl where
  go : (o : Option Row) → row_of id (map found_row found) ≡ o → RowStands (without_gone es) id r
  go None none =
      let never : None ≡ Some r = sym (none_counted id (without_gone es) (map found_row found) none) ∙ is in absurd (cc never)
  go (Some s) there =
      let (f, is_in, same_row) = row_in id found s there in
      let u = all_in IsUncounted found f un is_in in
      let total = row_total 1 id found s rise there in
      let grown = grows id in
      let kept = live_kept id es in
      let refs = kept_refs n id es lone in
      let no_live : s.live ≡ 0 = sym (ap (λ (x : Row). x.live) same_row) ∙ u.live in
      let no_refs : s.refs ≡ 0 = sym (ap (λ (x : Row). x.refs) same_row) ∙ u.refs in
      let s_total : f.row.total ≡ s.total = ap (λ (x : Row). x.total) same_row in
      let within = u.total in
      let small = u.small in
      let (c, found_c, counted) =
      row_counted n id (without_gone es) (map found_row found) s (kept_each n es lone) there in
      let one : Some r ≡ Some c = sym is ∙ found_c in
      let r_is : r ≡ c = cc one in
      let live = counted.live_is (omega (arith, total, grown, kept, no_live, s_total, within, small)) in
      let refs_are = counted.refs_is (omega (arith, total, grown, kept, refs, no_refs, s_total, within, small)) in
      let total_is = counted.total_is in
      subst (RowStands (without_gone es) id) (sym r_is)
      (record {
        live = omega (arith, live, no_live);
        refs = omega (arith, refs_are, no_refs);
        live_within = omega (arith, live, no_live, total_is, total, grown, kept);
        refs_within = omega (arith, refs_are, no_refs, refs, total_is, total, grown, kept);
      })

-- ---- what the records said

pub is_loaded_from : (r : Reading) (j k : Known) (found : List FileFound) (odd : List Name) (last : FileId) (l : Loaded) → j.keys.entries ≡ []
    → j.last ≡ 0 → AreFit k → AreFound r found → FilesRise 1 found → AllByRecursion IsUncounted found
    → Assembled k found odd last l
    → ((books : Books) → AreBooks r books → HintsTrue r books → HaveRead books found j k) → IsLoadedFrom r l
is_loaded_from r j k found odd last l no_entries no_seq fit files rise un a read = record {
  found = found;
  files = files;
  rise = rise;
  uncounted = un;
  rows = a.rows;
  report = a.report;
  lone = subst AreLone (sym a.entries) (kept_lone k.last k.keys.entries a.once fit.entries);
  read = λ books are tell. says books (read books are tell);
} where
  nothing : (key : List ℕ) → newest_of (versions_of key j.keys.entries) ≡ None
  nothing key = ap (λ (es : List Entry). newest_of (versions_of key es)) no_entries

  says : (books : Books) → HaveRead books found j k → SaysAsRead books found l
  says books h = record {
    totals = h.totals;
    keys = λ key.
        ap (λ (es : List Entry). newest_of (versions_of key es)) a.entries
        ∙ kept_newest k.last k.keys.entries a.once fit.entries key
        ∙ ap put_if (h.learns key ∙ ap (λ (o : Option Version). newer o (newest_in key (placed_in books found))) (nothing key));
    last = a.seq ∙ h.last ∙ ap (λ (n : ℕ). greatest n (writes_in books found)) no_seq;
    counts = subst (λ (rows : List Row). RowsStand rows l.keydir.entries) (sym a.rows)
        (subst (λ (es : List Entry). RowsStand (all_counted es (map found_row found)) es) (sym a.entries)
        (rows_stand k.last k.keys.entries found fit.entries rise un grows));
  } where
    grows : (id : ℕ) → live_of id k.keys.entries ≤ total_of id found
    grows id =
        let p = h.grows id in
        let none : live_of id j.keys.entries ≡ 0 = ap (live_of id) no_entries in
        omega (arith, p, none)

pub synced_counted : (u : Told) (es : List Entry) (rows : List Row) → AreSyncedIfSealed rows u
    → AreSyncedIfSealed (all_counted es rows) u
synced_counted u es rows synced = all_rows (IsRowSyncedIfSealed u) es rows (λ v r is. is) synced
