-- The files that were found, with their rows once these were counted.
use Rattle.std.proofs.Common.{◌≡◌, ◌∙◌, ◌==◌, ℕ, ◌+◌, ◌-◌, ◌≤◌, nat_lt, Bool, true, false, cond, List, [], ◌∷◌, ◌++◌, map, Option, None, Some, refl, sym, ap, subst, arith, inl, inr, eq-eqb, eqb-true}
use Rattle.std.specs.List.{AllByRecursion, flat_map}
use Rattle.std.proofs.lemmas.Bool.Decides.{nat_tests}
use Rattle.bk_base.specs.declared.numbers.FileId.{FileId}
use Rattle.bk_base.specs.declared.rows.Row.{Row}
use Rattle.bk_base.specs.declared.writes.Version.{Version}
use Rattle.bk_base.specs.declared.writes.Write.{Write}
use Rattle.bk_files.specs.Catalog.{edited, row_of}
use Rattle.bk_hint.specs.declared.judging.Verdict.{Verdict}
use Rattle.bk_image.specs.Readings.{In}
use Rattle.bk_keydir.specs.Counts.{live_of}
use Rattle.bk_keydir.specs.Keydir.{Entry, newest_of}
use Rattle.bk_keydir.specs.declared.loads.HintNote.{HintNote}
use Rattle.bk_keydir.specs.declared.loads.Torn.{Torn}
use Rattle.bk_laws.specs.Version.{placed_from}
use Rattle.bk_load.specs.Counting.{RowsRise, all_counted, counted_if, with_put}
use Rattle.bk_load.specs.Found.{note_if, torn_if}
use Rattle.bk_report.specs.Directory.{ReportedFile, notes_on, records_in, row_in}
use Rattle.bk_store.specs.Rows.{RowsStand}

-- the row is that one, but for its counts
pub record IsRowOf (was row : Row) : Type 0 where
  pub id : row.id ≡ was.id
  pub len : row.len ≡ was.len
  pub total : row.total ≡ was.total

abbrev pub AreRowsOf : List Row → List Row → Type 0
AreRowsOf [] [] = Unit {0}
AreRowsOf [] (r ∷ rs) = ⊥
AreRowsOf (x ∷ xs) [] = ⊥
AreRowsOf (x ∷ xs) (r ∷ rs) = IsRowOf x r × AreRowsOf xs rs

-- these rows, each with what the hint of its file is
abbrev pub reported_of : Option Verdict → Row → ReportedFile
reported_of verdict row = record { row = row; verdict = verdict }

abbrev pub reported_in : List (Option Verdict) → List Row → List ReportedFile
reported_in [] rows = []
reported_in (v ∷ vs) [] = []
reported_in (v ∷ vs) (r ∷ rs) = reported_of v r ∷ reported_in vs rs

-- ---- counted rows are still theirs

rows_same : (rows : List Row) → AreRowsOf rows rows
rows_same [] = tt
rows_same (r ∷ rs) = (record { id = refl; len = refl; total = refl }, rows_same rs)

rows_edited : (id : ℕ) (v : Version) (was rows : List Row) → AreRowsOf was rows → AreRowsOf was (edited id (with_put v) rows)
rows_edited id v [] [] are = tt
rows_edited id v [] (r ∷ rs) are = absurd are
rows_edited id v (x ∷ xs) [] are = absurd are
rows_edited id v (x ∷ xs) (r ∷ rs) are = go (r.id.0 == id) (rows_edited id v xs rs are.1) where
  go : (b : Bool) → AreRowsOf xs (edited id (with_put v) rs)
      → AreRowsOf (x ∷ xs) (cond b (with_put v r ∷ rs) (r ∷ edited id (with_put v) rs))
  go true later = (record { id = are.0.id; len = are.0.len; total = are.0.total }, are.1)
  go false later = (are.0, later)

rows_counted_if : (o : Option Version) (was rows : List Row) → AreRowsOf was rows → AreRowsOf was (counted_if o rows)
rows_counted_if None was rows are = are
rows_counted_if (Some v) was rows are = go v.gone where
  go : (b : Bool) → AreRowsOf was (cond b rows (edited v.file.0 (with_put v) rows))
  go true = are
  go false = rows_edited v.file.0 v was rows are

rows_counted : (es : List Entry) (was rows : List Row) → AreRowsOf was rows → AreRowsOf was (all_counted es rows)
rows_counted [] was rows are = are
rows_counted (e ∷ es) was rows are =
    rows_counted es was (counted_if (newest_of e.1) rows) (rows_counted_if (newest_of e.1) was rows are)

pub rows_are : (es : List Entry) (rows : List Row) → AreRowsOf rows (all_counted es rows)
rows_are es rows = rows_counted es rows rows (rows_same rows)

-- ---- the files that were found, and the same with their rows once these were counted

abbrev torn_by : FileId → ℕ → ℕ → List Torn
torn_by file len total = cond (nat_lt total len) ((record { at = total; bytes = len - total; file = file }) ∷ []) []

torn_same : (was row : Row) → IsRowOf was row → torn_if row ≡ torn_if was
torn_same was row is =
    ap (λ (i : FileId). torn_by i row.len row.total) is.id ∙ ap (λ (n : ℕ). torn_by was.id n row.total) is.len
    ∙ ap (torn_by was.id was.len) is.total

-- the files' rows, and what their hints are
module _ {F : Type 0} (row_of_file : F → Row) (verdict_of : F → Option Verdict) where
  pub rows_reported : (fs : List F) (rows : List Row) → AreRowsOf (map row_of_file fs) rows
      → map row_in (reported_in (map verdict_of fs) rows) ≡ rows
  rows_reported [] [] are = refl
  rows_reported [] (r ∷ rs) are = absurd are
  rows_reported (f ∷ fs) [] are = absurd are
  rows_reported (f ∷ fs) (r ∷ rs) are = ap (λ (rows : List Row). r ∷ rows) (rows_reported fs rs are.1)

  pub torn_reported : (fs : List F) (rows : List Row) → AreRowsOf (map row_of_file fs) rows
      → flat_map torn_if (map row_in (reported_in (map verdict_of fs) rows)) ≡ flat_map torn_if (map row_of_file fs)
  torn_reported [] [] are = refl
  torn_reported [] (r ∷ rs) are = absurd are
  torn_reported (f ∷ fs) [] are = absurd are
  torn_reported (f ∷ fs) (r ∷ rs) are =
      ap (λ (t : List Torn). t ++ flat_map torn_if (map row_in (reported_in (map verdict_of fs) rs)))
      (torn_same (row_of_file f) r are.0)
      ∙ ap (λ (t : List Torn). torn_if (row_of_file f) ++ t) (torn_reported fs rs are.1)

  abbrev pub notes_of_file : F → List HintNote
  notes_of_file f = note_if (row_of_file f).id (verdict_of f)

  pub notes_reported : (fs : List F) (rows : List Row) → AreRowsOf (map row_of_file fs) rows
      → flat_map notes_on (reported_in (map verdict_of fs) rows) ≡ flat_map notes_of_file fs
  notes_reported [] [] are = refl
  notes_reported [] (r ∷ rs) are = absurd are
  notes_reported (f ∷ fs) [] are = absurd are
  notes_reported (f ∷ fs) (r ∷ rs) are =
      ap (λ (i : FileId). note_if i (verdict_of f) ++ flat_map notes_on (reported_in (map verdict_of fs) rs)) are.0.id
      ∙ ap (λ (t : List HintNote). notes_of_file f ++ t) (notes_reported fs rs are.1)

  abbrev pub records_of_file : (ℕ → List Write) → F → List (List ℕ × Version)
  records_of_file writes f = placed_from (row_of_file f).id 0 (writes (row_of_file f).id.0)

  pub records_reported : (writes : ℕ → List Write) (fs : List F) (rows : List Row) → AreRowsOf (map row_of_file fs) rows
      → flat_map (records_in writes) (reported_in (map verdict_of fs) rows) ≡ flat_map (records_of_file writes) fs
  records_reported writes [] [] are = refl
  records_reported writes [] (r ∷ rs) are = absurd are
  records_reported writes (f ∷ fs) [] are = absurd are
  records_reported writes (f ∷ fs) (r ∷ rs) are =
      ap (λ (i : FileId). placed_from i 0 (writes i.0)
      ++ flat_map (records_in writes) (reported_in (map verdict_of fs) rs)) are.0.id
      ∙ ap (λ (t : List (List ℕ × Version)). records_of_file writes f ++ t) (records_reported writes fs rs are.1)

  -- each file stands among them with its row
  pub file_reported : (fs : List F) (rows : List Row) (f : F) → AreRowsOf (map row_of_file fs) rows → In f fs
      → (g : ReportedFile) × In g (reported_in (map verdict_of fs) rows) × (g.row.id ≡ (row_of_file f).id)
  file_reported [] rows f are is_in = absurd is_in
  file_reported (x ∷ xs) [] f are is_in = absurd are
  file_reported (x ∷ xs) (r ∷ rs) f are (inl is) =
      (reported_of (verdict_of x) r, inl refl, are.0.id ∙ ap (λ g. (row_of_file g).id) (sym is))
  file_reported (x ∷ xs) (r ∷ rs) f are (inr later) =
      let (g, there, id) = file_reported xs rs f are.1 later in (g, inr there, id)

  -- what follows of a file that was found for it with its row
  pub each_reported : (P : F → Type 0) (Q : ReportedFile → Type 0) (low : ℕ) (fs : List F) (rows : List Row)
      → AreRowsOf (map row_of_file fs) rows → RowsRise low (map row_of_file fs) → AllByRecursion P fs
      → ((f : F) (row : Row) → low ≤ (row_of_file f).id.0 → IsRowOf (row_of_file f) row → P f
      → Q (reported_of (verdict_of f) row))
      → AllByRecursion Q (reported_in (map verdict_of fs) rows)
  each_reported P Q low [] [] are rise all step = tt
  each_reported P Q low [] (r ∷ rs) are rise all step = absurd are
  each_reported P Q low (f ∷ fs) [] are rise all step = absurd are
  each_reported P Q low (f ∷ fs) (r ∷ rs) are rise all step =
      let first = rise.0 in (
        step f r first are.0 all.0,
        each_reported P Q ((row_of_file f).id.0 + 1) fs rs are.1 rise.1 all.1 (λ g row le.
            step g row (omega (arith, first, le))),
      )

pub rise_again : (low : ℕ) (was rows : List Row) → AreRowsOf was rows → RowsRise low was → RowsRise low rows
rise_again low [] [] are rise = tt
rise_again low [] (r ∷ rs) are rise = absurd are
rise_again low (x ∷ xs) [] are rise = absurd are
rise_again low (x ∷ xs) (r ∷ rs) are rise = (
  subst (λ (i : FileId). low ≤ i.0) (sym are.0.id) rise.0,
  subst (λ (i : FileId). RowsRise (i.0 + 1) rs) (sym are.0.id) (rise_again (x.id.0 + 1) xs rs are.1 rise.1),
)

-- ---- each row's live bytes

row_of-id : (id : ℕ) (rows : List Row) (r : Row) → row_of id rows ≡ Some r → r.id.0 ≡ id
row_of-id id [] r is = absurd (cc is)
row_of-id id (x ∷ xs) r is = go (x.id.0 == id) refl is (row_of-id id xs r) where
  go : (b : Bool) → (x.id.0 == id) ≡ b → cond b (Some x) (row_of id xs) ≡ Some r
      → (row_of id xs ≡ Some r → r.id.0 ≡ id) → r.id.0 ≡ id
  go true here found later =
      let same : x ≡ r = cc found in ap (λ (y : Row). y.id.0) (sym same) ∙ eqb-true x.id.0 id here
  go false other found later = later found

-- the rows behind the first ones have greater numbers
row_above : (low id : ℕ) (rows : List Row) (r : Row) → RowsRise low rows → row_of id rows ≡ Some r → low ≤ id
row_above low id [] r rise is = absurd (cc is)
row_above low id (x ∷ xs) r rise is = go (x.id.0 == id) refl is (row_above (x.id.0 + 1) id xs r rise.1) where
  go : (b : Bool) → (x.id.0 == id) ≡ b → cond b (Some x) (row_of id xs) ≡ Some r
      → (row_of id xs ≡ Some r → x.id.0 + 1 ≤ id) → low ≤ id
  go true here found later =
      let first = rise.0 in let one = eqb-true x.id.0 id here in omega (arith, first, one)
  go false other found later = let first = rise.0 in let above = later found in omega (arith, first, above)

-- what holds of the row of each number holds of each row
each_row : (P : Row → Type 0) (low : ℕ) (rows : List Row) → RowsRise low rows
    → ((id : ℕ) (r : Row) → row_of id rows ≡ Some r → P r) → AllByRecursion P rows
each_row P low [] rise each = tt
each_row P low (x ∷ xs) rise each = (
  each x.id.0 x (ap (λ (b : Bool). cond b (Some x) (row_of x.id.0 xs)) (eq-eqb x.id.0 x.id.0 refl)),
  each_row P (x.id.0 + 1) xs rise.1 (λ id r is. each id r (behind id r is)),
) where
  behind : (id : ℕ) (r : Row) → row_of id xs ≡ Some r → row_of id (x ∷ xs) ≡ Some r
  behind id r is =
      let above = row_above (x.id.0 + 1) id xs r rise.1 is in
      let other : (x.id.0 == id) ≡ false = grind (arith, nat_tests, above) in
      ap (λ (b : Bool). cond b (Some x) (row_of id xs)) other ∙ is

all_mapped : (P : Row → Type 0) (files : List ReportedFile) → AllByRecursion P (map row_in files)
    → AllByRecursion (λ (f : ReportedFile). P f.row) files
all_mapped P [] all = tt
all_mapped P (f ∷ fs) all = (all.0, all_mapped P fs all.1)

pub rows_live : (keys : List Entry) (files : List ReportedFile) → RowsRise 1 (map row_in files)
    → RowsStand (map row_in files) keys → AllByRecursion (λ (f : ReportedFile). f.row.live ≡ live_of f.row.id.0 keys) files
rows_live keys files rise stand =
    all_mapped (λ (r : Row). r.live ≡ live_of r.id.0 keys) files
    (each_row (λ (r : Row). r.live ≡ live_of r.id.0 keys) 1 (map row_in files) rise (λ id r is.
    (stand id r is).live ∙ ap (λ (n : ℕ). live_of n keys) (sym (row_of-id id (map row_in files) r is))))
